use borrow.Author.Rules.{rules}
use Rattle.scans.proofs.ScanLaws.{keyed}
use Rattle.scans.proofs.scan.key_in.Goals as goal

pub returns : goal.returns
returns c =
    (search rules, keyed _ _ _ c.content_of.ensures _ c.rest_of-fields.ensures _ c.read_chosen.ensures)
