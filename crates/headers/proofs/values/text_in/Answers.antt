use mathlib.Core.Path.{sym}
use Rattle.page.specs.Head.{text_span}
use Rattle.clauses.proofs.TextLaws.{fields_some}
use Rattle.headers.proofs.values.text_in.Goals as goal

pub find_field-f-requires : goal.find_field-f-requires
find_field-f-requires c =
    fields_some _

pub returns : goal.returns
unfolding text_span
returns c =
    rw (sym c.find_line-l.ensures.at, sym c.find_line-l.ensures.rest, sym c.find_field-f.ensures.0, c.saturating_sub.ensures)
