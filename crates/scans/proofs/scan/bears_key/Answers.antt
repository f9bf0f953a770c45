use mathlib.Core.Path.{◌∙◌}
use Rattle.scans.proofs.ScanLaws.{bears_keyed}
use Rattle.scans.proofs.scan.bears_key.Goals as goal

pub returns : goal.returns
returns c = c.eq.ensures ∙ bears_keyed c.args.choice c.args.line.now c.key_in.result c.args.key c.key_in.ensures
