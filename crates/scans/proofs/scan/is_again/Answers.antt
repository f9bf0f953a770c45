use mathlib.Core.Path.{sym, ◌∙◌}
use Rattle.scans.proofs.ScanLaws.{again_other, again_keyed}
use Rattle.scans.proofs.scan.is_again.Goals as goal

pub returns-in-Some : goal.returns-in-Some
returns-in-Some c =
    let k = c.in-Some.ensures in
    c.is_some.ensures ∙ c.find_key.ensures.met ∙ sym (again_keyed _ _ _ k.0 _ k.1)

pub returns-in-None : goal.returns-in-None
returns-in-None c = sym (again_other _ _ _ c.in-None.ensures)
