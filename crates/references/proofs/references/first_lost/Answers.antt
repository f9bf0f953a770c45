use Rattle.aims.proofs.AimLaws.{looked_all}
use Rattle.references.proofs.references.first_lost.Goals as goal

pub returns-then-s-lt-FEW : goal.returns-then-s-lt-FEW
returns-then-s-lt-FEW c = looked_all _ _ c.requires _ c.lost_in_short.ensures

pub returns-else-s-lt-FEW : goal.returns-else-s-lt-FEW
returns-else-s-lt-FEW c = looked_all _ _ c.requires _ c.lost_before.ensures
