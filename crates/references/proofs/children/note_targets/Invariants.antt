use Prim.Native.Nat.{◌-◌}
use lib.ListN.{length}
use Rattle.references.proofs.children.note_targets.Given as goal

abbrev pub decreases-loop-from : goal.decreases-loop-from
decreases-loop-from l = length l.w - l.from
