use Rattle.std.proofs.Common.{◌-◌, length}
use Rattle.quoted.proofs.WalkLaws.{Walked}
use Rattle.quoted.proofs.walk.walk_body.Given as goal

abbrev pub invariant-loop-i : goal.invariant-loop-i
invariant-loop-i l = Walked l.w l.wide l.from l.i l.size

abbrev pub decreases-loop-i : goal.decreases-loop-i
decreases-loop-i l = length l.w - l.i
