use native.Mathlib.Omega.{arith}
use Rattle.aims.proofs.AimLaws.{looked_here}
use Rattle.references.proofs.references.lost_in_short.Goals as goal

pub returns-in-Some : goal.returns-in-Some
returns-in-Some c = looked_here _ _ c.requires c.loop-i.i c.loop-i.invariant (omega arith) _ c.in-Some.ensures c.args.seats.now.count
