use Prim.Native.Nat.{◌+◌, ◌-◌, ◌≤◌}
use mathlib.Core.Path.{◌≡◌}
use mathlib.Core.List.{◌∷◌}
use lib.ListN.{length, drop}
use Rattle.copies.specs.Parts.{Whole}
use Rattle.copies.proofs.StandLaws.{Left}
use Rattle.copies.proofs.standing.all_written.Given as goal

abbrev pub invariant-loop-p : goal.invariant-loop-p
invariant-loop-p l = (l.p ≤ length l.w + 1) × (l.p ≤ length l.w → drop l.p (59 ∷ l.w) ≡ 59 ∷ drop l.p l.w) × (Left l.w l.p → Whole l.w)

abbrev pub decreases-loop-p : goal.decreases-loop-p
decreases-loop-p l = length l.w + 1 - l.p
