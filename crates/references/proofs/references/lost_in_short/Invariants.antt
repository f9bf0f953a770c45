use mathlib.Core.Path.{◌≡◌}
use Prim.Native.Nat.{ℕ, ◌<◌}
use Rattle.seats.specs.Seating.{seat_at}
use Rattle.seats.specs.Faults.{lost_line}
use Rattle.references.proofs.references.lost_in_short.Given as goal

abbrev pub invariant-loop-i : goal.invariant-loop-i
invariant-loop-i l = (m : ℕ) → m < l.i → lost_line l.s l.seats (seat_at l.seats m) ≡ 0
