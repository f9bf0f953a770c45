use Prim.Native.Nat.{◌+◌, ◌-◌, ◌≤◌}
use mathlib.Core.Path.{◌≡◌}
use lib.ListN.{length}
use Rattle.page.specs.Places.{field_place}
use Rattle.values.proofs.find_start.Given as goal

abbrev pub invariant-loop : goal.invariant-loop
invariant-loop l = (l.at ≤ length l.w + 1 + l.counter) × (field_place (l.p - l.counter) l.at l.w ≡ field_place l.p 0 l.w)
