use mathlib.Core.Path.{◌≡◌}
use Prim.Native.Nat.{◌≤◌}
use Rattle.page.specs.Tables.{width}
use Rattle.arrangement.specs.Orders.{held}
use Rattle.choices.proofs.ChoiceLaws.{kinds_from, slots_from}
use Rattle.choices.proofs.choose_columns.Given as goal

abbrev pub invariant-loop-k : goal.invariant-loop-k
invariant-loop-k l =
    (l.k ≤ width l.t) × (l.kinds ≡ kinds_from l.taken l.t (held l.t l.o) l.k) × (l.slots ≡ slots_from l.taken l.t (held l.t l.o) l.k)
