use mathlib.Core.Path.{◌≡◌}
use Prim.Native.Nat.{◌+◌}
use lib.ListN.{drop}
use Rattle.page.specs.Order.{place}
use Rattle.arrangement.specs.Orders.{held}
use Rattle.arrangement.proofs.find_place.Given as goal

abbrev pub invariant-loop-p : goal.invariant-loop-p
invariant-loop-p l = l.p + place l.c (drop l.p (held l.t l.o)) ≡ place l.c (held l.t l.o)
