use mathlib.Core.Path.{◌≡◌}
use mathlib.Core.Bool.{false}
use Prim.Native.Nat.{◌≤◌}
use lib.ListN.{drop}
use Rattle.doubling.specs.Raw.{undoubled}
use Rattle.keys.specs.Numbers.{packed_from}
use Rattle.keys.proofs.read.pack_own.Given as goal

abbrev pub invariant-loop-b : goal.invariant-loop-b
invariant-loop-b l = (1 ≤ l.n) × (packed_from l.n (undoubled l.met (drop l.b-index l.raw)) ≡ packed_from 1 (undoubled false l.raw))
