use mathlib.Core.Path.{◌≡◌}
use Prim.Native.Nat.{◌+◌, ◌≤◌}
use lib.ListN.{length, drop}
use Rattle.page.specs.Fields.{fields}
use Rattle.page.proofs.FieldLaws.{from}
use Rattle.names.proofs.EnteredLaws.{Entered}
use Rattle.names.proofs.orders.arrange.Given as goal

abbrev pub invariant-loop-k : goal.invariant-loop-k
invariant-loop-k l = record {
  within : l.at ≤ length l.w + 1;
  left : drop l.k (fields l.w) ≡ from l.w l.at;
  some : l.k ≤ length (fields l.w);
  entered : Entered l.t (fields l.w) l.k l.o l.seen;
}
