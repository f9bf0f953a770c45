use mathlib.Core.Path.{◌≡◌}
use Prim.Native.Nat.{◌+◌, ◌≤◌}
use lib.ListN.{length, drop}
use Rattle.page.specs.Fields.{fields}
use Rattle.page.specs.Order.{standing}
use Rattle.page.specs.Section.{formats_ok}
use Rattle.page.proofs.FieldLaws.{from}
use Rattle.page.proofs.MatchLaws.{matches, has_format}
use Rattle.arrangement.specs.Orders.{held}
use Rattle.names.proofs.formats_match.Given as goal

abbrev pub invariant-loop-k : goal.invariant-loop-k
invariant-loop-k l =
    (l.at ≤ length l.w + 1) × (matches has_format (drop l.k (standing l.t (held l.t l.o))) (from l.w l.at) ≡ formats_ok (standing l.t (held l.t l.o)) (fields l.w))
