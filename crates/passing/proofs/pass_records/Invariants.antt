use Prim.Native.Nat.{ℕ, ◌+◌, ◌≤◌}
use mathlib.Core.Path.{◌≡◌}
use lib.ListN.{length, drop}
use Rattle.page.specs.Lines.{lines}
use Rattle.page.specs.Section.{run}
use Rattle.page.specs.declared.Phase.TheVariants as P
use Rattle.arrangement.specs.Orders.{held}
use Rattle.passing.proofs.pass_records.Given as goal

abbrev pub invariant-loop-line : goal.invariant-loop-line
invariant-loop-line l =
    let at = l.line-iterator.at in
    record {
      same : l.line-iterator.bytes.now ≡ l.s;
      within : at ≤ length l.s;
      counted : l.from + l.count ≤ at;
      ran : (i k : ℕ) → run l.latin (P.Rows l.t l.m i) (held l.t l.o) k (lines (drop l.from l.s)) ≡ run l.latin (P.Rows l.t l.mark (i + l.count)) (held l.t l.o) (k + l.count) (lines (drop at l.s));
    }
