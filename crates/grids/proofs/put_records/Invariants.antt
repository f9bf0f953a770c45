use Rattle.page.specs.Lines.{lines}
use Rattle.page.specs.Handing.{cells_in}
use Rattle.arrangement.specs.Orders.{held}
use Rattle.output.proofs.PutLaws.{Todo}
use Prim.Native.Nat.{◌≤◌}
use mathlib.Core.Path.{◌≡◌}
use lib.ListN.{length, drop}
use Rattle.grids.proofs.put_records.Given as goal

abbrev pub invariant-loop-line : goal.invariant-loop-line
invariant-loop-line l =
    let at = l.line-iterator.at in
    record {
      same : l.line-iterator.bytes.now ≡ l.s;
      within : at ≤ length l.s;
      todo : Todo l.initial.cells 0 (cells_in l.t (held l.t l.o) 0 l.from (lines (drop l.from l.s))) l.cells l.i (cells_in l.t (held l.t l.o) l.m at (lines (drop at l.s)));
    }
