use Prim.Native.Nat.{◌+◌, ◌-◌}
use Rattle.page.specs.Tables.{width}
use Rattle.page.specs.Handing.{record_cells}
use Rattle.arrangement.specs.Orders.{held}
use Rattle.output.proofs.PutLaws.{Todo}
use Rattle.cells.proofs.put_values.Given as goal

abbrev pub invariant-loop-c : goal.invariant-loop-c
invariant-loop-c l =
    Todo l.initial.cells l.from (record_cells l.t (held l.t l.o) (record { at = l.at; rest = l.w; mark = l.m }) 1 (width l.t)) l.cells l.i (record_cells l.t (held l.t l.o) (record { at = l.at; rest = l.w; mark = l.m }) (l.c + 1) (width l.t - l.c))
