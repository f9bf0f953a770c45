use Prim.Native.Nat.{◌+◌, ◌-◌, ◌<◌}
use mathlib.Core.Path.{◌≡◌, ◌∙◌}
use native.Mathlib.Omega.{arith}
use borrow.Author.Rules.{rules}
use Rattle.page.specs.Tables.{WIDEST, width}
use Rattle.page.specs.Places.{Standing}
use Rattle.page.specs.Reading.{value_in}
use Rattle.page.specs.Handing.{cell_of, record_cells}
use Rattle.page.proofs.TableLaws.{width_le}
use Rattle.arrangement.specs.Orders.{held}
use Rattle.output.proofs.PutLaws.{begin, left_is, next_by, at_end, same}
use Rattle.values.proofs.StartLaws.{column_value}
use Rattle.cells.proofs.CellLaws.{cell_length, values_begin, values_more, values_end, first_fits, column_stands}
use Rattle.cells.proofs.put_values.Goals as goal

pub loop-c-init : goal.loop-c-init
loop-c-init c =
    let a = c.args in
    left_is (values_begin a.t (held a.t a.o.now) (record { at = a.at; rest = a.w.now; mark = a.m }) (width a.t)) begin

pub find_place-p-requires : goal.find_place-p-requires
find_place-p-requires c = c.requires.0.orderly

pub offset_bounds-starts-p : goal.offset_bounds-starts-p
offset_bounds-starts-p c =
    let a = c.args in
    let p = c.find_place-p in
    let h : c.loop-c.c < width a.t = omega (arith, c.find_width-c-end.ensures) in
    let i = column_stands a.t a.o.now c.loop-c.c p.result c.requires.0 h p.ensures in
    let k : p.result < WIDEST = omega (arith, width_le a.t) in
    search rules

pub bounds-starts-p : goal.bounds-starts-p
bounds-starts-p c =
    let a = c.args in
    let p = c.find_place-p in
    let h : c.loop-c.c < width a.t = omega (arith, c.find_width-c-end.ensures) in
    let i = column_stands a.t a.o.now c.loop-c.c p.result c.requires.0 h p.ensures in
    omega (arith, width_le a.t)

pub read_value-value-requires : goal.read_value-value-requires
read_value-value-requires c =
    let a = c.args in
    let p = c.find_place-p in
    let h : c.loop-c.c < width a.t = omega (arith, c.find_width-c-end.ensures) in
    let i = column_stands a.t a.o.now c.loop-c.c p.result c.requires.0 h p.ensures in
    (omega (arith, width_le a.t), c.find_starts-starts.ensures p.result i, c.requires.1)

pub put_value-i-requires : goal.put_value-i-requires
put_value-i-requires c =
    let a = c.args in
    let l = c.loop-c in
    let o = held a.t a.o.now in
    let x : Standing = record { at = a.at; rest = a.w.now; mark = a.m } in
    let h : l.c < width a.t = omega (arith, c.find_width-c-end.ensures) in
    let f = first_fits (cell_of (value_in a.t o x (l.c + 1))) (record_cells a.t o x (l.c + 1 + 1) (width a.t - (l.c + 1))) (values_more a.t o x (width a.t) l.c h) l.invariant c.requires.2 in
    omega (arith, f, cell_length (value_in a.t o x (l.c + 1)))

pub loop-c-preserved : goal.loop-c-preserved
loop-c-preserved c =
    let a = c.args in
    let l = c.loop-c in
    let o = held a.t a.o.now in
    let x : Standing = record { at = a.at; rest = a.w.now; mark = a.m } in
    let h : l.c < width a.t = omega (arith, c.find_width-c-end.ensures) in
    let p = c.find_place-p in
    let d = c.find_column in
    let n : l.c ≡ l.c + 1 - 1 = omega arith in
    let v = c.read_value-value.ensures
    ∙ column_value a.t (l.c + 1) l.c p.result a.at a.m o a.w.now d.result n p.ensures d.ensures in
    next_by (values_more a.t o x (width a.t) l.c h) l.invariant (rw v at c.put_value-i.ensures)

pub shape_of-cells : goal.shape_of-cells
shape_of-cells c =
    same c.loop-c.invariant

pub returns : goal.returns
returns c =
    let a = c.args in
    let l = c.loop-c in
    at_end (values_end a.t (held a.t a.o.now) (record { at = a.at; rest = a.w.now; mark = a.m }) (width a.t) l.c (omega (arith, c.find_width-c-end.ensures))) l.invariant
