use mathlib.Core.Path.{◌≡◌, sym, ◌∙◌}
use Prim.Native.Nat.{◌-◌}
use native.Mathlib.Omega.{arith}
use borrow.Author.Rules.{rules}
use borrow.Author.Tests.{eqb-true}
use lib.ListN.{length, take, drop}
use Rattle.page.specs.Tables.{width}
use Rattle.page.specs.Places.{Standing}
use Rattle.page.specs.Handing.{record_cells}
use Rattle.page.proofs.ScanLaws.{part_length}
use Rattle.arrangement.specs.Orders.{held}
use Rattle.output.proofs.PutLaws.{left_is, next_by, at_end}
use Rattle.cells.proofs.CellLaws.{first_fits}
use Rattle.grids.proofs.GridLaws.{cells_more, cells_other, cells_end}
use Rattle.grids.proofs.put_records.Goals as goal

pub place_fields-p-requires : goal.place_fields-p-requires
place_fields-p-requires c =
    let t = rw c.loop-line.invariant.same at c.in-Some.ensures.steps.1 in
    let e : c.end.result ≡ c.next.new.self.at = omega arith in
    rw (t.at, e) (t.before, t.size, eqb-true _ 11 (rw t.bytes at (sym c.is_record.ensures ∙ c.if-is_record.true)))

pub put_values-i-requires : goal.put_values-i-requires
put_values-i-requires c =
    let a = c.args in
    let s = a.s.now in
    let o = held a.t a.o.now in
    let l = c.loop-line in
    let t = rw l.invariant.same at c.in-Some.ensures.steps.1 in
    let e : c.end.result ≡ c.next.new.self.at = omega arith in
    let p = c.place_fields-p.result in
    let d = rw (t.at, e) at c.place_fields-p.ensures in
    let x : Standing = record { at = p.from; rest = take (p.to - p.from) (drop p.from s); mark = p.mark } in
    let z = cells_more s _ _ t.before t.size a.t o l.m c.is_record.result (rw t.bytes at c.is_record.ensures) c.if-is_record.true p d in
    let n : length (take (p.to - p.from) (drop p.from s)) ≡ p.to - p.from = part_length p.from p.to s d.within in (
      c.requires.2,
      rw n (omega (arith, d.order, d.within, c.requires.1)),
      first_fits (record_cells a.t o x 1 (width a.t)) _ z l.invariant.todo (omega (arith, c.requires.3)),
    )

pub loop-line-preserved-then-is_record : goal.loop-line-preserved-then-is_record
loop-line-preserved-then-is_record c =
    let a = c.args in
    let l = c.loop-line in
    let t = rw l.invariant.same at c.in-Some.ensures.steps.1 in
    let e : c.end.result ≡ c.next.new.self.at = omega arith in
    let d = rw (t.at, e) at c.place_fields-p.ensures in
    let z = cells_more a.s.now _ _ t.before t.size a.t (held a.t a.o.now) l.m c.is_record.result (rw t.bytes at c.is_record.ensures) c.if-is_record.true
    c.place_fields-p.result d in
    record { same = search rules; within = t.within; todo = next_by z l.invariant.todo c.put_values-i.ensures }

pub loop-line-preserved : goal.loop-line-preserved
loop-line-preserved c =
    let a = c.args in
    let l = c.loop-line in
    let t = rw l.invariant.same at c.in-Some.ensures.steps.1 in
    let z = cells_other a.s.now _ _ t.before t.size a.t (held a.t a.o.now) l.m c.is_record.result (rw t.bytes at c.is_record.ensures) c.if-is_record.false in
    record { same = search rules; within = t.within; todo = rw (rw t.bytes at c.wait_on-m.ensures) (left_is z l.invariant.todo) }

pub returns : goal.returns
returns c =
    let a = c.args in
    let l = c.loop-line in
    at_end (cells_end a.s.now _ a.t (held a.t a.o.now) l.m (rw l.invariant.same at c.in-None.ensures.steps.2)) l.invariant.todo
