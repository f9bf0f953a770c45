use lib.Seq.{length-take-le}
use Rattle.page.specs.Tables.{WIDEST, width}
use Rattle.page.specs.Answers.{refusal, sound, refuse_if}
use Rattle.page.specs.Reading.{section_at}
use Rattle.page.specs.Handing.{cells_of, cells_refusal}
use Rattle.page.proofs.TableLaws.{width_le}
use Rattle.output.proofs.PutLaws.{put_as, put_same}
use Rattle.lookups.proofs.LookupLaws.{row_is}
use Rattle.grids.proofs.AnswerLaws.{table_refused, table_given, table_unsound, table_sound, cells_few, end_within, cells_counted, cells_all}
use Prim.Native.Nat.{ℕ, ◌+◌, ◌*◌, ◌≤◌}
use mathlib.Core.Path.{◌≡◌, refl, ap, sym, ◌∙◌}
use mathlib.Core.Bool.{Bool}
use native.Mathlib.Omega.{arith}
use borrow.Author.Tests.{lt-ltb, le-ltb}
use lib.ListN.{length}
use borrow.Author.Rules.{rules}
use Rattle.grids.proofs.hand_table.Goals as goal

pub returns-then-row-ne0 : goal.returns-then-row-ne0
returns-then-row-ne0 c =
    let a = c.args in
    let s = a.file.now in
    let x = c.read_section-row in
    let b = c.requires in
    let q = row_is s a.at _ _ c.read_charset-latin.ensures x.ensures in
    table_refused s a.section a.cells.now _ (table_unsound s a.section a.at b x.result q (length a.cells.now) c.if-row-ne0.true) c.if-row-ne0.true

pub overflow_mul-n : goal.overflow_mul-n
overflow_mul-n c = omega (arith, c.find_width-n.ensures, width_le c.table_at-t.result)

pub overflow_mul-row : goal.overflow_mul-row
overflow_mul-row c =
    let a = c.args in
    let s = a.file.now in
    let x = c.read_section-row in
    let b = c.requires in
    let q = row_is s a.at _ _ c.read_charset-latin.ensures x.ensures in
    let w : c.find_width-n.result * 3 ≤ WIDEST * 3 = omega (arith, c.find_width-n.ensures, width_le c.table_at-t.result) in
    let f = cells_few s a.section a.at b x.result q c.if-row-ne0.false (c.find_width-n.result * 3) w in
    omega arith

pub returns-then-cells-row : goal.returns-then-cells-row
unfolding refuse_if
returns-then-cells-row c =
    let a = c.args in
    let s = a.file.now in
    let x = c.read_section-row in
    let b = c.requires in
    let q = row_is s a.at _ _ c.read_charset-latin.ensures x.ensures in
    let t = c.table_at-t in
    let v = c.if-row-ne0.false in
    let n = c.find_width-n.result * 3 in
    let e = a.at + x.result.length in
    let w : n ≡ width t.result * 3 = ap (λ (k : ℕ). k * 3) c.find_width-n.ensures in
    let m = cells_counted s a.section a.at b x.result q v t.result e t.ensures refl n w in
    let i = end_within s a.section a.at b x.result q v t.result e t.ensures refl in
    let f : cells_refusal s a.section (length a.cells.now) ≡ refusal 21 0 0 =
    table_sound s a.section a.at b x.result q v (length a.cells.now)
    ∙ ap (λ (y : Bool). refuse_if y 21) (lt-ltb (length a.cells.now) (length (cells_of (section_at s a.section))) (omega (arith, m, c.if-cells-row.true))) in
    rw c.refuse_with.ensures (table_refused s a.section a.cells.now (refusal 21 0 0) f (λ (z : ◌≡◌ {A = ℕ} 21 0). omega arith))

pub overflow_add-e : goal.overflow_add-e
overflow_add-e c =
    let a = c.args in
    let s = a.file.now in
    let x = c.read_section-row in
    let b = c.requires in
    let q = row_is s a.at _ _ c.read_charset-latin.ensures x.ensures in
    let t = c.table_at-t in
    let v = c.if-row-ne0.false in
    let n = c.find_width-n.result * 3 in
    let e = a.at + x.result.length in
    let w : n ≡ width t.result * 3 = ap (λ (k : ℕ). k * 3) c.find_width-n.ensures in
    let m = cells_counted s a.section a.at b x.result q v t.result e t.ensures refl n w in
    let i = end_within s a.section a.at b x.result q v t.result e t.ensures refl in
    omega (arith, i.0, b.short)

pub slice_bounds-find_order-count : goal.slice_bounds-find_order-count
slice_bounds-find_order-count c =
    let a = c.args in
    let s = a.file.now in
    let x = c.read_section-row in
    let b = c.requires in
    let q = row_is s a.at _ _ c.read_charset-latin.ensures x.ensures in
    let t = c.table_at-t in
    let v = c.if-row-ne0.false in
    let e = a.at + x.result.length in
    let i = end_within s a.section a.at b x.result q v t.result e t.ensures refl in
    search rules

pub slice_bounds-find_order-start : goal.slice_bounds-find_order-start
slice_bounds-find_order-start c =
    let a = c.args in
    let s = a.file.now in
    let x = c.read_section-row in
    let b = c.requires in
    let q = row_is s a.at _ _ c.read_charset-latin.ensures x.ensures in
    let t = c.table_at-t in
    let v = c.if-row-ne0.false in
    let e = a.at + x.result.length in
    let i = end_within s a.section a.at b x.result q v t.result e t.ensures refl in
    search rules

pub slice_bounds-find_order-end : goal.slice_bounds-find_order-end
slice_bounds-find_order-end c =
    let a = c.args in
    let s = a.file.now in
    let x = c.read_section-row in
    let b = c.requires in
    let q = row_is s a.at _ _ c.read_charset-latin.ensures x.ensures in
    let t = c.table_at-t in
    let v = c.if-row-ne0.false in
    let e = a.at + x.result.length in
    let i = end_within s a.section a.at b x.result q v t.result e t.ensures refl in
    search rules

pub slice_bounds-put_records-end : goal.slice_bounds-put_records-end
slice_bounds-put_records-end c =
    let a = c.args in
    let s = a.file.now in
    let x = c.read_section-row in
    let b = c.requires in
    let q = row_is s a.at _ _ c.read_charset-latin.ensures x.ensures in
    let t = c.table_at-t in
    let v = c.if-row-ne0.false in
    let e = a.at + x.result.length in
    let i = end_within s a.section a.at b x.result q v t.result e t.ensures refl in
    sym (length-take-le _ _ i.0)

pub put_records-requires : goal.put_records-requires
put_records-requires c =
    let a = c.args in
    let s = a.file.now in
    let x = c.read_section-row in
    let b = c.requires in
    let q = row_is s a.at _ _ c.read_charset-latin.ensures x.ensures in
    let t = c.table_at-t in
    let v = c.if-row-ne0.false in
    let e = a.at + x.result.length in
    let i = end_within s a.section a.at b x.result q v t.result e t.ensures refl in
    let n = c.find_width-n.result * 3 in
    let w : n ≡ width t.result * 3 = ap (λ (k : ℕ). k * 3) c.find_width-n.ensures in
    let m = cells_counted s a.section a.at b x.result q v t.result e t.ensures refl n w in
    let o = c.find_order-o in
    let d = cells_all s a.section a.at b x.result q v t.result e t.ensures refl o.result o.ensures in
    let k = length-take-le e s i.0 in (
      rw k i.1,
      rw k (omega (arith, i.0, b.short)),
      o.ensures.stands,
      rw d (omega (arith, m, c.if-cells-row.false)),
    )

pub shape_of-cells : goal.shape_of-cells
shape_of-cells c = put_same c.put_records.ensures

pub returns : goal.returns
unfolding refuse_if
returns c =
    let a = c.args in
    let s = a.file.now in
    let x = c.read_section-row in
    let b = c.requires in
    let q = row_is s a.at _ _ c.read_charset-latin.ensures x.ensures in
    let t = c.table_at-t in
    let v = c.if-row-ne0.false in
    let e = a.at + x.result.length in
    let i = end_within s a.section a.at b x.result q v t.result e t.ensures refl in
    let n = c.find_width-n.result * 3 in
    let w : n ≡ width t.result * 3 = ap (λ (k : ℕ). k * 3) c.find_width-n.ensures in
    let m = cells_counted s a.section a.at b x.result q v t.result e t.ensures refl n w in
    let o = c.find_order-o in
    let d = cells_all s a.section a.at b x.result q v t.result e t.ensures refl o.result o.ensures in
    let h : length (cells_of (section_at s a.section)) ≤ length a.cells.now = omega (arith, m, c.if-cells-row.false) in
    let f : cells_refusal s a.section (length a.cells.now) ≡ sound =
    table_sound s a.section a.at b x.result q v (length a.cells.now)
    ∙ ap (λ (y : Bool). refuse_if y 21) (le-ltb (length a.cells.now) (length (cells_of (section_at s a.section))) h) in
    table_given s a.section a.cells.now f h _ _ (put_as d c.put_records.ensures)
