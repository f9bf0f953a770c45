use Prim.Native.Nat.{◌+◌}
use mathlib.Core.Bool.{false}
use mathlib.Core.Path.{◌≡◌, refl, ap, sym, ◌∙◌}
use native.Mathlib.Omega.{arith}
use borrow.Author.Rules.{rules}
use lib.Seq.{length-take-le}
use Rattle.page.specs.Reading.{outside}
use Rattle.page.specs.Records.{table_index}
use Rattle.page.specs.Tables.{width}
use Rattle.lookups.proofs.LookupLaws.{Ready, row_is, order_from, value_unsound, value_outside, value_inside, ready, outside_left, outside_right}
use Rattle.cut.specs.Walk.{section_from}
use Rattle.lookups.proofs.value_at.Goals as goal

pub returns-then-row-ne0 : goal.returns-then-row-ne0
returns-then-row-ne0 c =
    let a = c.args in
    let x = c.read_section-row in
    value_unsound a.file.now a.i a.at a.r a.f x.result (row_is a.file.now a.at _ _ c.read_charset-latin.ensures x.ensures) c.if-row-ne0.true

pub returns-then-is_outside : goal.returns-then-is_outside
returns-then-is_outside c =
    let a = c.args in
    let x = c.read_section-row in
    let q = row_is a.file.now a.at _ _ c.read_charset-latin.ensures x.ensures in
    value_outside a.file.now a.i a.at a.r a.f x.result q c.if-row-ne0.false c.refuse_with.result c.refuse_with.ensures (outside_left _ _ (sym c.is_outside.ensures ∙ c.if-is_outside.true))

pub returns-then-is_outside-2 : goal.returns-then-is_outside-2
returns-then-is_outside-2 c =
    let a = c.args in
    let x = c.read_section-row in
    let q = row_is a.file.now a.at _ _ c.read_charset-latin.ensures x.ensures in
    let w : width (table_index (section_from a.file.now a.at).lines) ≡ c.find_width.result = ap width (sym c.table_at-t.ensures) ∙ sym c.find_width.ensures in
    value_outside a.file.now a.i a.at a.r a.f x.result q c.if-row-ne0.false c.refuse_with-then-is_outside-2.result c.refuse_with-then-is_outside-2.ensures (outside_right (outside a.r x.result.records) (outside a.f (width (table_index (section_from a.file.now a.at).lines))) (rw w (sym c.is_outside-2.ensures ∙ c.if-is_outside-2.true)))

pub overflow_add-e : goal.overflow_add-e
overflow_add-e c = let d = (let h : Ready c.args.file.now c.args.at c.args.r c.args.f (c.args.at + c.read_section-row.result.length) = let a = c.args in
    let x = c.read_section-row in
    let q = row_is a.file.now a.at _ _ c.read_charset-latin.ensures x.ensures in
    let w : width (table_index (section_from a.file.now a.at).lines) ≡ c.find_width.result =
    ap width (sym c.table_at-t.ensures) ∙ sym c.find_width.ensures in
    let m : outside a.r x.result.records ≡ false = sym c.is_outside.ensures ∙ c.if-is_outside.false in
    let n : outside a.f (width (table_index (section_from a.file.now a.at).lines)) ≡ false = rw w (sym c.is_outside-2.ensures ∙ c.if-is_outside-2.false) in
    ready a.file.now a.at a.r a.f (a.at + x.result.length) x.result c.requires.0 q m n refl in h) in search rules

pub slice_bounds-find_order-count : goal.slice_bounds-find_order-count
slice_bounds-find_order-count c = let d = (let h : Ready c.args.file.now c.args.at c.args.r c.args.f (c.args.at + c.read_section-row.result.length) = let a = c.args in
    let x = c.read_section-row in
    let q = row_is a.file.now a.at _ _ c.read_charset-latin.ensures x.ensures in
    let w : width (table_index (section_from a.file.now a.at).lines) ≡ c.find_width.result =
    ap width (sym c.table_at-t.ensures) ∙ sym c.find_width.ensures in
    let m : outside a.r x.result.records ≡ false = sym c.is_outside.ensures ∙ c.if-is_outside.false in
    let n : outside a.f (width (table_index (section_from a.file.now a.at).lines)) ≡ false = rw w (sym c.is_outside-2.ensures ∙ c.if-is_outside-2.false) in
    ready a.file.now a.at a.r a.f (a.at + x.result.length) x.result c.requires.0 q m n refl in h) in search rules

pub slice_bounds-find_order-start : goal.slice_bounds-find_order-start
slice_bounds-find_order-start c = let d = (let h : Ready c.args.file.now c.args.at c.args.r c.args.f (c.args.at + c.read_section-row.result.length) = let a = c.args in
    let x = c.read_section-row in
    let q = row_is a.file.now a.at _ _ c.read_charset-latin.ensures x.ensures in
    let w : width (table_index (section_from a.file.now a.at).lines) ≡ c.find_width.result =
    ap width (sym c.table_at-t.ensures) ∙ sym c.find_width.ensures in
    let m : outside a.r x.result.records ≡ false = sym c.is_outside.ensures ∙ c.if-is_outside.false in
    let n : outside a.f (width (table_index (section_from a.file.now a.at).lines)) ≡ false = rw w (sym c.is_outside-2.ensures ∙ c.if-is_outside-2.false) in
    ready a.file.now a.at a.r a.f (a.at + x.result.length) x.result c.requires.0 q m n refl in h) in search rules

pub slice_bounds-find_order-end : goal.slice_bounds-find_order-end
slice_bounds-find_order-end c = let d = (let h : Ready c.args.file.now c.args.at c.args.r c.args.f (c.args.at + c.read_section-row.result.length) = let a = c.args in
    let x = c.read_section-row in
    let q = row_is a.file.now a.at _ _ c.read_charset-latin.ensures x.ensures in
    let w : width (table_index (section_from a.file.now a.at).lines) ≡ c.find_width.result =
    ap width (sym c.table_at-t.ensures) ∙ sym c.find_width.ensures in
    let m : outside a.r x.result.records ≡ false = sym c.is_outside.ensures ∙ c.if-is_outside.false in
    let n : outside a.f (width (table_index (section_from a.file.now a.at).lines)) ≡ false = rw w (sym c.is_outside-2.ensures ∙ c.if-is_outside-2.false) in
    ready a.file.now a.at a.r a.f (a.at + x.result.length) x.result c.requires.0 q m n refl in h) in search rules

pub slice_bounds-seek_value-end : goal.slice_bounds-seek_value-end
slice_bounds-seek_value-end c = sym (length-take-le _ _ ((let h : Ready c.args.file.now c.args.at c.args.r c.args.f (c.args.at + c.read_section-row.result.length) = let a = c.args in
    let x = c.read_section-row in
    let q = row_is a.file.now a.at _ _ c.read_charset-latin.ensures x.ensures in
    let w : width (table_index (section_from a.file.now a.at).lines) ≡ c.find_width.result =
    ap width (sym c.table_at-t.ensures) ∙ sym c.find_width.ensures in
    let m : outside a.r x.result.records ≡ false = sym c.is_outside.ensures ∙ c.if-is_outside.false in
    let n : outside a.f (width (table_index (section_from a.file.now a.at).lines)) ≡ false = rw w (sym c.is_outside-2.ensures ∙ c.if-is_outside-2.false) in
    ready a.file.now a.at a.r a.f (a.at + x.result.length) x.result c.requires.0 q m n refl in h)).within)

pub overflow_sub-r : goal.overflow_sub-r
overflow_sub-r c = let d = (let h : Ready c.args.file.now c.args.at c.args.r c.args.f (c.args.at + c.read_section-row.result.length) = let a = c.args in
    let x = c.read_section-row in
    let q = row_is a.file.now a.at _ _ c.read_charset-latin.ensures x.ensures in
    let w : width (table_index (section_from a.file.now a.at).lines) ≡ c.find_width.result =
    ap width (sym c.table_at-t.ensures) ∙ sym c.find_width.ensures in
    let m : outside a.r x.result.records ≡ false = sym c.is_outside.ensures ∙ c.if-is_outside.false in
    let n : outside a.f (width (table_index (section_from a.file.now a.at).lines)) ≡ false = rw w (sym c.is_outside-2.ensures ∙ c.if-is_outside-2.false) in
    ready a.file.now a.at a.r a.f (a.at + x.result.length) x.result c.requires.0 q m n refl in h) in search rules

pub seek_value-requires : goal.seek_value-requires
seek_value-requires c =
    let d = (let h : Ready c.args.file.now c.args.at c.args.r c.args.f (c.args.at + c.read_section-row.result.length) = let a = c.args in
    let x = c.read_section-row in
    let q = row_is a.file.now a.at _ _ c.read_charset-latin.ensures x.ensures in
    let w : width (table_index (section_from a.file.now a.at).lines) ≡ c.find_width.result =
    ap width (sym c.table_at-t.ensures) ∙ sym c.find_width.ensures in
    let m : outside a.r x.result.records ≡ false = sym c.is_outside.ensures ∙ c.if-is_outside.false in
    let n : outside a.f (width (table_index (section_from a.file.now a.at).lines)) ≡ false = rw w (sym c.is_outside-2.ensures ∙ c.if-is_outside-2.false) in
    ready a.file.now a.at a.r a.f (a.at + x.result.length) x.result c.requires.0 q m n refl in h) in
    let k = length-take-le _ c.args.file.now d.within in
    (rw k d.start, rw k (omega (arith, c.requires.1, d.within)), c.find_order-o.ensures.stands.orderly, d.column_in)

pub returns : goal.returns
returns c =
    let a = c.args in
    let y = c.requires in
    let x = c.read_section-row in
    let t = c.table_at-t in
    let q = row_is a.file.now a.at _ _ c.read_charset-latin.ensures x.ensures in
    let w : width (table_index (section_from a.file.now a.at).lines) ≡ c.find_width.result = ap width (sym t.ensures) ∙ sym c.find_width.ensures in
    let m : outside a.r x.result.records ≡ false = sym c.is_outside.ensures ∙ c.if-is_outside.false in
    let n : outside a.f (width (table_index (section_from a.file.now a.at).lines)) ≡ false = rw w (sym c.is_outside-2.ensures ∙ c.if-is_outside-2.false) in
    let d = (let h : Ready c.args.file.now c.args.at c.args.r c.args.f (c.args.at + c.read_section-row.result.length) = let a = c.args in
    let x = c.read_section-row in
    let q = row_is a.file.now a.at _ _ c.read_charset-latin.ensures x.ensures in
    let w : width (table_index (section_from a.file.now a.at).lines) ≡ c.find_width.result =
    ap width (sym c.table_at-t.ensures) ∙ sym c.find_width.ensures in
    let m : outside a.r x.result.records ≡ false = sym c.is_outside.ensures ∙ c.if-is_outside.false in
    let n : outside a.f (width (table_index (section_from a.file.now a.at).lines)) ≡ false = rw w (sym c.is_outside-2.ensures ∙ c.if-is_outside-2.false) in
    ready a.file.now a.at a.r a.f (a.at + x.result.length) x.result c.requires.0 q m n refl in h) in
    let v = c.if-row-ne0.false in
    let o = order_from a.file.now a.at y.0 y.2 x.result q v t.result _ t.ensures refl _ c.find_order-o.ensures in
    value_inside a.file.now a.i a.at a.r a.f x.result q v _ m n (rw (sym o, sym t.ensures, sym d.same_lines) c.seek_value.ensures)
