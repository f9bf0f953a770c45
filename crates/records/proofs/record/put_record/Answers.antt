use Rattle.std.proofs.Common.{ℕ, ap, sym, ◌∙◌}
use Rattle.page.specs.Bytes.{bytes}
use Rattle.page.specs.Fields.{fields}
use Rattle.page.specs.Tables.{columns}
use Rattle.page.specs.Order.{by_column, column_in}
use Rattle.page.specs.Records.{values_of}
use Rattle.page.specs.Form.{record_form}
use Rattle.page.proofs.OrderLaws.{columns_many}
use Rattle.arrangement.specs.Orders.{held}
use Rattle.laws.proofs.Passed.{passed_width, passed_wrong}
use Rattle.output.proofs.OutputLaws.{puts, put_as}
use Rattle.copies.specs.Changed.{strips, field_of, text_of, changed_values}
use Rattle.copies.specs.Planned.{record_by}
use Rattle.copies.proofs.PartLaws.{record_is}
use Rattle.records.proofs.RecordLaws.{record_copied}
use Rattle.records.proofs.record.put_record.Goals as goal

pub column_in-i-requires : goal.column_in-i-requires
column_in-i-requires c = c.requires.0.orderly

pub returns-then-is_kept : goal.returns-then-is_kept
unfolding bytes record_by
returns-then-is_kept c =
    let a = c.args in
    let q = c.requires in
    let w = a.w.now in
    let o = held a.t a.o.now in
    let k = c.is_kept.ensures c.if-is_kept.true in
    let n = passed_width a.t o a.m (fields w) q.2 in
    let z = passed_wrong a.t o a.m (fields w) q.2 in
    put_as
    (record_copied a.plan.ends (strips a.plan.change) (text_of a.plan.change) (field_of a.plan.change) (column_in o a.m) a.t o w n z (q.1 k.0)
    (sym c.column_in-i.ensures ∙ k.1, k.2, k.3))
    (puts c.put_bytes.ensures c.put_line.ensures)

pub put_values-requires : goal.put_values-requires
put_values-requires c =
    let a = c.args in
    let o = held a.t a.o.now in
    let p = c.requires.2 in
    (c.requires.0, passed_width a.t o a.m (fields a.w.now) p, passed_wrong a.t o a.m (fields a.w.now) p)

pub returns : goal.returns
unfolding bytes record_by
returns c =
    let a = c.args in
    let p = a.plan in
    let w = a.w.now in
    let o = held a.t a.o.now in
    let i = c.column_in-i in
    let ws = by_column o (fields w) in
    let r = record_is p.ends (strips p.change) (field_of p.change) i.result (text_of p.change) (columns a.t) ws (columns_many a.t o (fields w) c.requires.0.arranged) in
    let s = ap (λ (j : ℕ). record_form p.ends (changed_values (strips p.change) (field_of p.change) (text_of p.change) (values_of j 1 (columns a.t) ws))) i.ensures in
    put_as (r ∙ s)
    (puts c.put_marks.ensures (puts c.put_bytes-2.ensures (puts c.put_values.ensures c.put_line_end.ensures)))
