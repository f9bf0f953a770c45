use Rattle.std.proofs.Common.{◌<◌, arith, length}
use Rattle.page.specs.Fields.{fields}
use Rattle.page.specs.Tables.{width}
use Rattle.page.proofs.TableLaws.{width_le}
use Rattle.arrangement.specs.Orders.{held}
use Rattle.arrangement.proofs.OrderLaws.{held_length}
use Rattle.output.proofs.OutputLaws.{next_by, at_end, puts}
use Rattle.copies.specs.Changed.{strips, field_of, text_of}
use Rattle.copies.proofs.FieldLaws.{fields_more, fields_end}
use Rattle.entries.proofs.EntryLaws.{place_within, start_within, start_field, start_sound}
use Rattle.entries.proofs.put_fields.Goals as goal

pub find_place-requires : goal.find_place-requires
find_place-requires c = c.requires.0.orderly

pub offset_bounds-starts-find_place : goal.offset_bounds-starts-find_place
offset_bounds-starts-find_place c =
    let a = c.args in
    let q = c.requires in
    let p = place_within a.t a.o.now q.0 a.w.now q.1 q.2 c.find_starts-starts.result c.find_starts-starts.ensures c.loop-k.k (omega arith) c.find_place.result c.find_place.ensures in
    omega (arith, width_le a.t)

pub bounds-starts-find_place : goal.bounds-starts-find_place
bounds-starts-find_place c =
    let a = c.args in
    let q = c.requires in
    let p = place_within a.t a.o.now q.0 a.w.now q.1 q.2 c.find_starts-starts.result c.find_starts-starts.ensures c.loop-k.k (omega arith) c.find_place.result c.find_place.ensures in
    omega (arith, width_le a.t)

pub put_field-requires : goal.put_field-requires
put_field-requires c =
    let a = c.args in
    let q = c.requires in
    let l = c.loop-k in
    let h : l.k < width a.t = omega arith in (
      omega (arith, width_le a.t),
      start_within a.t a.o.now q.0 a.w.now q.1 q.2 c.find_starts-starts.result c.find_starts-starts.ensures l.k h c.find_place.result c.find_place.ensures,
      start_sound a.t a.o.now q.0 a.w.now q.1 q.2 c.find_starts-starts.result c.find_starts-starts.ensures l.k h c.find_place.result c.find_place.ensures,
    )

pub loop-k-preserved : goal.loop-k-preserved
loop-k-preserved c =
    let a = c.args in
    let q = c.requires in
    let l = c.loop-k in
    let h : l.k < width a.t = omega arith in
    let i : l.k < length (held a.t a.o.now) = omega (arith, held_length a.t a.o.now q.0.orderly) in
    let f = start_field a.t a.o.now q.0 a.w.now q.1 q.2 c.find_starts-starts.result c.find_starts-starts.ensures l.k h c.find_place.result c.find_place.ensures in
    next_by (fields_more (strips a.change) (field_of a.change) (text_of a.change) a.m a.t l.k (held a.t a.o.now) (fields a.w.now) h i _ f) l.invariant
    (puts c.put_separator.ensures c.put_field.ensures)

pub returns : goal.returns
returns c =
    let a = c.args in
    let l = c.loop-k in
    at_end (fields_end (strips a.change) (field_of a.change) (text_of a.change) a.m a.t l.k (held a.t a.o.now) (fields a.w.now) (omega arith)) l.invariant
