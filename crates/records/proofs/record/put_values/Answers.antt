use Rattle.output.proofs.OutputLaws.{put_as}
use Rattle.copies.specs.Changed.{strips, field_of, text_of}
use Rattle.parts.proofs.PartLaws.{parts_kept}
use Rattle.records.proofs.record.put_values.Goals as goal

pub returns-in-Some : goal.returns-in-Some
returns-in-Some c =
    let a = c.args in
    let q = c.requires in
    let k = c.in-Some.ensures in
    put_as (parts_kept a.t a.o.now q.0 a.w.now q.1 c.in-Some.parts k.2 (strips a.plan.change) (text_of a.plan.change) (field_of a.plan.change) a.m q.2 k.0 k.1)
    c.put_parts.ensures
