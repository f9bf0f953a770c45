use Rattle.std.proofs.Common.{arith}
use Rattle.page.specs.Tables.{columns}
use Rattle.page.proofs.TableLaws.{width_le}
use Rattle.output.proofs.OutputLaws.{next_by, at_end, put_as, put_none}
use Rattle.copies.specs.Changed.{strips, field_of}
use Rattle.copies.proofs.FieldLaws.{marks_more, marks_end}
use Rattle.copies.proofs.StandLaws.{marks_plain}
use Rattle.marks.proofs.put_marks.Goals as goal

pub returns-then-is_plain : goal.returns-then-is_plain
returns-then-is_plain c =
    let a = c.args in
    put_as (marks_plain a.plan.ends (strips a.plan.change) (field_of a.plan.change) a.m (columns a.t) c.is_plain.result c.is_plain.ensures c.if-is_plain.true)
    put_none

pub put_mark_of-requires : goal.put_mark_of-requires
put_mark_of-requires c = omega (arith, width_le c.args.t)

pub loop-k-preserved : goal.loop-k-preserved
loop-k-preserved c =
    let a = c.args in
    let l = c.loop-k in
    next_by (marks_more a.plan.ends (strips a.plan.change) (field_of a.plan.change) a.m a.t l.k (omega arith)) l.invariant c.put_mark_of.ensures

pub returns : goal.returns
returns c =
    let a = c.args in
    let l = c.loop-k in
    at_end (marks_end a.plan.ends (strips a.plan.change) (field_of a.plan.change) a.m a.t l.k (omega arith)) l.invariant
