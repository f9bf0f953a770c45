use Rattle.page.specs.Fields.{fields}
use Rattle.arrangement.specs.Orders.{held}
use Rattle.judging.proofs.RecordLaws.{verdict_wrong}
use Rattle.judging.proofs.records.passes.Goals as goal

pub returns-in-Err : goal.returns-in-Err
returns-in-Err c =
    let a = c.args in
    let x = rw c.in-Err.is at c.judge_fields.ensures in
    rw (verdict_wrong a.t (held a.t a.o.now) a.m (fields a.w.now) _ x.0 x.1)
