use Rattle.copies.proofs.PlanLaws.{record_other, record_named, record_unnamed}
use Rattle.copies.proofs.plan.plan_record.Goals as goal

pub returns-in-Nothing : goal.returns-in-Nothing
returns-in-Nothing c = record_other c.args.plan c.args.n c.in-Nothing.is

pub returns-in-Fill : goal.returns-in-Fill
returns-in-Fill c = record_named c.args.plan c.args.n c.in-Fill.fill c.in-Fill.is c.if-fill-n.true

pub returns-in-Fill-2 : goal.returns-in-Fill-2
returns-in-Fill-2 c = record_unnamed c.args.plan c.args.n c.in-Fill.fill c.in-Fill.is c.if-fill-n.false
