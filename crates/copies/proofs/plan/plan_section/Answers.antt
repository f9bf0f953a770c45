use Rattle.copies.proofs.PlanLaws.{section_other, section_named, section_unnamed}
use Rattle.copies.proofs.plan.plan_section.Goals as goal

pub returns-in-Nothing : goal.returns-in-Nothing
returns-in-Nothing c = section_other c.args.plan c.args.n c.in-Nothing.is

pub returns-in-Fill : goal.returns-in-Fill
returns-in-Fill c = section_named c.args.plan c.args.n c.in-Fill.fill c.in-Fill.is c.if-fill-n.true

pub returns-in-Fill-2 : goal.returns-in-Fill-2
returns-in-Fill-2 c = section_unnamed c.args.plan c.args.n c.in-Fill.fill c.in-Fill.is c.if-fill-n.false
