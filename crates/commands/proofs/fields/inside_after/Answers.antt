use borrow.Author.Tests.{eq-eqb, ne_eqb}
use Rattle.commands.proofs.fields.inside_after.Goals as goal

pub returns-then-b-eq34 : goal.returns-then-b-eq34
returns-then-b-eq34 c = rw (eq-eqb _ 34 c.if-b-eq34.true)

pub returns-else-b-eq34 : goal.returns-else-b-eq34
returns-else-b-eq34 c = rw (ne_eqb _ 34 c.if-b-eq34.false)
