use borrow.Author.Tests.{eq-eqb, ne_eqb}
use Rattle.page.specs.Answers.{answered}
use Rattle.files.proofs.answer.pass.Goals as goal

pub returns-then-r-eq0 : goal.returns-then-r-eq0
unfolding answered
returns-then-r-eq0 c = rw (eq-eqb _ 0 c.if-r-eq0.true)

pub returns-else-r-eq0 : goal.returns-else-r-eq0
unfolding answered
returns-else-r-eq0 c = rw (ne_eqb _ 0 c.if-r-eq0.false)
