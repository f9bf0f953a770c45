use borrow.Author.Tests.{ne_eqb}
use Rattle.page.specs.Answers.{earlier}
use Rattle.rows.proofs.answer_list.Goals as goal

pub returns-then-r-ne0 : goal.returns-then-r-ne0
unfolding earlier
returns-then-r-ne0 c = rw (ne_eqb c.args.r.number 0 c.if-r-ne0.true)

pub check_known-requires : goal.check_known-requires
check_known-requires c = c.requires c.if-r-ne0.false

pub returns : goal.returns
unfolding earlier
returns c = rw c.if-r-ne0.false c.check_known.ensures
