use borrow.Author.Tests.{eq-eqb, ne_eqb}
use Rattle.page.specs.Marks.{owner_of}
use Rattle.values.proofs.owner_of.Goals as goal

pub returns-then-m-f : goal.returns-then-m-f
unfolding owner_of
returns-then-m-f c =
    rw (eq-eqb c.args.m c.args.f c.if-m-f.true)

pub returns-else-m-f : goal.returns-else-m-f
unfolding owner_of
returns-else-m-f c =
    rw (ne_eqb c.args.m c.args.f c.if-m-f.false)
