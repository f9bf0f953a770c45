use borrow.Author.Tests.{eq-eqb, ne_eqb}
use Rattle.page.specs.Reading.{outside}
use Rattle.lookups.proofs.is_outside.Goals as goal

pub returns-then-i-eq0 : goal.returns-then-i-eq0
unfolding outside
returns-then-i-eq0 c =
    rw (eq-eqb c.args.i 0 c.if-i-eq0.true)

pub returns : goal.returns
unfolding outside
returns c =
    rw (ne_eqb c.args.i 0 c.if-i-eq0.false)
