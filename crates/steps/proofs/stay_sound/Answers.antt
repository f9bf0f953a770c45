use borrow.Author.Tests.{eq-eqb, ne_eqb}
use Rattle.steps.specs.Steps.{stays}
use Rattle.steps.proofs.stay_sound.Goals as goal

pub returns-then-verdict-eq0 : goal.returns-then-verdict-eq0
unfolding stays
returns-then-verdict-eq0 c = rw (eq-eqb c.args.verdict 0 c.if-verdict-eq0.true)

pub returns-else-verdict-eq0 : goal.returns-else-verdict-eq0
unfolding stays
returns-else-verdict-eq0 c = rw (ne_eqb c.args.verdict 0 c.if-verdict-eq0.false)
