use Rattle.page.specs.Section.{choose}
use Rattle.machine.proofs.machine.step_atr.Goals as goal

pub returns-then-found : goal.returns-then-found
unfolding choose
returns-then-found c = rw c.if-found.true

pub returns-else-found : goal.returns-else-found
unfolding choose
returns-else-found c = rw c.if-found.false
