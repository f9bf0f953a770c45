use Rattle.seats.specs.Faults.{scan_end}
use borrow.Author.Tests.{eq-eqb, ne_eqb}
use Rattle.repeats.proofs.repeats.find_end.Goals as goal

pub returns-then-choice-eq0 : goal.returns-then-choice-eq0
unfolding scan_end
returns-then-choice-eq0 c =
    rw (eq-eqb _ 0 c.if-choice-eq0.true)

pub returns-else-choice-eq0 : goal.returns-else-choice-eq0
unfolding scan_end
returns-else-choice-eq0 c =
    rw (ne_eqb _ 0 c.if-choice-eq0.false)
