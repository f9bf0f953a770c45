use Rattle.repeats.proofs.FirstLaws.{Done}
use Rattle.page.specs.Lines.{lines}
use Rattle.repeats.proofs.section.find_repeat.Given as goal

abbrev pub invariant-loop-lane : goal.invariant-loop-lane
invariant-loop-lane l = Done l.choice (lines l.w) l.size l.lanes l.last l.lane
