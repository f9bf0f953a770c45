use Rattle.std.proofs.Common.{drop}
use Rattle.page.specs.Form.{doubled}
use Rattle.output.proofs.OutputLaws.{Todo}
use Rattle.doubling.proofs.texts.put_doubled.Given as goal

abbrev pub invariant-loop-b : goal.invariant-loop-b
invariant-loop-b l = Todo l.initial.out (doubled l.s) l.out (doubled (drop l.b-index l.s))
