use Rattle.std.proofs.Common.{drop, false}
use Rattle.doubling.specs.Raw.{undoubled}
use Rattle.output.proofs.OutputLaws.{Todo}
use Rattle.doubling.proofs.own.put_own.Given as goal

abbrev pub invariant-loop-b : goal.invariant-loop-b
invariant-loop-b l = Todo l.initial.out (undoubled false l.raw) l.out (undoubled l.met (drop l.b-index l.raw))
