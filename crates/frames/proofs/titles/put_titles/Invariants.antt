use Rattle.std.proofs.Common.{drop}
use Rattle.page.specs.Form.{separated}
use Rattle.frames.specs.Titles.{titles}
use Rattle.output.proofs.OutputLaws.{Todo}
use Rattle.frames.proofs.titles.put_titles.Given as goal

abbrev pub invariant-loop-k : goal.invariant-loop-k
invariant-loop-k l = Todo l.initial.out (separated (titles l.formats l.t)) l.out (separated (drop l.k (titles l.formats l.t)))
