use Rattle.std.proofs.Common.{drop}
use Rattle.page.specs.Fields.{fields}
use Rattle.page.specs.Order.{by_column}
use Rattle.page.specs.Form.{separated}
use Rattle.arrangement.specs.Orders.{held}
use Rattle.output.proofs.OutputLaws.{Todo}
use Rattle.parts.proofs.put_parts.Given as goal

abbrev pub invariant-loop-k : goal.invariant-loop-k
invariant-loop-k l =
    Todo l.initial.out (separated (by_column (held l.t l.o) (fields l.w))) l.out
    (separated (drop l.k (by_column (held l.t l.o) (fields l.w))))
