use Rattle.std.proofs.Common.{◌+◌, drop}
use Rattle.page.specs.Fields.{fields}
use Rattle.page.specs.Tables.{columns}
use Rattle.page.specs.Order.{by_column}
use Rattle.arrangement.specs.Orders.{held}
use Rattle.output.proofs.OutputLaws.{Todo}
use Rattle.copies.specs.Changed.{strips, field_of, text_of}
use Rattle.copies.specs.Parts.{fields_form}
use Rattle.entries.proofs.put_fields.Given as goal

abbrev pub invariant-loop-k : goal.invariant-loop-k
invariant-loop-k l =
    Todo l.initial.out (fields_form (strips l.change) (field_of l.change) (text_of l.change) l.m 1 (columns l.t) (by_column (held l.t l.o) (fields l.w))) l.out
    (fields_form (strips l.change) (field_of l.change) (text_of l.change) l.m (l.k + 1) (drop l.k (columns l.t)) (drop l.k (by_column (held l.t l.o) (fields l.w))))
