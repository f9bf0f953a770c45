use Rattle.std.proofs.Common.{◌+◌, drop}
use Rattle.page.specs.Tables.{columns}
use Rattle.output.proofs.OutputLaws.{Todo}
use Rattle.copies.specs.Changed.{strips, field_of}
use Rattle.copies.specs.Parts.{marks_form}
use Rattle.marks.proofs.put_marks.Given as goal

abbrev pub invariant-loop-k : goal.invariant-loop-k
invariant-loop-k l =
    Todo l.initial.out (marks_form l.plan.ends (strips l.plan.change) (field_of l.plan.change) l.m 1 (columns l.t)) l.out
    (marks_form l.plan.ends (strips l.plan.change) (field_of l.plan.change) l.m (l.k + 1) (drop l.k (columns l.t)))
