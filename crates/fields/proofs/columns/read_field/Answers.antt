use mathlib.Core.Path.{sym, ◌∙◌}
use Rattle.page.specs.Section.{field_of}
use Rattle.page.specs.Places.{span_from}
use Rattle.digits.specs.Runs.{field_from}
use Rattle.fields.proofs.ColumnLaws.{number_there}
use Rattle.fields.proofs.columns.read_field.Goals as goal

pub returns-then-column : goal.returns-then-column
unfolding field_of
returns-then-column c = (c.text_from.ensures.0, rw c.if-column.true c.text_from.ensures.1, c.text_from.ensures.2)

pub returns-else-column : goal.returns-else-column
returns-else-column c =
    let a = c.args in
    (c.number_from.ensures.0, c.number_from.ensures.1 ∙ sym (number_there a.column (field_from a.w.now a.at) c.if-column.false (span_from a.w.now a.at).from), λ e. c.number_from.ensures.2 e a.wide)
