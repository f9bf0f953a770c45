use borrow.Author.Tests.{not-true, not-false}
use Rattle.page.specs.Fields.{text_of, digits, number_of}
use Rattle.page.specs.Section.{words_of, text_field, number_field, field_of}
use Rattle.values.proofs.hand_nothing.Goals as goal
use Rattle.values.proofs.hand_nothing.Goals.{else-not-column-via-then-not-column+else-column, else-not-column-via-else-not-column}

pub returns-then-column : goal.returns-then-column
unfolding field_of
returns-then-column c = rw (not-true _ c.if-not-column.true, c.if-column.true)

pub returns-else-not-column : goal.returns-else-not-column
unfolding field_of words_of text_of text_field number_of digits number_field
returns-else-not-column c =
    elim c.else-not-column.branch [
      | else-not-column-via-then-not-column+else-column w ↦ rw (not-true _ w.if-not-column.true, w.if-column.false)
      | else-not-column-via-else-not-column w ↦ rw (not-false _ w.if-not-column.false)
    ]
