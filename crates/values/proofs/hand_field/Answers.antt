use borrow.Author.Rules.{rules}
use Rattle.values.proofs.hand_field.Goals as goal

pub overflow_add-result : goal.overflow_add-result
overflow_add-result c =
    let b = rw c.in-Text.is at c.requires in
    search rules

pub overflow_add-result-in-Text : goal.overflow_add-result-in-Text
overflow_add-result-in-Text c =
    let b = rw c.in-Text.is at c.requires in
    search rules

pub returns-in-Text : goal.returns-in-Text
returns-in-Text c = rw c.in-Text.is

pub returns-in-Number : goal.returns-in-Number
returns-in-Number c = rw c.in-Number.is
