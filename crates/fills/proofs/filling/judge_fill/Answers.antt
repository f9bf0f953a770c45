use mathlib.Core.Path.{sym, ◌∙◌}
use borrow.Author.Tests.{not-true, not-false}
use Rattle.fills.specs.Filling.{fill_number}
use Rattle.fills.proofs.filling.judge_fill.Goals as goal

pub returns-then-not-is_fillable : goal.returns-then-not-is_fillable
unfolding fill_number
returns-then-not-is_fillable c = rw (sym c.is_fillable.ensures ∙ not-true _ c.if-not-is_fillable.true-raw)

pub returns-then-not-is_empty : goal.returns-then-not-is_empty
unfolding fill_number
returns-then-not-is_empty c = rw (sym c.is_fillable.ensures ∙ not-false _ c.if-not-is_fillable.false-raw, sym c.is_empty.ensures ∙ not-true _ c.if-not-is_empty.true-raw)

pub returns : goal.returns
unfolding fill_number
returns c = rw (sym c.is_fillable.ensures ∙ not-false _ c.if-not-is_fillable.false-raw, sym c.is_empty.ensures ∙ not-false _ c.if-not-is_empty.false-raw) c.judge_text.ensures
