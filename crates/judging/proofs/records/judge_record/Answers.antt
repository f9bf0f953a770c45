use mathlib.Core.Path.{sym, ◌∙◌}
use Rattle.page.specs.Section.{rec_verdict}
use borrow.Author.Tests.{ne_eqb}
use Rattle.judging.proofs.records.judge_record.Goals as goal

pub returns-then-has_width : goal.returns-then-has_width
unfolding rec_verdict
returns-then-has_width c =
    let x = rw c.in-Err.is at c.judge_fields.ensures in
    rw (sym c.has_width.ensures ∙ c.if-has_width.true, sym x.0, ne_eqb c.in-Err.v 0 x.1)

pub returns-else-has_width : goal.returns-else-has_width
unfolding rec_verdict
returns-else-has_width c = rw (sym c.has_width.ensures ∙ c.if-has_width.false)
