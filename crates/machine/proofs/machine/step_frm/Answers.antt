use mathlib.Core.Path.{sym, ◌∙◌}
use Rattle.page.specs.Section.{frm_step, choose}
use Rattle.machine.proofs.machine.step_frm.Goals as goal

pub returns-then-formats_match : goal.returns-then-formats_match
unfolding frm_step choose
returns-then-formats_match c =
    rw (sym c.formats_match.ensures ∙ c.if-formats_match.true)

pub returns-else-formats_match : goal.returns-else-formats_match
unfolding frm_step choose
returns-else-formats_match c =
    rw (sym c.formats_match.ensures ∙ c.if-formats_match.false)
