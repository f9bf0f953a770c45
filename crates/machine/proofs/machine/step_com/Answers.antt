use mathlib.Core.Path.{sym, ◌∙◌}
use Rattle.page.specs.Section.{com_step}
use Rattle.machine.proofs.machine.step_com.Goals as goal

pub returns-in-Comment : goal.returns-in-Comment
unfolding com_step
returns-in-Comment c =
    rw (sym c.read_remark.ensures ∙ c.in-Comment.is)

pub returns-in-Unreadable : goal.returns-in-Unreadable
unfolding com_step
returns-in-Unreadable c =
    rw (sym c.read_remark.ensures ∙ c.in-Unreadable.is)

pub returns-in-Mark : goal.returns-in-Mark
unfolding com_step
returns-in-Mark c =
    rw (sym c.read_remark.ensures ∙ c.in-Mark.is) c.step_mark.ensures
