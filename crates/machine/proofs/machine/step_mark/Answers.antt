use mathlib.Core.Path.{sym, ◌∙◌}
use mathlib.Core.Logic.{⊎_elim}
use borrow.Author.Tests.{lt-ltb, le-ltb}
use Rattle.page.specs.Section.{mark_step, choose}
use Rattle.machine.specs.Carries.{order_at, Carries}
use Rattle.machine.proofs.machine.step_mark.Goals as goal
use Rattle.machine.proofs.machine.step_mark.Goals.{else-may_mark-via-then-may_mark+else-m-i, else-may_mark-via-else-may_mark}

pub may_mark-requires : goal.may_mark-requires
unfolding Carries
may_mark-requires c = let x = rw c.in-Rows.is at c.requires in x.orderly

pub returns-then-m-i : goal.returns-then-m-i
unfolding mark_step order_at choose
returns-then-m-i c = rw (c.in-Rows.is, sym c.may_mark.ensures ∙ c.if-may_mark.true, lt-ltb c.in-Rows.m c.args.i c.if-m-i.true)

pub returns-else-may_mark : goal.returns-else-may_mark
unfolding mark_step order_at choose
returns-else-may_mark c =
    elim c.else-may_mark.branch [
      | else-may_mark-via-then-may_mark+else-m-i w ↦ rw (c.in-Rows.is, sym c.may_mark.ensures ∙ w.if-may_mark.true, le-ltb c.in-Rows.m c.args.i w.if-m-i.false)
      | else-may_mark-via-else-may_mark w ↦ rw (c.in-Rows.is, sym c.may_mark.ensures ∙ w.if-may_mark.false)
    ]

pub returns-in-Tbl : goal.returns-in-Tbl
unfolding mark_step
returns-in-Tbl c = ⊎_elim (λ e. rw e) (⊎_elim (λ x. rw x.1) (⊎_elim (λ x. rw x.1) (λ x. rw x.2))) c.in-Tbl.is
