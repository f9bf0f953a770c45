use Rattle.std.proofs.Common.{rules, Err, Ok}
use mathlib.Core.Path.{◌≡◌, sym, ◌∙◌}
use native.Mathlib.Omega.{arith}
use Rattle.page.specs.Section.{step}
use Rattle.machine.specs.Carries.{records_in, order_at, Carries, Found}
use Rattle.machine.proofs.CarryLaws.{none_due, carry_on, carry_atr, err_moves, ok_moves, found_ok}
use Rattle.machine.proofs.machine.step.Goals as goal

pub step_content-requires : goal.step_content-requires
unfolding Carries records_in Found
step_content-requires c =
    (tt, omega arith, rw (← c.rest_of.ensures) (c.is_ok.ensures.value ∙ found_ok c.in-Atr.t _ c.arrange-arranged.result c.arrange-arranged.ensures))

pub returns-in_err-phase : goal.returns-in_err-phase
unfolding step
returns-in_err-phase c =
    let e : c.from_residual.result ≡ Err c.in_err-phase.field-0.0 = search rules in
    err_moves e (rw (c.in-Atr.is, sym c.content_of-c.ensures) (sym c.step_content.ensures ∙ c.in_err-phase.was))

pub returns-in-Atr : goal.returns-in-Atr
unfolding step
returns-in-Atr c =
    let a = c.args in
    let w = sym c.content_of-c.ensures in
    let e : step a.latin a.p (order_at a.p a.o) a.l.now ≡ Ok c.in_ok-phase.phase = rw (c.in-Atr.is, w) (sym c.step_content.ensures ∙ c.in_ok-phase.was) in
    rw c.unwrap_or-stated.ensures
    (ok_moves e
    (carry_atr a.latin c.in-Atr.t a.p c.in_ok-phase.phase a.o c.arrange-arranged.result a.l.now c.in-Atr.is (rw (w, sym c.rest_of.ensures) c.arrange-arranged.ensures) e))

pub step_content-requires-2 : goal.step_content-requires-2
step_content-requires-2 c =
    let y = c.requires in
    (y.0, y.1, none_due c.args.p _ _ c.in_default.not-Atr)

pub returns-in_err-phase-2 : goal.returns-in_err-phase-2
unfolding step
returns-in_err-phase-2 c =
    let e : c.from_residual-in_err-phase-2.result ≡ Err c.in_err-phase-2.field-0.0 = search rules in
    err_moves e (rw (sym c.content_of-c.ensures) (sym c.step_content-2.ensures ∙ c.in_err-phase-2.was))

pub returns : goal.returns
unfolding step
returns c =
    let a = c.args in
    let w = sym c.content_of-c.ensures in
    let e : step a.latin a.p (order_at a.p a.o) a.l.now ≡ Ok c.in_ok-phase-2.phase = rw w (sym c.step_content-2.ensures ∙ c.in_ok-phase-2.was) in
    ok_moves e (carry_on a.latin a.p c.in_ok-phase-2.phase a.o a.l.now c.in_default.not-Atr c.requires.0 e)
