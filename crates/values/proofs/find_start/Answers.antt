use Prim.Native.Nat.{◌-◌}
use mathlib.Core.Path.{◌≡◌, sym, ◌∙◌}
use native.Mathlib.Omega.{arith}
use borrow.Author.Rules.{rules}
use Rattle.page.proofs.FieldLaws.{place_more, place_here}
use Rattle.values.proofs.StartLaws.{start_step}
use Rattle.values.proofs.find_start.Goals as goal

pub loop-init : goal.loop-init
loop-init c =
    let a = c.args in
    let z : a.p - 0 ≡ a.p = omega arith in
    (omega arith, rw z)

pub overflow_add-at : goal.overflow_add-at
overflow_add-at c =
    let l = c.loop in
    let w = c.args.w.now in
    let e = c.field_end-at in
    let h = start_step w l.at e.result l.counter e.ensures l.invariant.0 in
    search rules

pub loop-preserved : goal.loop-preserved
loop-preserved c =
    let l = c.loop in
    let a = c.args in
    let e = c.field_end-at in (
      start_step a.w.now l.at e.result l.counter e.ensures l.invariant.0,
      sym (place_more a.w.now a.p l.counter l.at e.result (search rules) e.ensures) ∙ l.invariant.1,
    )

pub returns : goal.returns
returns c =
    let l = c.loop in
    let a = c.args in
    sym (place_here a.w.now a.p l.counter l.at (search rules)) ∙ l.invariant.1
