use mathlib.Core.Path.{ap, sym, ◌∙◌}
use native.Mathlib.Omega.{arith}
use lib.ListN.{get_or}
use Rattle.page.proofs.TextLaws.{body_quote, body_byte, body_double, body_broken, body_open, body_closed}
use Rattle.quoted.proofs.SizeLaws.{counted, counted_all, counted_byte, counted_end, counted_none}
use Rattle.quoted.proofs.texts.body_size.Goals.{then-met+else-b-ne34, else-met+then-b-eq34, else-met+else-b-eq34}
use Rattle.quoted.proofs.texts.body_size.Goals as goal

pub loop-b-init : goal.loop-b-init
loop-b-init c = (omega arith, counted_all _)

pub returns-then-b-ne34 : goal.returns-then-b-ne34
returns-then-b-ne34 c =
    let w = c.args.w.now in
    let l = c.loop-b in
    sym (counted_none l.n) ∙ ap (counted l.n) (sym (body_broken w l.b-index c.loop-b-test.true c.if-b-ne34.true))
    ∙ rw c.if-met.true at l.invariant.1

pub loop-b-preserved : goal.loop-b-preserved
loop-b-preserved c =
    let w = c.args.w.now in
    let l = c.loop-b in
    let i = l.b-index in
    let h = c.loop-b-test.true in
    elim c.if-met.branch [
      | then-met+else-b-ne34 v ↦ rw (v.met-is, v.n-is) (
        omega arith,
        sym (counted_byte l.n (get_or w i 0) _) ∙ ap (counted l.n) (sym (body_double w i h v.if-b-ne34.false)) ∙ rw v.if-met.true at l.invariant.1,
      )
      | else-met+then-b-eq34 v ↦ rw (v.met-is, v.n-is) (
        omega arith,
        ap (counted l.n) (sym (body_quote w i h v.if-b-eq34.true)) ∙ rw v.if-met.false at l.invariant.1,
      )
      | else-met+else-b-eq34 v ↦ rw (v.met-is, v.n-is) (
        omega arith,
        rw v.if-met.false (sym (counted_byte l.n (get_or w i 0) _) ∙ ap (counted l.n) (sym (body_byte w i h v.if-b-eq34.false)) ∙ rw v.if-met.false at l.invariant.1),
      )
    ]

pub returns-then-met-2 : goal.returns-then-met-2
returns-then-met-2 c =
    let w = c.args.w.now in
    let l = c.loop-b in
    sym (counted_end l.n) ∙ ap (counted l.n) (sym (body_closed w l.b-index c.loop-b-test.false)) ∙ rw c.if-met-2.true at l.invariant.1

pub returns-else-met-2 : goal.returns-else-met-2
returns-else-met-2 c =
    let w = c.args.w.now in
    let l = c.loop-b in
    sym (counted_none l.n) ∙ ap (counted l.n) (sym (body_open w l.b-index c.loop-b-test.false)) ∙ rw c.if-met-2.false at l.invariant.1
