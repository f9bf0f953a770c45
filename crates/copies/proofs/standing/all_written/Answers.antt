use Rattle.std.proofs.Common.{refl, arith}
use Rattle.page.proofs.FieldLaws.{end_in}
use Rattle.copies.proofs.StandLaws.{left_all, left_more, left_end, before_next}
use Rattle.copies.proofs.standing.all_written.Goals as goal

pub loop-p-init : goal.loop-p-init
loop-p-init c = (omega arith, (λ h. refl), left_all c.args.w.now)

pub overflow_add-p : goal.overflow_add-p
overflow_add-p c =
    let h = end_in c.args.w.now c.loop-p.p c.in-Some.e c.loop-p-test.true c.in-Some.ensures.size in
    omega arith

pub loop-p-preserved : goal.loop-p-preserved
loop-p-preserved c =
    let w = c.args.w.now in
    let l = c.loop-p in
    let e = c.in-Some.e in
    let t = c.loop-p-test.true in
    let x = c.in-Some.ensures in
    let h = end_in w l.p e t x.size in
    (omega arith, before_next w l.p e t x.size, (λ y. l.invariant.2 (left_more w l.p e t x.size (l.invariant.1 t) x.spaced y)))

pub returns : goal.returns
returns c = λ e. c.loop-p.invariant.2 (left_end c.args.w.now c.loop-p.p c.loop-p-test.false)
