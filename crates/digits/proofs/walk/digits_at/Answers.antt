use Rattle.std.proofs.Common.{◌≡◌, ◌∙◌, ◌≤◌, ◌-◌, ◌^◌, sym, arith}
use Rattle.page.proofs.NumberLaws.{digit_range, ten_up}
use Rattle.digits.proofs.RunLaws.{run_none, run_more}
use Rattle.digits.proofs.walk.digits_at.Goals as goal

pub loop-to-init : goal.loop-to-init
loop-to-init c = run_none c.args.w.now c.args.from c.requires

pub returns-then-not-is_digit : goal.returns-then-not-is_digit
returns-then-not-is_digit c = c.loop-to.invariant

pub overflow_mul-value : goal.overflow_mul-value
overflow_mul-value c =
    let h : 10 ^ (c.loop-to.to - c.args.from) ≤ 10 ^ 17 = ten_up _ 17 (omega (arith, c.reach-most.ensures)) in
    omega (arith, c.loop-to.invariant.small)

pub overflow_sub-b : goal.overflow_sub-b
overflow_sub-b c = (digit_range _ (sym c.is_digit.ensures ∙ c.if-not-is_digit.false)).0

pub overflow_add-value : goal.overflow_add-value
overflow_add-value c =
    let r = digit_range _ (sym c.is_digit.ensures ∙ c.if-not-is_digit.false) in
    let h : 10 ^ (c.loop-to.to - c.args.from) ≤ 10 ^ 17 = ten_up _ 17 (omega (arith, c.reach-most.ensures)) in
    omega (arith, c.loop-to.invariant.small)

pub loop-to-preserved : goal.loop-to-preserved
loop-to-preserved c =
    let l = c.loop-to in
    let x = c.reach-most.ensures in
    rw c.from.ensures (run_more c.args.w.now c.args.from l.to l.value l.invariant (omega arith) (omega arith) (sym c.is_digit.ensures ∙ c.if-not-is_digit.false))

pub returns : goal.returns
returns c =
    let e : c.loop-to.to ≡ c.reach-most.result = omega (arith, c.reach-most.ensures) in
    rw e at c.loop-to.invariant
