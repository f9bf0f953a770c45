use Rattle.std.proofs.Common.{◌∙◌, length, sym, refl, lit<, arith}
use borrow.Author.Tests.{eqb-true, eqb-false}
use Rattle.page.specs.Fields.{digit}
use Rattle.page.proofs.NumberLaws.{value_more, value_end, digit_range, digits_none, digits_long, digits_short, ten_more, ten_up}
use Rattle.page.proofs.ScanLaws.{all_more, all_not, all_end}
use Rattle.digits.specs.Magnitudes.{magnitude_of}
use Rattle.digits.proofs.numbers.read_digits.Goals.{then-is_empty-via-then-is_empty, then-is_empty-via-else-is_empty+then-ds-gt18}
use Rattle.digits.proofs.numbers.read_digits.Goals as goal

pub returns-then-is_empty : goal.returns-then-is_empty
unfolding magnitude_of
returns-then-is_empty c =
    elim c.then-is_empty.branch [
      | then-is_empty-via-then-is_empty w ↦ rw (digits_none c.args.ds.now (eqb-true _ 0 (sym c.is_empty.ensures ∙ w.if-is_empty.true)))
      | then-is_empty-via-else-is_empty+then-ds-gt18 w ↦ rw (digits_long c.args.ds.now w.if-ds-gt18.true)
    ]

pub loop-b-init : goal.loop-b-init
loop-b-init c = (lit< tt, refl, refl)

pub returns-then-not-is_digit : goal.returns-then-not-is_digit
unfolding magnitude_of
returns-then-not-is_digit c =
    let s = c.args.ds.now in
    let l = c.loop-b in
    let bad = sym c.is_digit.ensures ∙ c.if-not-is_digit.true in
    rw (digits_short s (omega arith) c.if-ds-gt18.false, l.invariant.1, all_not digit s l.b-index c.loop-b-test.true bad)

pub overflow_mul-v : goal.overflow_mul-v
overflow_mul-v c = omega (arith, ten_up c.loop-b.b-index 17 (omega arith))

pub overflow_sub-b : goal.overflow_sub-b
overflow_sub-b c = (digit_range _ (sym c.is_digit.ensures ∙ c.if-not-is_digit.false)).0

pub overflow_add-v : goal.overflow_add-v
overflow_add-v c =
    let r = digit_range _ (sym c.is_digit.ensures ∙ c.if-not-is_digit.false) in
    omega (arith, ten_up c.loop-b.b-index 17 (omega arith))

pub loop-b-preserved : goal.loop-b-preserved
loop-b-preserved c =
    let s = c.args.ds.now in
    let l = c.loop-b in
    let h = c.loop-b-test.true in
    let d = sym c.is_digit.ensures ∙ c.if-not-is_digit.false in
    let r = digit_range _ d in (
      omega (arith, ten_more l.b-index),
      l.invariant.1 ∙ all_more digit s l.b-index h d,
      rw c.from.ensures (l.invariant.2 ∙ value_more s l.b-index l.v h),
    )

pub returns : goal.returns
unfolding magnitude_of
returns c =
    let s = c.args.ds.now in
    let l = c.loop-b in
    let end = c.loop-b-test.false in
    let some = eqb-false (length s) 0 (sym c.is_empty.ensures ∙ c.if-is_empty.false) in
    rw (digits_short s (omega arith) c.if-ds-gt18.false, l.invariant.1, all_end digit s l.b-index end, l.invariant.2, value_end s l.b-index l.v end)
