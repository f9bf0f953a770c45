use Rattle.std.proofs.Common.{◌≡◌, ◌+◌, ◌-◌, sym, ◌∙◌, arith, true, false, length, get_or}
use borrow.Author.Tests.{eq-eqb, not-false}
use Rattle.page.specs.Fields.{digit}
use Rattle.page.proofs.FieldLaws.{field_hit, field_end}
use Rattle.copies.proofs.StandLaws.{digit_low, digit_more}
use Rattle.copies.proofs.standing.digits_end.Goals as goal

pub returns-then-b-eq59 : goal.returns-then-b-eq59
returns-then-b-eq59 c =
    let w = c.args.w.now in
    let l = c.loop-i in
    let z = field_hit false w l.i c.loop-i-test.true (eq-eqb (get_or w l.i 0) 59 c.if-b-eq59.true) in
    (omega (arith, l.invariant.ends), l.invariant.digit_before)

pub loop-i-preserved : goal.loop-i-preserved
loop-i-preserved c =
    let w = c.args.w.now in
    let l = c.loop-i in
    let d : digit (get_or w l.i 0) ≡ true = sym c.is_digit.ensures ∙ not-false _ c.if-not-is_digit.false-raw in
    let m = digit_more w l.i c.loop-i-test.true d in
    let n : l.i + 1 - 1 ≡ l.i = omega arith in
    record { ends = omega (arith, l.invariant.ends); digit_before = λ h. rw n (digit_low (get_or w l.i 0) d) }

pub returns : goal.returns
returns c =
    let w = c.args.w.now in
    let l = c.loop-i in
    let z = field_end false w l.i c.loop-i-test.false in
    let n : l.i ≡ length w = omega arith in
    rw (sym n) (omega (arith, l.invariant.ends), l.invariant.digit_before)
