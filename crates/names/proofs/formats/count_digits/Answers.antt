use mathlib.Core.Path.{ap, sym, ◌∙◌}
use mathlib.Core.Bool.{not}
use native.Mathlib.Omega.{arith}
use Rattle.page.specs.Section.{no_digit}
use Rattle.page.proofs.ScanLaws.{until_hit, until_more, until_end}
use Rattle.names.proofs.formats.count_digits.Goals as goal

pub returns-then-not-is_digit : goal.returns-then-not-is_digit
returns-then-not-is_digit c =
    let w = c.args.w.now in
    let i = c.loop-i.i in
    omega (arith, until_hit no_digit w i c.loop-i-test.true (ap not (sym c.is_digit.ensures ∙ c.if-not-is_digit.true)), c.loop-i.invariant)

pub loop-i-preserved : goal.loop-i-preserved
loop-i-preserved c =
    let w = c.args.w.now in
    let i = c.loop-i.i in
    omega (arith, until_more no_digit w i c.loop-i-test.true (ap not (sym c.is_digit.ensures ∙ c.if-not-is_digit.false)), c.loop-i.invariant)

pub returns : goal.returns
returns c = omega (arith, until_end no_digit c.args.w.now c.loop-i.i c.loop-i-test.false, c.loop-i.invariant)
