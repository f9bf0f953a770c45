use Rattle.std.proofs.Common.{◌∙◌, ap, sym, arith}
use Rattle.page.specs.declared.Remark.TheVariants as R
use Rattle.page.proofs.NumberLaws.{digits_some}
use Rattle.page.proofs.MarkLaws.{mark_no_number, mark_zero, mark_value}
use Rattle.digits.proofs.MagnitudeLaws.{magnitude_is, magnitude_not}
use Rattle.quoted.proofs.marks.read_mark_number.Goals as goal

pub bounds-w-0 : goal.bounds-w-0
bounds-w-0 c =
    let w = c.args.w.now in
    let d = magnitude_is w _ (sym c.read_digits.ensures ∙ c.in-Some.is) in
    omega (arith, digits_some w d.0)

pub returns-in-Some : goal.returns-in-Some
returns-in-Some c =
    let w = c.args.w.now in
    let d = magnitude_is w _ (sym c.read_digits.ensures ∙ c.in-Some.is) in
    sym (mark_value w d.0 c.if-w-ne48.true ∙ ap R.Mark d.1)

pub returns-in_default : goal.returns-in_default
returns-in_default c =
    let w = c.args.w.now in
    let d = magnitude_is w _ (sym c.read_digits.ensures ∙ c.in-Some.is) in
    sym (mark_zero w d.0 c.if-w-ne48.false)

pub returns-in_default-2 : goal.returns-in_default-2
returns-in_default-2 c =
    let w = c.args.w.now in
    sym (mark_no_number w (magnitude_not w (sym c.read_digits.ensures ∙ c.in_default.is)))
