use Prim.Native.Nat.{ℕ}
use mathlib.Core.Path.{ap, sym, ◌∙◌}
use native.Mathlib.Omega.{arith}
use lib.Dec.{leb}
use Rattle.page.proofs.NumberLaws.{digits_some}
use Rattle.digits.proofs.MagnitudeLaws.{magnitude_is, magnitude_not}
use Rattle.names.proofs.FormatLaws.{size_not, size_zero, size_value}
use Rattle.names.proofs.formats.is_size.Goals as goal

pub bounds-w-0 : goal.bounds-w-0
bounds-w-0 c =
    let w = c.args.w.now in
    let d = magnitude_is w _ (sym c.read_digits.ensures ∙ c.in-Some.is) in
    omega (arith, digits_some w d.0)

pub returns-then-w-ne48 : goal.returns-then-w-ne48
returns-then-w-ne48 c =
    let w = c.args.w.now in
    let d = magnitude_is w _ (sym c.read_digits.ensures ∙ c.in-Some.is) in
    sym (size_value w d.0 c.if-w-ne48.true ∙ ap (λ (v : ℕ). leb v 255) d.1)

pub returns-else-w-ne48 : goal.returns-else-w-ne48
returns-else-w-ne48 c =
    let w = c.args.w.now in
    let d = magnitude_is w _ (sym c.read_digits.ensures ∙ c.in-Some.is) in
    rw c.if-w-ne48.false (sym (size_zero w d.0 c.if-w-ne48.false))

pub returns-in-None : goal.returns-in-None
returns-in-None c =
    let w = c.args.w.now in
    sym (size_not w (magnitude_not w (sym c.read_digits.ensures ∙ c.in-None.is)))
