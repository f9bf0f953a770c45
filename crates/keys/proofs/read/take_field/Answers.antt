use mathlib.Core.Path.{◌≡◌, ap, ◌∙◌}
use native.Mathlib.Omega.{arith}
use borrow.Author.Tests.{ne_eqb}
use Rattle.page.specs.Section.{amount}
use Rattle.keys.specs.Numbers.{field_as}
use Rattle.keys.proofs.read.take_field.Goals as goal

pub returns-in-1 : goal.returns-in-1
unfolding field_as
returns-in-1 c = (c.number_at-c.ensures.0, rw c.in-1.is (c.worth.ensures ∙ ap amount c.number_at-c.ensures.1))

pub returns-in_default : goal.returns-in_default
unfolding field_as
returns-in_default c =
    let k = c.args.kind in
    let a : k ≡ 0 → ⊥ = omega arith in
    let b : k ≡ 1 → ⊥ = omega arith in
    (c.take_text.ensures.0, rw (ne_eqb k 0 a, ne_eqb k 1 b) c.take_text.ensures.1)
