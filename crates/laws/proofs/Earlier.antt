-- Where the first of two refusals is asked first. Assumes nothing.
use mathlib.Core.Path.{◌≡◌, refl}
use mathlib.Core.Bool.{Bool, true, false}
use lib.Dec.{eqb}
use borrow.Author.Tests.{eqb-true, eqb-false}
use Rattle.page.specs.Bytes.{pick}
use Rattle.page.specs.Answers.{earlier}
use Rattle.page.specs.declared.Refusal.{Refusal}

pub earlier_none : (a b : Refusal) → (earlier a b).number ≡ 0 → (a.number ≡ 0) × (b.number ≡ 0)
unfolding earlier
earlier_none a b h = by (eqb a.number 0) refl h
  where
    by : (q : Bool) → eqb a.number 0 ≡ q → (pick q b a).number ≡ 0 → (a.number ≡ 0) × (b.number ≡ 0)
    by true e h = (eqb-true a.number 0 e, h)
    by false e h = absurd (eqb-false a.number 0 e h)
