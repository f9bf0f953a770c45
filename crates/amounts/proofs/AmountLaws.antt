-- A number column's field by the number that it reads as.
-- Assumes nothing.
use mathlib.Core.Path.{◌≡◌, refl, sym}
use mathlib.Core.Bool.{Bool, true, false}
use mathlib.Core.List.{[], ◌∷◌}
use Prim.Native.Nat.{ℕ}
use native.Mathlib.Omega.{arith}
use borrow.Author.Tests.{ne_eqb}
use lib.ListN.{length}
use Rattle.page.specs.Bytes.{Bytes, pick}
use Rattle.page.specs.Fields.{digits, number_of}
use Rattle.page.specs.Section.{number_field, left_out, field_of}
use Rattle.page.specs.declared.Column.{Column}
use Rattle.page.specs.declared.Field.TheVariants as F
use Rattle.page.specs.declared.Number.TheVariants as N

-- an empty field has no number
pub no_number : (w : Bytes) → length w ≡ 0 → number_of w ≡ N.Nothing
unfolding number_of digits
no_number [] e = refl
no_number (b ∷ w) e = absurd (omega arith)

given : (optional : Bool) (w : Bytes) → (number_of w ≡ N.Nothing → ⊥) → left_out optional w ≡ false
given false w n = refl
given true w n = ne_eqb (length w) 0 (λ (e : length w ≡ 0). n (no_number w e))

-- a number column's field by the number that it reads as
module _ (c : Column) (f : Bytes) (x : c.text ≡ false) where
  pub number_plus : (n : ℕ) → N.Plus n ≡ number_of f → number_field c.day c.lo c.hi (N.Plus n) ≡ field_of c f
  unfolding field_of
  number_plus n e =
      let l : left_out c.optional f ≡ false = given c.optional f (λ (q : number_of f ≡ N.Nothing). absurd (let z : ◌≡◌ {A = ℕ} 0 1 = cc in omega arith)) in
      rw (x, l, e)

  pub number_minus : (n : ℕ) → N.Minus n ≡ number_of f → F.Refused 13 ≡ field_of c f
  unfolding field_of number_field
  number_minus n e =
      let l : left_out c.optional f ≡ false = given c.optional f (λ (q : number_of f ≡ N.Nothing). absurd (let z : ◌≡◌ {A = ℕ} 0 1 = cc in omega arith)) in
      rw (x, l, sym e)

  pub number_none : N.Nothing ≡ number_of f → pick (left_out c.optional f) F.Missing (F.Refused 12) ≡ field_of c f
  unfolding field_of number_field
  number_none e = rw (x, sym e)
