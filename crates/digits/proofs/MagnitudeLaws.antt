-- What a magnitude that was read says of the digits.
-- Assumes nothing.
use Rattle.std.specs.Prelude.{None, Option, Some, MatchOption}
use mathlib.Core.Path.{◌≡◌, refl, sym}
use mathlib.Core.Bool.{Bool, true, false}
use Prim.Native.Nat.{ℕ}
use lib.ListN.{get_or, drop}
use borrow.Author.Tests.{eq-eqb, ne_eqb}
use native.Mathlib.Omega.{arith}
use Rattle.page.specs.Bytes.{Bytes, pick}
use Rattle.page.specs.Fields.{digits, value, minus, number_of}
use Rattle.page.specs.declared.Number.{Number}
use Rattle.page.specs.declared.Number.TheVariants as N
use Rattle.digits.specs.Magnitudes.{magnitude_of}

module _ (ds : Bytes) where
  pub magnitude_is : (v : ℕ) → magnitude_of ds ≡ Some v → (digits ds ≡ true) × (value 0 ds ≡ v)
  unfolding magnitude_of
  magnitude_is v e = by (digits ds) refl e
    where
      by : (b : Bool) → digits ds ≡ b → pick b (Some (value 0 ds)) None ≡ Some v → (digits ds ≡ true) × (value 0 ds ≡ v)
      by true d q = (d, cc)
      by false d q = absurd (let z : ◌≡◌ {A = ℕ} 0 1 = cc in omega arith)

  pub magnitude_not : magnitude_of ds ≡ None → digits ds ≡ false
  unfolding magnitude_of
  magnitude_not e = by (digits ds) refl e
    where
      by : (b : Bool) → digits ds ≡ b → pick b (Some (value 0 ds)) None ≡ None → digits ds ≡ false
      by true d q = absurd (let z : ◌≡◌ {A = ℕ} 0 1 = cc in omega arith)
      by false d q = d

-- a number read from what follows its `-`, or from the whole field
pub negated : (f : Bytes) (o : Option ℕ) (r : Number) → o ≡ magnitude_of (drop 1 f) → get_or f 0 0 ≡ 45
    → MatchOption o (r ≡ N.Nothing) (λ v. r ≡ minus v) → r ≡ number_of f
unfolding number_of
negated f None r q h e = rw (eq-eqb (get_or f 0 0) 45 h, magnitude_not (drop 1 f) (sym q)) e
negated f (Some v) r q h e =
    let d = magnitude_is (drop 1 f) v (sym q) in
    rw (eq-eqb (get_or f 0 0) 45 h, d.0, d.1) e

pub plain : (f : Bytes) (o : Option ℕ) (r : Number) → o ≡ magnitude_of f → (get_or f 0 0 ≡ 45 → ⊥)
    → MatchOption o (r ≡ N.Nothing) (λ v. r ≡ N.Plus v) → r ≡ number_of f
unfolding number_of
plain f None r q h e = rw (ne_eqb (get_or f 0 0) 45 h, magnitude_not f (sym q)) e
plain f (Some v) r q h e =
    let d = magnitude_is f v (sym q) in
    rw (ne_eqb (get_or f 0 0) 45 h, d.0, d.1) e
