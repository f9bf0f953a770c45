-- A test decides a statement: one proof serves both ways.
use mathlib.Core.Path.{◌≡◌, refl}
use mathlib.Core.Bool.{Bool, true, false, not, ◌&&◌, ◌||◌, false≢true}
use mathlib.Core.Logic.{◌⊎◌, inl, inr}
use Prim.Native.Nat.{ℕ, ◌≤◌, ◌<◌}
use native.Mathlib.Nat.{not-le_of_lt}
use lib.Dec.{eqb, leb, ltb}
use borrow.Author.Tests.{eqb-true, eqb-false, leb-true, leb-false, ltb-true, ltb-false}

pub data Decides (A : Type 0) : Bool → Type 0 where
  holds : A → Decides A true
  fails : ¬ A → Decides A false

pub fact : {A : Type 0} {b : Bool} → Decides A b → b ≡ true → A
fact (holds a) e = a
fact (fails n) e = absurd (false≢true e)

pub tested : {A : Type 0} {b : Bool} → Decides A b → A → b ≡ true
tested (holds a) x = refl
tested (fails n) x = absurd (n x)

pub untested : {A : Type 0} {b : Bool} → Decides A b → ¬ A → b ≡ false
untested (holds a) n = absurd (n a)
untested (fails n) x = refl

pub when : {A B : Type 0} {b : Bool} → (A → B) → (B → A) → Decides A b → Decides B b
when f g (holds a) = holds (f a)
when f g (fails n) = fails (λ b. n (g b))

pub denied : {A : Type 0} {b : Bool} → Decides A b → Decides (¬ A) (not b)
denied (holds a) = fails (λ n. n a)
denied (fails n) = holds n

pub both : {A B : Type 0} {a b : Bool} → Decides A a → Decides B b → Decides (A × B) (a && b)
both (holds x) (holds y) = holds (x, y)
both (holds x) (fails n) = fails (λ p. n p.1)
both (fails n) d = fails (λ p. n p.0)

pub one_of : {A B : Type 0} {a b : Bool} → Decides A a → Decides B b → Decides (A ⊎ B) (a || b)
one_of (holds x) d = holds (inl x)
one_of (fails n) (holds y) = holds (inr y)
one_of (fails n) (fails m) = fails (λ s. elim s [ inl x ↦ n x | inr y ↦ m y ])

pub by_test : {A : Type 0} (b : Bool) → (b ≡ true → A) → (b ≡ false → ¬ A) → Decides A b
by_test true f g = holds (f refl)
by_test false f g = fails (g refl)

pub equal : (a b : ℕ) → Decides (a ≡ b) (eqb a b)
equal a b = by_test (eqb a b) (eqb-true a b) (eqb-false a b)

pub at_most : (a b : ℕ) → Decides (a ≤ b) (leb a b)
at_most a b = by_test (leb a b) (leb-true a b) (λ e. not-le_of_lt (leb-false a b e))

pub below : (a b : ℕ) → Decides (a < b) (ltb a b)
below a b = by_test (ltb a b) (ltb-true a b) (λ e h. not-le_of_lt h (ltb-false a b e))
