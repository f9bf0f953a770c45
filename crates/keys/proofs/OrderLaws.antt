-- Keys in order: a key above all before it is new. Assumes nothing.
use mathlib.Core.Path.{◌≡◌, refl, ap, sym, ◌∙◌}
use mathlib.Core.Bool.{Bool, true, false, false≢true}
use mathlib.Core.List.{List, [], ◌∷◌}
use Prim.Native.Nat.{ℕ, ◌+◌, ◌<◌, ◌≤◌}
use native.Mathlib.Omega.{arith}
use native.Mathlib.Numerals.{add-one}
use lib.Dec.{eqb, ltb}
use lib.Bits.{bit_xor}
use lib.ListN.{length, get_or, drop, drop_of_length-le}
use lib.Seq.{drop-cons}
use borrow.Author.Tests.{eq-eqb, ne_eqb, eqb-true, ltb-true, lt-ltb}
use Rattle.page.specs.Bytes.{pick}
use Rattle.keys.specs.Orders.{less, mixed, hashed}

module _ (a b : List ℕ) (i : ℕ) (h : i < length a) (k : i < length b) where
  pub less_more : get_or a i 0 ≡ get_or b i 0 → less (drop i a) (drop i b) ≡ less (drop (i + 1) a) (drop (i + 1) b)
  unfolding less
  less_more e = rw (add-one, drop-cons a i 0 h, drop-cons b i 0 k, eq-eqb (get_or a i 0) (get_or b i 0) e)

  pub less_here : (get_or a i 0 ≡ get_or b i 0 → ⊥) → less (drop i a) (drop i b) ≡ ltb (get_or a i 0) (get_or b i 0)
  unfolding less
  less_here e = rw (drop-cons a i 0 h, drop-cons b i 0 k, ne_eqb (get_or a i 0) (get_or b i 0) e)

pub less_end : (a b : List ℕ) (i : ℕ) → length a ≤ i → less (drop i a) (drop i b) ≡ false
unfolding less
less_end a b i h = rw (drop_of_length-le a h)

module _ (a : List ℕ) (i n : ℕ) where
  pub hash_more : i < length a → hashed n (drop i a) ≡ hashed (mixed (bit_xor n (get_or a i 0))) (drop (i + 1) a)
  unfolding hashed
  hash_more h = rw (add-one, drop-cons a i 0 h)

  pub hash_end : length a ≤ i → hashed n (drop i a) ≡ n
  unfolding hashed
  hash_end h = rw (drop_of_length-le a h)

-- no key is above itself
pub less_self : (a : List ℕ) → less a a ≡ false
unfolding less
less_self [] = refl
less_self (x ∷ a) = rw (eq-eqb x x refl) (less_self a)

pub less_trans : (a b c : List ℕ) → less a b ≡ true → less b c ≡ true → less a c ≡ true
unfolding less
less_trans [] b c e f = absurd (false≢true e)
less_trans (x ∷ a) [] c e f = absurd (false≢true e)
less_trans (x ∷ a) (y ∷ b) [] e f = absurd (false≢true f)
less_trans (x ∷ a) (y ∷ b) (z ∷ c) e f = by (eqb x y) (eqb y z) refl refl e f (less_trans a b c)
  where
    by : (p q : Bool) → eqb x y ≡ p → eqb y z ≡ q → pick p (less a b) (ltb x y) ≡ true → pick q (less b c) (ltb y z) ≡ true
        → (less a b ≡ true → less b c ≡ true → less a c ≡ true) → pick (eqb x z) (less a c) (ltb x z) ≡ true
    by true true g h e f ih =
        let m : x ≡ z = eqb-true x y g ∙ eqb-true y z h in
        rw (eq-eqb x z m) (ih e f)
    by true false g h e f ih =
        let m : x ≡ y = eqb-true x y g in
        let l : y < z = ltb-true y z f in
        rw (ne_eqb x z (λ w. omega arith)) (lt-ltb x z (omega arith))
    by false true g h e f ih =
        let m : y ≡ z = eqb-true y z h in
        let l : x < y = ltb-true x y e in
        rw (ne_eqb x z (λ w. omega arith)) (lt-ltb x z (omega arith))
    by false false g h e f ih =
        let m : x < y = ltb-true x y e in
        let l : y < z = ltb-true y z f in
        rw (ne_eqb x z (λ w. omega arith)) (lt-ltb x z (omega arith))

-- a key above one that no key before it is above: it is none of those, and none of those is above it
module _ (top k d : List ℕ) (h : less top k ≡ true) (l : less top d ≡ false) where
  pub less_new : d ≡ k → ⊥
  less_new e = false≢true (sym l ∙ ap (less top) e ∙ h)

  pub less_top : less k d ≡ false
  less_top = by (less k d) refl
    where
      by : (b : Bool) → less k d ≡ b → less k d ≡ false
      by true q = absurd (false≢true (sym l ∙ less_trans top k d h q))
      by false q = q
