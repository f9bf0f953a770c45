-- Numbers come back as they were written: without leading zeros, or padded to a width. Assumes nothing.
use mathlib.Core.Path.{◌≡◌, refl, ap, ◌∙◌}
use mathlib.Core.Bool.{Bool, true, false, ◌&&◌, false≢true}
use mathlib.Core.List.{[], ◌∷◌, ◌++◌}
use Prim.Native.Nat.{ℕ, zero, suc, ◌+◌, ◌*◌, ◌-◌, ◌/◌, ◌%◌, ◌≤◌, ◌<◌, ◌^◌}
use native.Mathlib.Nat.{pow-suc}
use native.Mathlib.Omega.{arith}
use lib.Dec.{eqb, ltb, leb}
use lib.ListN.{length, get_or, length-append}
use borrow.Author.Tests.{ltb-true, ltb-false, le-leb, leb-true, ne_eqb}
use Rattle.page.specs.Bytes.{Bytes, all}
use Rattle.page.specs.Fields.{digit, digits, value, number_of}
use Rattle.page.specs.Form.{decimal_in, decimal, padded}
use Rattle.page.specs.declared.Number.TheVariants as N
use Rattle.laws.proofs.WrittenScans.{all_append, first_append}
use Rattle.page.proofs.TestLaws.{and_left, and_right}

pub digit_of : (n : ℕ) → n < 10 → digit (48 + n) ≡ true
unfolding digit
digit_of n h = rw (le-leb 48 (48 + n) (omega arith), le-leb (48 + n) 57 (omega arith))

value_append : (n : ℕ) (v w : Bytes) → value n (v ++ w) ≡ value (value n v) w
unfolding value
value_append n [] w = refl
value_append n (b ∷ v) w = value_append (n * 10 + (b - 48)) v w

-- one more digit at the end
pub value_last : (n d : ℕ) (v : Bytes) → value n (v ++ ((48 + d) ∷ [])) ≡ value n v * 10 + d
unfolding value
value_last n d v = value_append n v ((48 + d) ∷ []) ∙ omega arith

decimal_small : (k n : ℕ) → ltb n 10 ≡ true → decimal_in (suc k) n ≡ (48 + n) ∷ []
unfolding decimal_in
decimal_small k n e = rw (e, decimal_in)

decimal_large : (k n : ℕ) → ltb n 10 ≡ false → decimal_in (suc k) n ≡ decimal_in k (n / 10) ++ ((48 + n % 10) ∷ [])
unfolding decimal_in
decimal_large k n e = rw (e, decimal_in)

-- a fact of what is written, by cases on whether one digit is enough
by_digits : (P : ℕ → ℕ → Bytes → Type 0) → ((n : ℕ) → P 0 n ((48 + n % 10) ∷ [])) → ((k n : ℕ) → n < 10 → P (suc k) n ((48 + n) ∷ [])) →
    ((k n : ℕ) → 10 ≤ n → P k (n / 10) (decimal_in k (n / 10)) → P (suc k) n (decimal_in k (n / 10) ++ ((48 + n % 10) ∷ []))) →
    (k n : ℕ) → P k n (decimal_in k n)
unfolding decimal_in
by_digits P one small large zero n = one n
by_digits P one small large (suc k) n = go (by_digits P one small large k (n / 10)) (ltb n 10) refl
  where
    go : P k (n / 10) (decimal_in k (n / 10)) → (b : Bool) → ltb n 10 ≡ b → P (suc k) n (decimal_in (suc k) n)
    go ih true e = rw (decimal_small k n e) (small k n (ltb-true n 10 e))
    go ih false e = rw (decimal_large k n e) (large k n (ltb-false n 10 e) ih)

value_decimal : (k n : ℕ) → n < 10 ^ suc k → value 0 (decimal_in k n) ≡ n
unfolding value
value_decimal =
    by_digits (λ k n w. n < 10 ^ suc k → value 0 w ≡ n) (λ n h. omega arith) (λ k n l h. omega arith)
    (λ k n l ih h. value_last 0 (n % 10) (decimal_in k (n / 10)) ∙ rw (ih (omega (arith, pow-suc 10 (suc k)))) (omega arith))

all_decimal : (k n : ℕ) → all digit (decimal_in k n) ≡ true
unfolding all
all_decimal =
    by_digits (λ k n w. all digit w ≡ true) (λ n. rw (digit_of (n % 10) (omega arith))) (λ k n l. rw (digit_of n l))
    (λ k n l ih. all_append digit (decimal_in k (n / 10)) ((48 + n % 10) ∷ []) ih (rw (digit_of (n % 10) (omega arith))))

some_decimal : (k n : ℕ) → 0 < length (decimal_in k n)
some_decimal =
    by_digits (λ k n w. 0 < length w) (λ n. omega arith) (λ k n l. omega arith)
    (λ k n l ih. omega (arith, length-append (decimal_in k (n / 10)) ((48 + n % 10) ∷ [])))

length_decimal : (k n j : ℕ) → n < 10 ^ suc j → length (decimal_in k n) ≤ suc j
length_decimal = by_digits (λ k n w. (j : ℕ) → n < 10 ^ suc j → length w ≤ suc j) (λ n j h. omega arith) (λ k n l j h. omega arith) large
  where
    large : (k n : ℕ) → 10 ≤ n → ((j : ℕ) → n / 10 < 10 ^ suc j → length (decimal_in k (n / 10)) ≤ suc j) →
        (j : ℕ) → n < 10 ^ suc j → length (decimal_in k (n / 10) ++ ((48 + n % 10) ∷ [])) ≤ suc j
    large k n l ih zero h = absurd (let z : ⊥ = omega arith in z)
    large k n l ih (suc j) h = omega (arith, length-append (decimal_in k (n / 10)) ((48 + n % 10) ∷ []), ih j (omega (arith, pow-suc 10 (suc j))))

-- "Numbers without leading zeros"
lead_decimal : (k n : ℕ) → 1 ≤ n → n < 10 ^ suc k → eqb (get_or (decimal_in k n) 0 0) 48 ≡ false
lead_decimal =
    by_digits (λ k n w. 1 ≤ n → n < 10 ^ suc k → eqb (get_or w 0 0) 48 ≡ false)
    (λ n p h. ne_eqb (48 + n % 10) 48 (λ (q : 48 + n % 10 ≡ 48). omega arith))
    (λ k n l p h. ne_eqb (48 + n) 48 (λ (q : 48 + n ≡ 48). omega arith))
    (λ k n l ih p h. rw (first_append (decimal_in k (n / 10)) ((48 + n % 10) ∷ []) 0 (some_decimal k (n / 10))) (ih (omega arith) (omega (arith, pow-suc 10 (suc k)))))

pub decimal_all : (n : ℕ) → all digit (decimal n) ≡ true
unfolding decimal
decimal_all n = all_decimal 19 n

pub decimal_some : (n : ℕ) → 0 < length (decimal n)
unfolding decimal
decimal_some n = some_decimal 19 n

module _ (n : ℕ) (h : n < 10 ^ 18) where
  pub decimal_digits : digits (decimal n) ≡ true
  unfolding decimal digits
  decimal_digits = rw (le-leb 1 (length (decimal_in 19 n)) (some_decimal 19 n), le-leb (length (decimal_in 19 n)) 18 (length_decimal 19 n 17 h), all_decimal 19 n)

  pub decimal_value : value 0 (decimal n) ≡ n
  unfolding decimal
  decimal_value = value_decimal 19 n (omega arith)

  pub decimal_lead : 1 ≤ n → eqb (get_or (decimal n) 0 0) 48 ≡ false
  unfolding decimal
  decimal_lead p = lead_decimal 19 n p (omega arith)

-- the first digit is no minus
no_minus : (b : ℕ) → digit b ≡ true → eqb b 45 ≡ false
unfolding digit
no_minus b e = ne_eqb b 45 (λ (q : b ≡ 45). let l : 48 ≤ b = leb-true 48 b (and_left (leb 48 b) (leb b 57) e) in omega arith)

number_digits : (w : Bytes) → digits w ≡ true → number_of w ≡ N.Plus (value 0 w)
unfolding number_of digits all
number_digits [] e = absurd (false≢true e)
number_digits (b ∷ w) e =
    let d : digit b ≡ true = and_left (digit b) (all digit w) (and_right (leb 1 (length (b ∷ w)) && leb (length (b ∷ w)) 18) (all digit (b ∷ w)) e) in
    rw (no_minus b d) (rw e)

pub number_decimal : (n : ℕ) → n < 10 ^ 18 → number_of (decimal n) ≡ N.Plus n
number_decimal n h = number_digits (decimal n) (decimal_digits n h) ∙ ap N.Plus (decimal_value n h)

-- "HH:MM:SS", "DD.MM.YYYY": the last k digits

pub padded_length : (k n : ℕ) → length (padded k n) ≡ k
unfolding padded
padded_length zero n = refl
padded_length (suc k) n = length-append (padded k (n / 10)) ((48 + n % 10) ∷ []) ∙ rw (padded_length k (n / 10)) (omega arith)

pub padded_all : (k n : ℕ) → all digit (padded k n) ≡ true
unfolding padded all
padded_all zero n = refl
padded_all (suc k) n = all_append digit (padded k (n / 10)) ((48 + n % 10) ∷ []) (padded_all k (n / 10)) (rw (digit_of (n % 10) (omega arith)))

pub padded_value : (k n : ℕ) → n < 10 ^ k → value 0 (padded k n) ≡ n
unfolding padded value
padded_value zero n h = omega arith
padded_value (suc k) n h = value_last 0 (n % 10) (padded k (n / 10)) ∙ rw (padded_value k (n / 10) (omega (arith, pow-suc 10 k))) (omega arith)
