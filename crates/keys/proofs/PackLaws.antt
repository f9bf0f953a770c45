-- A text is told by its number. Assumes nothing.
use mathlib.Core.Path.{◌≡◌, refl, ap, sym, ◌∙◌}
use mathlib.Core.Bool.{Bool, true, false}
use mathlib.Core.List.{[], ◌∷◌}
use mathlib.Core.Logic.{◌⊎◌, inl, inr}
use Prim.Native.Nat.{ℕ, suc, ◌+◌, ◌*◌, ◌^◌, ◌<◌, ◌≤◌, zero-le}
use native.Mathlib.Nat.{pow-suc, pow-succ', pow-le-pow_right, mul_assoc, mul-le-mul_right, mul-le-mul_left, lt_of_lt_of_le, le_trans, eq-or-lt_of_le}
use native.Mathlib.Omega.{arith}
use borrow.Author.Tests.{eq-eqb, eqb-true, lt-ltb, ltb-true, leb-true, leb-false}
use lib.Dec.{eqb, leb, ltb, lit<}
use lib.ListN.{length}
use Rattle.page.specs.Bytes.{Bytes, same, all}
use Rattle.page.proofs.TestLaws.{and_left, and_right, same_refl, same_true, both_ways}
use Rattle.keys.specs.Numbers.{room, push, packed_from, packed}

-- a byte
abbrev pub byte : ℕ → Bool
byte b = ltb b 256

-- where there is room for every byte
unfoldable pub text_number : ℕ → Bytes → ℕ
text_number n [] = n
text_number n (b ∷ bs) = text_number (n * 256 + b) bs

packed_plain : (t : Bytes) (n : ℕ) → all byte t ≡ true → (n + 1) * 256 ^ length t ≤ 2 * room → packed_from n t ≡ text_number n t
unfolding packed_from push text_number all
packed_plain [] n e h = refl
packed_plain (b ∷ t) n e h =
    let l : b < 256 = ltb-true b 256 (and_left (byte b) (all byte t) e) in
    let p : (n + 1) * 256 ^ suc (length t) ≡ (n + 1) * 256 * 256 ^ length t =
    ap (λ (k : ℕ). (n + 1) * k) (pow-succ' 256 (length t)) ∙ sym (mul_assoc (n + 1) 256 (256 ^ length t)) in
    let o : 1 ≤ 256 ^ length t = pow-le-pow_right (lit< tt) zero-le in
    let k : (n + 1) * 256 * 1 ≤ (n + 1) * 256 * 256 ^ length t = mul-le-mul_left ((n + 1) * 256) o in
    let up : n * 256 + b + 1 ≤ (n + 1) * 256 = omega arith in
    let m : (n * 256 + b + 1) * 256 ^ length t ≤ (n + 1) * 256 * 256 ^ length t = mul-le-mul_right (256 ^ length t) up in
    rw (lt-ltb n room (omega arith)) (packed_plain t (n * 256 + b) (and_right (byte b) (all byte t) e) (omega arith))

-- a number that begins with n lies between n and n + 1 times 256 to the length
pub number_ge : (t : Bytes) (n : ℕ) → n * 256 ^ length t ≤ text_number n t
unfolding text_number
number_ge [] n = omega arith
number_ge (b ∷ t) n =
    let ih = number_ge t (n * 256 + b) in
    let m : n * 256 * 256 ^ length t ≤ (n * 256 + b) * 256 ^ length t = mul-le-mul_right (256 ^ length t) (omega arith) in
    let p : n * 256 ^ suc (length t) ≡ n * 256 * 256 ^ length t =
    ap (λ (k : ℕ). n * k) (pow-succ' 256 (length t)) ∙ sym (mul_assoc n 256 (256 ^ length t)) in
    rw p (le_trans m ih)

pub number_lt : (t : Bytes) (n : ℕ) → all byte t ≡ true → text_number n t < (n + 1) * 256 ^ length t
unfolding text_number all
number_lt [] n e = omega arith
number_lt (b ∷ t) n e =
    let l : b < 256 = ltb-true b 256 (and_left (byte b) (all byte t) e) in
    let ih = number_lt t (n * 256 + b) (and_right (byte b) (all byte t) e) in
    let up : n * 256 + b + 1 ≤ (n + 1) * 256 = omega arith in
    let m : (n * 256 + b + 1) * 256 ^ length t ≤ (n + 1) * 256 * 256 ^ length t = mul-le-mul_right (256 ^ length t) up in
    let p : (n + 1) * 256 ^ suc (length t) ≡ (n + 1) * 256 * 256 ^ length t =
    ap (λ (k : ℕ). (n + 1) * k) (pow-succ' 256 (length t)) ∙ sym (mul_assoc (n + 1) 256 (256 ^ length t)) in
    rw p (lt_of_lt_of_le ih m)

-- a longer text has a greater number
longer : (t u : Bytes) → all byte t ≡ true → length t < length u → text_number 1 t < text_number 1 u
longer t u e h =
    let a = number_lt t 1 e in
    let b = number_ge u 1 in
    let c : 256 ^ suc (length t) ≤ 256 ^ length u = pow-le-pow_right (lit< tt) h in
    let d : 256 ^ suc (length t) ≡ 256 ^ length t * 256 = pow-suc 256 (length t) in
    omega arith

-- texts of one length
pub record Told (n m : ℕ) (t u : Bytes) : Type 0 where
  pub front : n ≡ m
  pub text : t ≡ u

told : (t u : Bytes) (n m : ℕ) → length t ≡ length u → all byte t ≡ true → all byte u ≡ true → text_number n t ≡ text_number m u → Told n m t u
unfolding text_number all
told [] [] n m l e f q = record { front = q; text = refl }
told [] (c ∷ u) n m l e f q = absurd (omega arith)
told (b ∷ t) [] n m l e f q = absurd (omega arith)
told (b ∷ t) (c ∷ u) n m l e f q =
    let x = told t u (n * 256 + b) (m * 256 + c) (omega arith) (and_right (byte b) (all byte t) e) (and_right (byte c) (all byte u) f) q in
    let i : b < 256 = ltb-true b 256 (and_left (byte b) (all byte t) e) in
    let j : c < 256 = ltb-true c 256 (and_left (byte c) (all byte u) f) in
    let z = x.front in
    let y : b ≡ c = omega arith in
    let w = x.text in
    record { front = omega arith; text = cc }

pub number_tells : (t u : Bytes) → all byte t ≡ true → all byte u ≡ true → text_number 1 t ≡ text_number 1 u → t ≡ u
number_tells t u e f q = by (leb (length u) (length t)) refl
  where
    of : (length u ≡ length t) ⊎ (length u < length t) → t ≡ u
    of (inl h) = (told t u 1 1 (sym h) e f q).text
    of (inr h) = absurd (omega (arith, longer u t f h))

    by : (b : Bool) → leb (length u) (length t) ≡ b → t ≡ u
    by true h = of (eq-or-lt_of_le (leb-true (length u) (length t) h))
    by false h = absurd (omega (arith, longer t u e (leb-false (length u) (length t) h)))

-- two texts of at most seven bytes are the same exactly if their numbers are

short_packed : (t : Bytes) → length t ≤ 7 → all byte t ≡ true → packed t + 1 ≡ text_number 1 t
unfolding packed
short_packed t h e =
    let p : 256 ^ length t ≤ 256 ^ 7 = pow-le-pow_right (lit< tt) h in
    let q = packed_plain t 1 e (omega arith) in
    let o : 1 ≤ 256 ^ length t = pow-le-pow_right (lit< tt) zero-le in
    omega (arith, number_ge t 1)

pub packed_same : (t u : Bytes) → length t ≤ 7 → length u ≤ 7 → all byte t ≡ true → all byte u ≡ true → eqb (packed t) (packed u) ≡ same t u
packed_same t u h k e f = both_ways (eqb (packed t) (packed u)) (same t u) there back
  where
    there : eqb (packed t) (packed u) ≡ true → same t u ≡ true
    there q =
        let n = eqb-true (packed t) (packed u) q in
        rw (number_tells t u e f (sym (short_packed t h e) ∙ ap (λ (n : ℕ). n + 1) n ∙ short_packed u k f)) (same_refl u)

    back : same t u ≡ true → eqb (packed t) (packed u) ≡ true
    back q = eq-eqb (packed t) (packed u) (ap packed (same_true t u q))
