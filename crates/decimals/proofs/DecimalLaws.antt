-- Laws of written numbers: digit by digit, and what is made of them. Assumes nothing.
use mathlib.Core.Path.{◌≡◌, refl, ap}
use mathlib.Core.Bool.{Bool, true, false}
use mathlib.Core.List.{[], ◌∷◌, ◌++◌}
use Prim.Native.Nat.{ℕ, zero, suc, ◌+◌, ◌-◌, ◌/◌, ◌%◌, ◌<◌, ◌≤◌}
use native.Mathlib.Omega.{arith}
use borrow.Author.Tests.{lt-ltb, le-ltb}
use Rattle.page.specs.Bytes.{bytes}
use Rattle.page.specs.Form.{decimal_in, decimal, padded, format_text}
use Rattle.page.specs.declared.Column.{Column}

pub decimal_few : (k n : ℕ) → n < 10 → (48 + n) ∷ [] ≡ decimal_in k n
unfolding decimal_in
decimal_few zero n l = let e : n ≡ n % 10 = omega arith in ap (λ (m : ℕ). (48 + m) ∷ []) e
decimal_few (suc k) n l = simp (lt-ltb n 10 l)

-- d is the last digit
pub decimal_last : (k n d : ℕ) → k ≤ 0 → d ≡ 48 + n % 10 → d ∷ [] ≡ decimal_in k n
unfolding decimal_in
decimal_last zero n d h l = rw l
decimal_last (suc k) n d h l = absurd (omega arith)

pub decimal_more : (k n d : ℕ) → 0 < k → 10 ≤ n → d ≡ 48 + n % 10 → decimal_in (k - 1) (n / 10) ++ (d ∷ []) ≡ decimal_in k n
unfolding decimal_in
decimal_more zero n d h m l = absurd (omega arith)
decimal_more (suc k) n d h m l = let e : suc k - 1 ≡ k = omega arith in simp (le-ltb n 10 m, e, l)

pub padded_none : (k n : ℕ) → k ≤ 0 → [] ≡ padded k n
unfolding padded
padded_none zero n h = refl
padded_none (suc k) n h = absurd (omega arith)

pub padded_more : (k n d : ℕ) → 0 < k → d ≡ 48 + n % 10 → padded (k - 1) (n / 10) ++ (d ∷ []) ≡ padded k n
unfolding padded
padded_more zero n d h l = absurd (omega arith)
padded_more (suc k) n d h l = let e : suc k - 1 ≡ k = omega arith in simp (e, l)

module _ (c : Column) (text : Bool) (size : ℕ) (t : c.text ≡ text) (n : c.size ≡ size) where
  pub format_char : text ≡ true → bytes "char[" ++ (decimal size ++ bytes "]") ≡ format_text c
  unfolding format_text
  format_char e = rw (t, n, e)

  pub format_num : text ≡ false → bytes "num[" ++ (decimal size ++ bytes ".0]") ≡ format_text c
  unfolding format_text
  format_num e = rw (t, n, e)
