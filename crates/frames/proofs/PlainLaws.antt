-- Laws of the parts of a line: numbers hold no quote. Assumes nothing.
use mathlib.Core.Path.{◌≡◌, refl, sym}
use mathlib.Core.Bool.{Bool, true, false}
use mathlib.Core.List.{[], ◌∷◌, ◌++◌, append_assoc}
use Prim.Native.Nat.{ℕ, zero, suc, ◌+◌, ◌/◌, ◌%◌}
use native.Mathlib.Omega.{arith}
use lib.Dec.{ltb}
use Rattle.page.specs.Bytes.{Bytes, pick}
use Rattle.page.specs.Form.{decimal_in, padded, doubled, quoted}
use Rattle.doubling.proofs.TextLaws.{doubled_other, doubled_none, doubled_cons}

doubled_append : (a b : Bytes) → doubled (a ++ b) ≡ doubled a ++ doubled b
doubled_append [] b = rw doubled_none
doubled_append (x ∷ a) b = rw (doubled_cons x (a ++ b), doubled_cons x a, append_assoc, doubled_append a b)

-- bytes among which is no quote are their own doubling
pub record Plain (t : Bytes) : Type 0 where
  pub is : doubled t ≡ t

pub plain_append : (a b : Bytes) → Plain a → Plain b → Plain (a ++ b)
plain_append a b p q = record { is = rw (doubled_append a b, p.is, q.is) }

pub plain_byte : (b : ℕ) → (b ≡ 34 → ⊥) → Plain (b ∷ [])
plain_byte b h = record { is = sym (doubled_other b h) }

pub plain_decimal : (k n : ℕ) → Plain (decimal_in k n)
unfolding decimal_in
plain_decimal zero n = plain_byte (48 + n % 10) (λ e. omega arith)
plain_decimal (suc k) n = by (ltb n 10) refl (plain_decimal k (n / 10))
  where
    by : (q : Bool) → ltb n 10 ≡ q → Plain (decimal_in k (n / 10))
        → Plain (pick q ((48 + n) ∷ []) (decimal_in k (n / 10) ++ ((48 + n % 10) ∷ [])))
    by true e h = plain_byte (48 + n) (λ z. omega arith)
    by false e h = plain_append (decimal_in k (n / 10)) ((48 + n % 10) ∷ []) h (plain_byte (48 + n % 10) (λ z. omega arith))

pub plain_padded : (k n : ℕ) → Plain (padded k n)
unfolding padded
plain_padded zero n = record { is = doubled_none }
plain_padded (suc k) n = plain_append (padded k (n / 10)) ((48 + n % 10) ∷ []) (plain_padded k (n / 10)) (plain_byte (48 + n % 10) (λ z. omega arith))

pub plain_quoted : (t : Bytes) → Plain t → quoted t ≡ 34 ∷ (t ++ (34 ∷ []))
unfolding quoted
plain_quoted t p = rw p.is
