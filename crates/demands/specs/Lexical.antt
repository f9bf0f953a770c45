-- What the smallest pieces of a file are, with no algorithm: digits, numbers, formats, mark texts, texts of a record.
use Rattle.std.specs.Prelude.{◌≡◌, [], ◌∷◌, ◌++◌, ℕ, zero, suc, ◌+◌, ◌-◌, ◌*◌, ◌≤◌, ◌<◌, length, get_or}
use Rattle.page.specs.Bytes.{Bytes, bytes}
use Rattle.page.specs.Form.{quoted}
use Rattle.page.specs.declared.Number.{Number}
use Rattle.page.specs.declared.Number.TheVariants as N

-- decimal digits worth n, the last one the unit
pub data Digits : Bytes → ℕ → Type 0 where
  no_digit : Digits [] 0
  one_digit : {ds : Bytes} {n : ℕ} (d : ℕ) → Digits ds n → d < 10 → Digits (ds ++ ((48 + d) ∷ [])) (10 * n + d)

-- "1 to 18 digits, leading zeros allowed"
pub record Decimal (ds : Bytes) (n : ℕ) : Type 0 where
  pub worth : Digits ds n
  pub some : 1 ≤ length ds
  pub few : length ds ≤ 18

-- "A number is an optional `-` and 1 to 18 digits, `-0` being 0."
pub data Numeral (f : Bytes) : Number → Type 0 where
  plain : {n : ℕ} → Decimal f n → Numeral f (N.Plus n)
  minus_zero : {ds : Bytes} → f ≡ 45 ∷ ds → Decimal ds 0 → Numeral f (N.Plus 0)
  below_zero : {ds : Bytes} {n : ℕ} → f ≡ 45 ∷ ds → Decimal ds n → 0 < n → Numeral f (N.Minus n)

-- digits worth n "without leading zeros"
pub record Shortest (ds : Bytes) (n : ℕ) : Type 0 where
  pub decimal : Decimal ds n
  pub leads : ¬ (get_or ds 0 0 ≡ 48)

-- "`num[n.0]` or `char[n]`, n from 1 to 255 without leading zeros": what stands around n
pub record Format (name tail w : Bytes) : Type 0 where
  pub digits : Bytes
  pub size : ℕ
  pub whole : w ≡ name ++ (digits ++ tail)
  pub reads : Shortest digits size
  pub from_one : 1 ≤ size
  pub small : size ≤ 255

-- "`SUGGESTED `. After that word and its one space come the field number, without leading zeros, and nothing more."
pub record MarkText (t : Bytes) (i : ℕ) : Type 0 where
  pub digits : Bytes
  pub whole : t ≡ bytes "SUGGESTED " ++ digits
  pub reads : Shortest digits i

-- n spaces
unfoldable pub blanks : ℕ → Bytes
blanks zero = []
blanks (suc n) = 32 ∷ blanks n

-- "Spaces at the end of a text in a record no longer belong to it": a field holds t exactly if it is t with any number of spaces behind it,
-- quoted, and the last byte of t is none
pub record PaddedText (f t : Bytes) : Type 0 where
  pub spaces : ℕ
  pub whole : f ≡ quoted (t ++ blanks spaces)
  pub bare : ¬ (get_or t (length t - 1) 0 ≡ 32)
