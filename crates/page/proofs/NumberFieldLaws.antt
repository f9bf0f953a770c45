-- What a number column's field is read as: the number that stands there, or a refusal.
-- Assumes nothing.
use mathlib.Core.Path.{◌≡◌, refl}
use mathlib.Core.Bool.{Bool, true, false, not, ◌&&◌}
use Prim.Native.Nat.{ℕ}
use native.Mathlib.Omega.{arith}
use lib.Dec.{leb}
use Rattle.page.specs.Bytes.{pick}
use Rattle.page.specs.Dates.{real_day}
use Rattle.page.specs.Section.{day_field, number_field}
use Rattle.page.specs.declared.Field.{Field}
use Rattle.page.specs.declared.Field.TheVariants as F
use Rattle.page.specs.declared.Number.{Number}
use Rattle.page.specs.declared.Number.TheVariants as N

pub data NumberRead (n : Number) : Field → Type 0 where
  as_number : (k : ℕ) → n ≡ N.Plus k → NumberRead n (F.Number k)
  as_refusal : (v : ℕ) → ¬ (v ≡ 0) → NumberRead n (F.Refused v)

pub number_read_so : (day : Bool) (lo hi : ℕ) (n : Number) → NumberRead n (number_field day lo hi n)
unfolding number_field day_field
number_read_so day lo hi (N.Plus k) = by (leb lo k && leb k hi) (day && not (real_day k))
  where
    by : (b d : Bool) → NumberRead (N.Plus k) (pick b (pick d (F.Refused 26) (F.Number k)) (F.Refused 13))
    by true true = as_refusal 26 (λ (e : ◌≡◌ {A = ℕ} 26 0). omega arith)
    by true false = as_number k refl
    by false d = as_refusal 13 (λ (e : ◌≡◌ {A = ℕ} 13 0). omega arith)
number_read_so day lo hi (N.Minus k) = as_refusal 13 (λ (e : ◌≡◌ {A = ℕ} 13 0). omega arith)
number_read_so day lo hi N.Nothing = as_refusal 12 (λ (e : ◌≡◌ {A = ℕ} 12 0). omega arith)
