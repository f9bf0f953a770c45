-- Digits and numbers: the laws of `digit`, `value` and `digits` at a place, and how large a value can be.
-- Assumes nothing.
use mathlib.Core.Path.{◌≡◌}
use mathlib.Core.Bool.{true, false, ◌&&◌}
use Prim.Native.Nat.{ℕ, suc, ◌+◌, ◌-◌, ◌*◌, ◌^◌, ◌<◌, ◌≤◌}
use native.Mathlib.Numerals.{add-one}
use native.Mathlib.Nat.{pow-suc, pow-le-pow_right}
use native.Mathlib.Omega.{arith}
use borrow.Author.Tests.{leb-true, le-leb, lt-leb}
use lib.ListN.{length, get_or, drop, drop_of_length-le}
use lib.Dec.{leb, lit<}
use lib.Seq.{drop-cons}
use Rattle.page.specs.Bytes.{Bytes, all}
use Rattle.page.specs.Fields.{digit, value, digits}
use Rattle.page.proofs.TestLaws.{and_left, and_right}

module _ (s : Bytes) (i v : ℕ) where
  pub value_more : i < length s → value v (drop i s) ≡ value (v * 10 + (get_or s i 0 - 48)) (drop (i + 1) s)
  unfolding value
  value_more h = rw (add-one, drop-cons s i 0 h)

  pub value_end : length s ≤ i → value v (drop i s) ≡ v
  unfolding value
  value_end h = rw (drop_of_length-le s h)

pub digit_range : (b : ℕ) → digit b ≡ true → (48 ≤ b) × (b ≤ 57)
unfolding digit
digit_range b e = (leb-true 48 b (and_left (leb 48 b) (leb b 57) e), leb-true b 57 (and_right (leb 48 b) (leb b 57) e))

-- `digits` by its three parts
module _ (ds : Bytes) where
  pub digits_none : length ds ≡ 0 → digits ds ≡ false
  unfolding digits
  digits_none h = rw (lt-leb 1 (length ds) (omega arith))

  pub digits_long : 18 < length ds → digits ds ≡ false
  unfolding digits
  digits_long h = rw (le-leb 1 (length ds) (omega arith), lt-leb (length ds) 18 h)

  pub digits_short : 1 ≤ length ds → length ds ≤ 18 → digits ds ≡ all digit ds
  unfolding digits
  digits_short h k = rw (le-leb 1 (length ds) h, le-leb (length ds) 18 k)

  pub digits_some : digits ds ≡ true → 1 ≤ length ds
  unfolding digits
  digits_some e =
      leb-true 1 (length ds)
      (and_left (leb 1 (length ds)) (leb (length ds) 18) (and_left (leb 1 (length ds) && leb (length ds) 18) (all digit ds) e))

  pub digits_few : digits ds ≡ true → length ds ≤ 18
  unfolding digits
  digits_few e =
      leb-true (length ds) 18
      (and_right (leb 1 (length ds)) (leb (length ds) 18) (and_left (leb 1 (length ds) && leb (length ds) 18) (all digit ds) e))

  pub digits_all : digits ds ≡ true → all digit ds ≡ true
  unfolding digits
  digits_all e = and_right (leb 1 (length ds) && leb (length ds) 18) (all digit ds) e

pub ten_more : (i : ℕ) → 10 ^ (i + 1) ≡ 10 * 10 ^ i
ten_more i =
    let p : 10 ^ suc i ≡ 10 ^ i * 10 = pow-suc 10 i in
    rw add-one (omega arith)

pub ten_up : (i n : ℕ) → i ≤ n → 10 ^ i ≤ 10 ^ n
ten_up i n h = pow-le-pow_right (lit< tt) h
