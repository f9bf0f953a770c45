-- Laws of texts: their quotes doubled and undone, and where they stand. Assumes nothing.
use mathlib.Core.Path.{◌≡◌, refl, sym, ◌∙◌}
use mathlib.Core.Bool.{Bool, true, false}
use mathlib.Core.List.{[], ◌∷◌, ◌++◌}
use Prim.Native.Nat.{ℕ, ◌+◌, ◌-◌, ◌<◌, ◌≤◌, min}
use native.Mathlib.Numerals.{add-one}
use native.Mathlib.Omega.{arith}
use borrow.Author.Tests.{eq-eqb, ne_eqb, ltb-true, ltb-false}
use lib.Dec.{ltb}
use lib.Seq.{drop-cons, take_all}
use lib.ListN.{length, get_or, take, drop, length-drop, drop_of_length-le}
use Rattle.page.specs.Bytes.{Bytes, pick, part}
use Rattle.page.specs.Fields.{quote}
use Rattle.page.specs.Form.{doubled}
use Rattle.page.specs.declared.Span.{Span}
use Rattle.doubling.specs.Raw.{undoubled}

-- a text in quotes

pub doubled_quote : (b : ℕ) → b ≡ 34 → (b ∷ []) ++ (b ∷ []) ≡ doubled (b ∷ [])
unfolding doubled
doubled_quote b e = simp (eq-eqb b 34 e)

pub doubled_other : (b : ℕ) → (b ≡ 34 → ⊥) → b ∷ [] ≡ doubled (b ∷ [])
unfolding doubled
doubled_other b e = simp (ne_eqb b 34 e)

pub doubled_none : doubled [] ≡ []
unfolding doubled
doubled_none = refl

pub doubled_cons : (b : ℕ) (t : Bytes) → doubled (b ∷ t) ≡ doubled (b ∷ []) ++ doubled t
unfolding doubled
doubled_cons b t = by (quote b)
  where
    by : (q : Bool) → pick q (b ∷ b ∷ doubled t) (b ∷ doubled t) ≡ pick q (b ∷ b ∷ []) (b ∷ []) ++ doubled t
    by true = refl
    by false = refl

-- a part of a file, its ends moved into the file

no_more : (n k : ℕ) (s : Bytes) → length s ≤ n → take (length s - k) (drop k s) ≡ take (n - k) (drop k s)
no_more n k s h =
    let a : length (drop k s) ≤ length s - k = simp length-drop (omega arith) in
    let b : length (drop k s) ≤ n - k = simp length-drop (omega arith) in
    take_all (length s - k) (drop k s) a ∙ sym (take_all (n - k) (drop k s) b)

none_between : (a b k : ℕ) (s : Bytes) → a ≤ b → take (a - b) (drop k s) ≡ []
none_between a b k s h = let e : a - b ≡ 0 = omega arith in rw e

-- the end within the file, the beginning before it or not
module _ (s : Bytes) (place : Span) (to from : ℕ) (t : to ≡ min place.to (length s)) (f : from ≡ min place.from to) where
  part_to : take (to - place.from) (drop place.from s) ≡ part place s
  part_to = by (ltb to (length s)) refl
    where
      by : (q : Bool) → ltb to (length s) ≡ q → take (to - place.from) (drop place.from s) ≡ part place s
      by true e = let n : to ≡ place.to = omega (arith, ltb-true to (length s) e) in rw n
      by false e =
          let n : to ≡ length s = omega (arith, ltb-false to (length s) e) in
          rw n (no_more place.to place.from s (omega arith))

  part_from : take (to - from) (drop from s) ≡ take (to - place.from) (drop place.from s)
  part_from = by (ltb from to) refl
    where
      by : (q : Bool) → ltb from to ≡ q → take (to - from) (drop from s) ≡ take (to - place.from) (drop place.from s)
      by true e = let n : from ≡ place.from = omega (arith, ltb-true from to e) in rw n
      by false e =
          let n = ltb-false from to e in
          none_between to from from s n ∙ sym (none_between to place.from place.from s (omega arith))

  pub part_same : take (to - from) (drop from s) ≡ part place s
  part_same = part_from ∙ part_to

-- a text's own bytes

module _ (met : Bool) (s : Bytes) (i : ℕ) (h : i < length s) where
  pub undoubled_second : met ≡ true → undoubled met (drop i s) ≡ undoubled false (drop (i + 1) s)
  unfolding undoubled
  undoubled_second e = rw (e, add-one, drop-cons s i 0 h)

  pub undoubled_first : met ≡ false → undoubled met (drop i s) ≡ (get_or s i 0 ∷ []) ++ undoubled (quote (get_or s i 0)) (drop (i + 1) s)
  unfolding undoubled
  undoubled_first e = rw (e, add-one, drop-cons s i 0 h)

pub undoubled_end : (met : Bool) (s : Bytes) (i : ℕ) → length s ≤ i → undoubled met (drop i s) ≡ []
unfolding undoubled
undoubled_end met s i h = rw (drop_of_length-le s h)

pub undoubled_length : (met : Bool) (s : Bytes) → length (undoubled met s) ≤ length s
unfolding undoubled
undoubled_length met [] = omega arith
undoubled_length true (b ∷ s) = omega (arith, undoubled_length false s)
undoubled_length false (b ∷ s) = omega (arith, undoubled_length (quote b) s)

-- it undoes the doubling
pub undoubled_doubled : (t : Bytes) → undoubled false (doubled t) ≡ t
unfolding undoubled doubled
undoubled_doubled [] = refl
undoubled_doubled (b ∷ t) = by (quote b) refl (undoubled_doubled t)
  where
    by : (q : Bool) → quote b ≡ q → undoubled false (doubled t) ≡ t
        → undoubled false (pick q (b ∷ b ∷ doubled t) (b ∷ doubled t)) ≡ b ∷ t
    by true e h = simp (e, h)
    by false e h = simp (e, h)
