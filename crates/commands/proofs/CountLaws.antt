-- How many fields stand in a line, byte by byte. Assumes nothing.
use Rattle.std.proofs.Common.{◌≡◌, ◌+◌, ◌<◌, ◌≤◌, ℕ, suc, Bool, true, false, List, [], ◌∷◌, get_or, sym, length, drop, arith}
use native.Mathlib.Numerals.{add-one}
use lib.Seq.{drop-cons}
use lib.ListN.{drop_of_length-le, length-map}
use Rattle.std.specs.Int.{from_bool}
use Rattle.page.specs.Bytes.{Bytes, trim}
use Rattle.page.specs.Fields.{parts_here, inside_after, into, split, fields}

-- a field is always there
split_some : (inside : Bool) (w : Bytes) → 0 < length (split inside w)
unfolding split
split_some inside [] = omega arith
split_some inside (b ∷ w) = go (parts_here inside b) (split (inside_after inside b) w)
  where
    go : (x : Bool) (fs : List Bytes) → 0 < length (into x b fs)
    go true fs = omega arith
    go false [] = omega arith
    go false (f ∷ fs) = omega arith

into_counted : (x : Bool) (b : ℕ) (fs : List Bytes) → 0 < length fs → length (into x b fs) ≡ from_bool x + length fs
into_counted true b fs h = omega arith
into_counted false b [] h = absurd (omega arith)
into_counted false b (f ∷ fs) h = omega arith

pub at_most_one : (x : Bool) → from_bool x ≤ 1
at_most_one true = omega arith
at_most_one false = omega arith

pub counted_all : (w : Bytes) → length (split false w) ≡ length (fields w)
unfolding fields
counted_all w = sym (length-map (split false w) trim)

-- one more where a field ends
pub counted_more : (inside : Bool) (w : Bytes) (i : ℕ) → i < length w
    → length (split inside (drop i w)) ≡ from_bool (parts_here inside (get_or w i 0)) + length (split (inside_after inside (get_or w i 0)) (drop (i + 1) w))
unfolding split
counted_more inside w i h =
    rw (drop-cons w i 0 h, add-one i)
    (into_counted (parts_here inside (get_or w i 0)) (get_or w i 0) _ (split_some (inside_after inside (get_or w i 0)) (drop (suc i) w)))

-- and the last
pub counted_end : (inside : Bool) (w : Bytes) (i : ℕ) → length w ≤ i → length (split inside (drop i w)) ≡ 1
unfolding split
counted_end inside w i h = rw (drop_of_length-le w h)
