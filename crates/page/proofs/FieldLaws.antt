-- The laws of fields, from the left and at a place. Assumes nothing.
use mathlib.Core.Path.{◌≡◌, refl, ap, sym, ◌∙◌}
use mathlib.Core.Bool.{Bool, true, false, false≢true}
use mathlib.Core.List.{List, [], ◌∷◌, map}
use Prim.Native.Nat.{ℕ, zero, suc, ◌+◌, ◌-◌, ◌<◌, ◌≤◌}
use native.Mathlib.Numerals.{add-one}
use native.Mathlib.Nat.{add-zero}
use native.Mathlib.Omega.{arith}
use borrow.Author.Tests.{le-leb, lt-leb, lt-ltb, le-ltb, eqb-true, leb-true, leb-false, ltb-true, ltb-false}
use lib.Dec.{ltb, leb}
use lib.ListN.{length, take, drop, get_or, drop_of_length-le, length-drop, get_or-eq_default}
use lib.Seq.{drop-cons, drop-drop, get_or-drop, length-take-le}
use Rattle.page.specs.declared.Span.{Span}
use Rattle.page.specs.Bytes.{Bytes, pick, part, moved, trim_of, trim}
use Rattle.page.specs.Fields.{parts_here, inside_after, field_size, into, split, fields}
use Rattle.page.specs.Places.{field_place, span_from, field_span}
use Rattle.page.proofs.ScanLaws.{trim_within, trim_moved}

-- how long the field at a place is: it ends there, it goes on, or the bytes have ended
module _ (inside : Bool) (w : Bytes) (i : ℕ) where
  pub field_hit : i < length w → parts_here inside (get_or w i 0) ≡ true → field_size inside (drop i w) ≡ 0
  unfolding field_size
  field_hit h e = rw (drop-cons w i 0 h, e)

  pub field_more : (q : Bool) → i < length w → parts_here inside (get_or w i 0) ≡ false → q ≡ inside_after inside (get_or w i 0)
      → field_size inside (drop i w) ≡ suc (field_size q (drop (i + 1) w))
  unfolding field_size
  field_more q h e t = rw (add-one, drop-cons w i 0 h, e, t)

  pub field_end : length w ≤ i → field_size inside (drop i w) ≡ 0
  unfolding field_size
  field_end h = rw (drop_of_length-le w h)

pub field_le : (inside : Bool) (w : Bytes) → field_size inside w ≤ length w
unfolding field_size
field_le inside [] = omega arith
field_le inside (b ∷ w) = by (parts_here inside b) (field_le (inside_after inside b) w)
  where
    by : (x : Bool) {n : ℕ} → n ≤ length w → pick x 0 (suc n) ≤ suc (length w)
    by true h = omega arith
    by false h = omega arith

-- the fields of what is left at a place: none, past the end
unfoldable pub from : Bytes → ℕ → List Bytes
from w at = pick (leb at (length w)) (fields (drop at w)) []

abbrev then : Bytes → ℕ → List Bytes
then w k = pick (ltb k (length w)) (split false (drop (suc k) w)) []

parts_plain : (inside : Bool) (b : ℕ) → parts_here inside b ≡ true → inside_after inside b ≡ false
parts_plain true b e = absurd (false≢true e)
parts_plain false b e = rw (eqb-true b 59 e)

ltb_suc : (a b : ℕ) → ltb (suc a) (suc b) ≡ ltb a b
ltb_suc a b = go (ltb a b) refl
  where
    go : (x : Bool) → ltb a b ≡ x → ltb (suc a) (suc b) ≡ ltb a b
    go true e = let h : a < b = ltb-true a b e in rw (e, lt-ltb (suc a) (suc b) (omega arith))
    go false e = let h : b ≤ a = ltb-false a b e in rw (e, le-ltb (suc a) (suc b) (omega arith))

-- the first field, and the others
split_cut : (inside : Bool) (w : Bytes) → split inside w ≡ take (field_size inside w) w ∷ then w (field_size inside w)
unfolding split field_size
split_cut inside [] = refl
split_cut inside (b ∷ w) = go (parts_here inside b) refl (split_cut (inside_after inside b) w)
  where
    n : ℕ
    n = field_size (inside_after inside b) w

    go : (x : Bool) → parts_here inside b ≡ x → split (inside_after inside b) w ≡ take n w ∷ then w n
        → into (parts_here inside b) b (split (inside_after inside b) w) ≡ take (pick (parts_here inside b) 0 (suc n)) (b ∷ w) ∷ then (b ∷ w) (pick (parts_here inside b) 0 (suc n))
    go true e ih = rw (e, parts_plain inside b e, lt-ltb 0 (suc (length w)) (omega arith))
    go false e ih = rw (e, ih, ltb_suc n (length w))

-- a field from the left, that ends at e
module _ (w : Bytes) (at e : ℕ) (h : at ≤ length w) (q : e ≡ at + field_size false (drop at w)) where
  pub end_in : (at ≤ e) × (e ≤ length w)
  end_in = omega (arith, field_le false (drop at w), length-drop at w)

  after : then (drop at w) (field_size false (drop at w)) ≡ pick (leb (e + 1) (length w)) (split false (drop (e + 1) w)) []
  after = go (leb (e + 1) (length w)) refl
    where
      k : ℕ
      k = field_size false (drop at w)

      go : (b : Bool) → leb (e + 1) (length w) ≡ b → then (drop at w) k ≡ pick (leb (e + 1) (length w)) (split false (drop (e + 1) w)) []
      go true x =
          let l : e + 1 ≤ length w = leb-true (e + 1) (length w) x in
          let m : k < length (drop at w) = omega (arith, length-drop at w) in
          let n : at + suc k ≡ e + 1 = omega arith in
          rw (x, lt-ltb k (length (drop at w)) m, drop-drop (suc k) at w, n)
      go false x =
          let l : length w < e + 1 = leb-false (e + 1) (length w) x in
          let m : length (drop at w) ≤ k = omega (arith, length-drop at w) in
          rw (x, le-ltb k (length (drop at w)) m)

  pub from_more : from w at ≡ trim (take (e - at) (drop at w)) ∷ from w (e + 1)
  unfolding from fields
  from_more =
      let k : field_size false (drop at w) ≡ e - at = omega arith in
      rw (le-leb at (length w) h, split_cut false (drop at w), after, k) (by (leb (e + 1) (length w)))
    where
      by : (b : Bool) → ◌≡◌ {A = List Bytes} (trim (take (e - at) (drop at w)) ∷ map trim (pick b (split false (drop (e + 1) w)) [])) (trim (take (e - at) (drop at w)) ∷ pick b (map trim (split false (drop (e + 1) w))) [])
      by true = refl
      by false = refl

pub from_end : (w : Bytes) (at : ℕ) → length w < at → from w at ≡ []
unfolding from
from_end w at h = rw (lt-leb at (length w) h)

pub from_all : (w : Bytes) → from w 0 ≡ fields w
unfolding from
from_all w = rw (le-leb 0 (length w) (omega arith))

-- a field that is left begins within the bytes
pub from_in : (w : Bytes) (at : ℕ) → 0 < length (from w at) → at ≤ length w
from_in w at h = go (leb at (length w)) refl
  where
    go : (b : Bool) → leb at (length w) ≡ b → at ≤ length w
    go true q = leb-true at (length w) q
    go false q =
        let l : length w < at = leb-false at (length w) q in
        absurd (omega (arith, ap length (from_end w at l)))

-- an element at the head of what is left
pub next_left : (fs : List Bytes) (i : ℕ) (f : Bytes) (r : List Bytes) → drop i fs ≡ f ∷ r → drop (i + 1) fs ≡ r
next_left fs i f r e = sym (drop-drop 1 i fs) ∙ ap (drop 1) e

pub head_left : (fs : List Bytes) (k : ℕ) (f : Bytes) (r : List Bytes) → drop k fs ≡ f ∷ r → get_or fs k [] ≡ f
head_left fs k f r e = ap (λ (n : ℕ). get_or fs n []) (sym (add-zero k)) ∙ sym (get_or-drop k fs 0 []) ∙ ap (λ (x : List Bytes). get_or x 0 []) e

pub none_left : (fs : List Bytes) (i k : ℕ) → i ≤ k → drop i fs ≡ [] → get_or fs k [] ≡ []
none_left fs i k h e =
    let n : length fs - i ≡ 0 = sym (length-drop i fs) ∙ ap length e in
    get_or-eq_default fs [] (omega arith)

pub left_in : (w : Bytes) (i at : ℕ) → i < length (fields w) → drop i (fields w) ≡ from w at → at ≤ length w
left_in w i at h e = from_in w at (omega (arith, ap length e, length-drop i (fields w)))

-- where a field begins, in a loop that has passed i of k fields

pub place_more : (w : Bytes) (k i at e : ℕ) → i < k → e ≡ at + field_size false (drop at w) → field_place (k - i) at w ≡ field_place (k - (i + 1)) (e + 1) w
unfolding field_place
place_more w k i at e h q =
    let n : k - i ≡ suc (k - (i + 1)) = omega arith in
    rw (n, q)

pub place_here : (w : Bytes) (k i at : ℕ) → k ≤ i → field_place (k - i) at w ≡ at
unfolding field_place
place_here w k i at h = let n : k - i ≡ 0 = omega arith in rw n

-- the fields that are left where field k begins
pub place_left : (w : Bytes) (k at : ℕ) → from w (field_place k at w) ≡ drop k (from w at)
unfolding field_place
place_left w zero at = refl
place_left w (suc k) at = by (leb at (length w)) refl (place_left w k (at + field_size false (drop at w) + 1))
  where
    n : ℕ
    n = field_size false (drop at w)

    by : (b : Bool) → leb at (length w) ≡ b → from w (field_place k (at + n + 1) w) ≡ drop k (from w (at + n + 1))
        → from w (field_place k (at + n + 1) w) ≡ drop (suc k) (from w at)
    by true q ih = ih ∙ sym (ap (drop (suc k)) (from_more w at (at + n) (leb-true at (length w) q) refl))
    by false q ih =
        let l = leb-false at (length w) q in
        ih ∙ ap (drop k) (from_end w (at + n + 1) (omega arith)) ∙ drop_of_length-le [] {i = k} (omega arith) ∙ sym (ap (drop (suc k)) (from_end w at l))

-- the span of the field at a place, whose end is e
module _ (w : Bytes) (at e : ℕ) (q : e ≡ at + field_size false (drop at w)) (h : (at ≤ e) × (e ≤ length w)) (r : Span)
    (x : r ≡ moved at (trim_of (take (e - at) (drop at w)))) where
  pub span_here : (k : ℕ) → field_place k 0 w ≡ at → r ≡ field_span w k
  unfolding field_span span_from
  span_here k p =
      let n : e - at ≡ field_size false (drop at w) = omega arith in
      x ∙ rw (n, p)

  pub span_in : (r.from ≤ r.to) × (r.to ≤ length w)
  span_in =
      let y = trim_within (take (e - at) (drop at w)) in
      let n : length (take (e - at) (drop at w)) ≡ e - at = length-take-le (e - at) (drop at w) (omega (arith, length-drop at w)) in
      rw x (omega arith)

  pub span_part : part r w ≡ trim (take (e - at) (drop at w))
  span_part = rw x (sym (trim_moved at (e - at) w (omega arith)))

-- a field's span lies within the bytes, and what stands in it is the field
module _ (w : Bytes) (k : ℕ) (h : k < length (fields w)) where
  abbrev at : ℕ
  at = field_place k 0 w

  abbrev e : ℕ
  e = at + field_size false (drop at w)

  left : from w at ≡ drop k (fields w)
  left = place_left w k 0 ∙ ap (drop k) (from_all w)

  begins : at ≤ length w
  begins = left_in w k at h (sym left)

  it : field_span w k ≡ moved at (trim_of (take (e - at) (drop at w)))
  it = sym (span_here w at e refl (end_in w at e begins refl) (moved at (trim_of (take (e - at) (drop at w)))) refl k refl)

  pub field_span_in : ((field_span w k).from ≤ (field_span w k).to) × ((field_span w k).to ≤ length w)
  field_span_in = span_in w at e refl (end_in w at e begins refl) (field_span w k) it

  pub field_span_part : part (field_span w k) w ≡ get_or (fields w) k []
  field_span_part =
      span_part w at e refl (end_in w at e begins refl) (field_span w k) it
      ∙ sym (head_left (fields w) k _ _ (sym left ∙ from_more w at e begins refl))
