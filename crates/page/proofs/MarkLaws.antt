-- Marks: neither the word of a mark nor a digit holds a quote, so the bytes between the quotes say as much as the text they stand for.
-- Assumes nothing.
use Rattle.std.specs.Prelude.{Some}
use mathlib.Core.Path.{◌≡◌, refl, ap, sym, ◌∙◌}
use mathlib.Core.Bool.{Bool, true, false, not, ◌&&◌}
use mathlib.Core.List.{[], ◌∷◌}
use Prim.Native.Nat.{ℕ, suc, ◌-◌, ◌<◌, ◌≤◌}
use native.Mathlib.Omega.{arith}
use borrow.Author.Tests.{eq-eqb, ne_eqb, eqb-true, eqb-false, lt-leb, not-true}
use lib.Dec.{eqb, leb}
use lib.ListN.{length, get_or, take, drop, length-take}
use Rattle.page.specs.Bytes.{Bytes, bytes, pick, same, all}
use Rattle.page.specs.Fields.{quote, digit, digits, value, text_of}
use Rattle.page.specs.Form.{doubled}
use Rattle.page.specs.Marks.{mark_number, mark_text, mark_in}
use Rattle.page.proofs.ScanLaws.{same_length}
use Rattle.page.proofs.TestLaws.{false_true, and_left, and_right}
use Rattle.page.proofs.TextLaws.{text_between}
use Rattle.page.specs.declared.Remark.TheVariants as R

pub plain : ℕ → Bool
plain b = not (quote b)

plain_not : (b x : ℕ) → eqb b 34 ≡ true → plain x ≡ true → eqb b x ≡ false
unfolding plain
plain_not b x q p =
    let n = eqb-false x 34 (not-true (eqb x 34) p) in
    let e : b ≡ 34 = eqb-true b 34 q in
    ne_eqb b x (λ (h : b ≡ x). n (sym h ∙ e))

-- a text begins with bytes that hold no quote exactly if its doubled form does
pub doubled_begins : (p t : Bytes) → all plain p ≡ true → same (take (length p) (doubled t)) p ≡ same (take (length p) t) p
unfolding all same doubled
doubled_begins [] t h = refl
doubled_begins (x ∷ p) [] h = refl
doubled_begins (x ∷ p) (b ∷ t) h = by (eqb b 34) refl (doubled_begins p t (and_right (plain x) (all plain p) h))
  where
    by : (q : Bool) → eqb b 34 ≡ q → same (take (length p) (doubled t)) p ≡ same (take (length p) t) p
        → same (take (suc (length p)) (pick q (b ∷ b ∷ doubled t) (b ∷ doubled t))) (x ∷ p) ≡ (eqb b x && same (take (length p) t) p)
    by true q ih = rw (plain_not b x q (and_left (plain x) (all plain p) h))
    by false q ih = rw ih

-- and then goes on as its doubled form does
pub doubled_past : (p t : Bytes) → all plain p ≡ true → same (take (length p) t) p ≡ true → drop (length p) (doubled t) ≡ doubled (drop (length p) t)
unfolding all same doubled
doubled_past [] t h e = refl
doubled_past (x ∷ p) [] h e = false_true e
doubled_past (x ∷ p) (b ∷ t) h e =
    by (eqb b 34) refl (doubled_past p t (and_right (plain x) (all plain p) h) (and_right (eqb b x) (same (take (length p) t) p) e))
  where
    by : (q : Bool) → eqb b 34 ≡ q → drop (length p) (doubled t) ≡ doubled (drop (length p) t)
        → drop (suc (length p)) (pick q (b ∷ b ∷ doubled t) (b ∷ doubled t)) ≡ doubled (drop (length p) t)
    by true q ih =
        false_true
        (sym (plain_not b x q (and_left (plain x) (all plain p) h)) ∙ and_left (eqb b x) (same (take (length p) t) p) e)
    by false q ih = ih

digit_plain : (b : ℕ) → eqb b 34 ≡ true → digit b ≡ false
unfolding digit
digit_plain b q =
    let e : b ≡ 34 = eqb-true b 34 q in
    rw (lt-leb 48 b (omega arith))

pub doubled_digits : (w : Bytes) → all digit (doubled w) ≡ all digit w
unfolding all doubled
doubled_digits [] = refl
doubled_digits (b ∷ w) = by (eqb b 34) refl (doubled_digits w)
  where
    by : (q : Bool) → eqb b 34 ≡ q → all digit (doubled w) ≡ all digit w
        → all digit (pick q (b ∷ b ∷ doubled w) (b ∷ doubled w)) ≡ (digit b && all digit w)
    by true q ih = rw (digit_plain b q)
    by false q ih = rw ih

pub digits_plain : (w : Bytes) → all digit w ≡ true → doubled w ≡ w
unfolding all doubled
digits_plain [] h = refl
digits_plain (b ∷ w) h = by (eqb b 34) refl (digits_plain w (and_right (digit b) (all digit w) h))
  where
    by : (q : Bool) → eqb b 34 ≡ q → doubled w ≡ w → pick q (b ∷ b ∷ doubled w) (b ∷ doubled w) ≡ b ∷ w
    by true q ih = false_true (sym (digit_plain b q) ∙ and_left (digit b) (all digit w) h)
    by false q ih = rw ih

number_doubled : (w : Bytes) → mark_number (doubled w) ≡ mark_number w
unfolding mark_number digits
number_doubled w = by (all digit w) refl
  where
    by : (q : Bool) → all digit w ≡ q → mark_number (doubled w) ≡ mark_number w
    by true q = ap mark_number (digits_plain w q)
    by false q = unreadable (doubled w) (doubled_digits w ∙ q) ∙ sym (unreadable w q)
      where
        and_none : (a b : Bool) → b ≡ false → (a && b) ≡ false
        and_none true b e = e
        and_none false b e = refl

        unreadable : (v : Bytes) → all digit v ≡ false → mark_number v ≡ R.Unreadable
        unreadable v e = rw (and_none (leb 1 (length v) && leb (length v) 18) (all digit v) e)

-- "one closed text beginning `SUGGESTED `", by the bytes between its quotes
pub mark_doubled : (t : Bytes) → mark_text (doubled t) ≡ mark_text t
unfolding mark_text bytes all plain
mark_doubled t = by (same (take 10 t) (bytes "SUGGESTED ")) refl
  where
    by : (q : Bool) → same (take 10 t) (bytes "SUGGESTED ") ≡ q → mark_text (doubled t) ≡ mark_text t
    by true q =
        rw (doubled_begins (bytes "SUGGESTED ") t refl, q, doubled_past (bytes "SUGGESTED ") t refl q) (number_doubled (drop 10 t))
    by false q = rw (doubled_begins (bytes "SUGGESTED ") t refl, q)

-- a mark by the bytes that code looks at: those between the quotes of a field that is a text
pub mark_between : (f t : Bytes) → text_of f ≡ Some t → mark_in (text_of f) ≡ mark_text (take (length f - 1 - 1) (drop 1 f))
mark_between f t e =
    let n : length f - 1 - 1 ≡ length f - 2 = omega arith in
    ap mark_in e ∙ sym (mark_doubled t) ∙ ap mark_text (sym (text_between f t e)) ∙ ap (λ (k : ℕ). mark_text (take k (drop 1 f))) (sym n)

-- `mark-text` and `mark-number` by their tests
module _ (t : Bytes) where
  pub mark_short : length t < 10 → mark_text t ≡ R.Comment
  unfolding mark_text bytes
  mark_short h =
      rw
      (same_length (take 10 t) (bytes "SUGGESTED ")
      (λ (e : length (take 10 t) ≡ 10).
      let z : length (take 10 t) ≤ length t = simp length-take (omega arith) in
      omega arith))

  pub mark_other : same (take 10 t) (bytes "SUGGESTED ") ≡ false → mark_text t ≡ R.Comment
  unfolding mark_text
  mark_other e = rw e

  pub mark_word : same (take 10 t) (bytes "SUGGESTED ") ≡ true → mark_text t ≡ mark_number (drop 10 t)
  unfolding mark_text
  mark_word e = rw e

module _ (w : Bytes) where
  pub mark_no_number : digits w ≡ false → mark_number w ≡ R.Unreadable
  unfolding mark_number
  mark_no_number d = rw d

  pub mark_zero : digits w ≡ true → get_or w 0 0 ≡ 48 → mark_number w ≡ R.Unreadable
  unfolding mark_number
  mark_zero d e = rw (d, eq-eqb (get_or w 0 0) 48 e)

  pub mark_value : digits w ≡ true → (get_or w 0 0 ≡ 48 → ⊥) → mark_number w ≡ R.Mark (value 0 w)
  unfolding mark_number
  mark_value d e = rw (d, ne_eqb (get_or w 0 0) 48 e)
