-- A text field by its size and its place, a number field by its number.
-- Assumes nothing.
use Rattle.std.specs.Prelude.{None, Some, Option}
use mathlib.Core.Path.{◌≡◌, refl, ap, sym, ◌∙◌}
use mathlib.Core.Bool.{Bool, true, false}
use Prim.Native.Nat.{ℕ, ◌+◌, ◌-◌, ◌<◌, ◌≤◌}
use native.Mathlib.Omega.{arith}
use borrow.Author.Tests.{le-leb, lt-leb}
use lib.ListN.{length, take, drop}
use lib.Seq.{take-take, length-take-le}
use Rattle.page.specs.Bytes.{Bytes, pick, keep, part, moved, space, trim_of, trim, unpadded}
use Rattle.page.specs.Fields.{field_size, text_of, number_of}
use Rattle.page.specs.Section.{own_span, worded, words_of, text_field, left_out, field_of, ReadAlike}
use Rattle.page.specs.Places.{span_from}
use Rattle.page.specs.Reading.{later_field}
use Rattle.page.specs.declared.Column.{Column}
use Rattle.page.specs.declared.Span.{Span}
use Rattle.page.specs.declared.Field.{Field}
use Rattle.page.specs.declared.Field.TheVariants as F
use Rattle.page.proofs.ScanLaws.{keep_le, part_length}
use Rattle.page.proofs.NumberFieldLaws.{NumberRead, as_number, as_refusal, number_read_so}
use Rattle.page.proofs.TextLaws.{text_long, text_padding}
use Rattle.page.proofs.FieldLaws.{span_part}
use Rattle.digits.specs.Runs.{field_from}
use Rattle.quoted.specs.Sizes.{size_of}
use Rattle.quoted.proofs.SizeLaws.{size_some}

before_close : (f : Bytes) → keep space (take (length f - 1) f) ≤ length f - 1
before_close f = omega (arith, keep_le space (take (length f - 1) f), length-take-le (length f - 1) f (omega arith))

-- a text's own size is what is left of the counted one without the spaces before the closing quote
module _ (size : ℕ) (f : Bytes) where
  module _ (n : ℕ) (e : size_of (text_of f) ≡ Some n) where
    abbrev kept : ℕ
    kept = keep space (take (length f - 1) f)

    abbrev own : ℕ
    own = n - (length f - 1 - kept)

    pub text_over : size < own → text_field size (words_of f) ≡ F.Refused 13
    unfolding size_of words_of text_field
    text_over h = by (text_of f) refl e
      where
        by : (p : Option Bytes) → text_of f ≡ p → size_of p ≡ Some n → text_field size (worded f p) ≡ F.Refused 13
        by None q z = absurd (let y : ◌≡◌ {A = ℕ} 0 1 = cc in omega arith)
        by (Some t) q z =
            let x : length t ≡ n = cc in
            rw (lt-leb (length (unpadded t)) size (omega (arith, text_padding f t q)))

    pub text_fits : own ≤ size → text_field size (words_of f) ≡ F.Text (own_span f)
    unfolding size_of words_of text_field
    text_fits h = by (text_of f) refl e
      where
        by : (p : Option Bytes) → text_of f ≡ p → size_of p ≡ Some n → text_field size (worded f p) ≡ F.Text (own_span f)
        by None q z = absurd (let y : ◌≡◌ {A = ℕ} 0 1 = cc in omega arith)
        by (Some t) q z =
            let x : length t ≡ n = cc in
            rw (le-leb (length (unpadded t)) size (omega (arith, text_padding f t q, before_close f)))

    -- there are no more such spaces than bytes
    pub text_spaces : length f - 1 ≤ n + kept
    unfolding size_of
    text_spaces = by (text_of f) refl e
      where
        by : (p : Option Bytes) → text_of f ≡ p → size_of p ≡ Some n → length f - 1 ≤ n + kept
        by None q z = absurd (let y : ◌≡◌ {A = ℕ} 0 1 = cc in omega arith)
        by (Some t) q z =
            let x : length t ≡ n = cc in
            omega (arith, text_padding f t q)

  pub text_not : size_of (text_of f) ≡ None → text_field size (words_of f) ≡ F.Refused 11
  unfolding size_of words_of text_field
  text_not e = by (text_of f) e
    where
      by : (p : Option Bytes) → size_of p ≡ None → text_field size (worded f p) ≡ F.Refused 11
      by None q = refl
      by (Some t) q = absurd (let z : ◌≡◌ {A = ℕ} 0 1 = cc in omega arith)

left_is : (from to k l : ℕ) → l ≡ to - from → from + 2 ≤ to → k ≤ l - 1 → to - 1 - (from + k) ≡ l - 1 - k
left_is from to k l e h j = omega arith

-- a text that is a part of w has room for its quotes, and stands between them
module _ (w : Bytes) (from to : ℕ) (h : (from ≤ to) × (to ≤ length w)) (n : ℕ) (e : size_of (text_of (take (to - from) (drop from w))) ≡ Some n) where
  abbrev f : Bytes
  f = take (to - from) (drop from w)

  pub text_room : from + 2 ≤ to
  text_room = omega (arith, text_long f _ (size_some (text_of f) n e), part_length from to w h.1)

  -- k bytes are left before the closing quote without the spaces
  module _ (k : ℕ) (q : k ≡ keep space (take (to - 1 - from) (drop from w))) where
    kept_is : k ≡ keep space (take (length f - 1) f)
    kept_is =
        let l : length f - 1 ≡ to - 1 - from = omega (arith, part_length from to w h.1) in
        q ∙ ap (keep space) (rw l (sym (take-take (to - 1 - from) (to - from) (drop from w) (omega arith))))

    pub text_left : (from + k ≤ to - 1) × (to - 1 - (from + k) ≤ n)
    text_left =
        let a = before_close f in
        let b = text_spaces 0 f n e in
        (omega (arith, kept_is, text_room, part_length from to w h.1), omega (arith, kept_is, text_room, part_length from to w h.1))

    own_is : n - (to - 1 - (from + k)) ≡ n - (length f - 1 - keep space (take (length f - 1) f))
    own_is =
        ap (λ (m : ℕ). n - m)
        (left_is from to k (length f) (part_length from to w h.1) text_room (omega (arith, kept_is, before_close f)) ∙ ap (λ (m : ℕ). length f - 1 - m) kept_is)

    pub text_beyond : (size : ℕ) → size < n - (to - 1 - (from + k)) → F.Refused 13 ≡ later_field from (text_field size (words_of f))
    text_beyond size l = ap (later_field from) (sym (text_over size f n e (omega (arith, own_is))))

    pub text_place : (size : ℕ) → n - (to - 1 - (from + k)) ≤ size → F.Text (record { from = from + 1; to = from + k }) ≡ later_field from (text_field size (words_of f))
    text_place size l = rw (text_fits size f n e (omega (arith, own_is)), kept_is)

-- the part is the field that begins at a place
pub text_there : (w : Bytes) (at e : ℕ) → e ≡ at + field_size false (drop at w) → (at ≤ e) × (e ≤ length w)
    → (r : Span) → r ≡ moved at (trim_of (take (e - at) (drop at w))) → (size : ℕ)
    → later_field r.from (text_field size (words_of (part r w))) ≡ later_field (span_from w at).from (text_field size (words_of (field_from w at)))
unfolding span_from
text_there w at e q h r x size =
    let n : e - at ≡ field_size false (drop at w) = omega arith in
    let p : part r w ≡ field_from w at = span_part w at e q h r x ∙ ap (λ (k : ℕ). trim (take k (drop at w))) n in
    let y : r ≡ moved at (trim_of (take (field_size false (drop at w)) (drop at w))) = rw n at x in
    ap (λ (k : ℕ). later_field k (text_field size (words_of (part r w)))) (ap (λ (z : Span). z.from) y)
    ∙ ap (λ (z : Bytes). later_field (at + (trim_of (take (field_size false (drop at w)) (drop at w))).from) (text_field size (words_of z))) p

-- the same of a field that was met in one walk
pub text_walked : (w : Bytes) (at from e size : ℕ) → from ≡ (span_from w at).from → field_from w at ≡ take (e - from) (drop from w)
    → later_field from (text_field size (words_of (take (e - from) (drop from w)))) ≡ later_field (span_from w at).from (text_field size (words_of (field_from w at)))
text_walked w at from e size q p =
    ap (λ (k : ℕ). later_field k (text_field size (words_of (take (e - from) (drop from w))))) q
    ∙ ap (λ (z : Bytes). later_field (span_from w at).from (text_field size (words_of z))) (sym p)

-- the reading of a field asks its column for its kind, its bounds and whether its number may be missing
pub column_asked : (c d : Column) → ReadAlike d c → (w : Bytes) → field_of d w ≡ field_of c w
unfolding field_of
column_asked c d e w = rw (e.text, e.day, e.lo, e.hi, e.optional)

-- a number column's field is the same wherever it stands
module _ (c : Column) (f : Bytes) (x : c.text ≡ false) where
  pub number_there : (k : ℕ) → later_field k (field_of c f) ≡ field_of c f
  unfolding field_of
  number_there k = rw x (by (left_out c.optional f) (number_read_so c.day c.lo c.hi (number_of f)))
    where
      by : (b : Bool) {r : Field} → NumberRead (number_of f) r → later_field k (pick b F.Missing r) ≡ pick b F.Missing r
      by true r = refl
      by false (as_number n e) = refl
      by false (as_refusal v n) = refl

-- the part is the field that begins at a place
pub number_part : (w : Bytes) (at e : ℕ) → e ≡ at + field_size false (drop at w) → trim (take (e - at) (drop at w)) ≡ field_from w at
number_part w at e q =
    let n : e - at ≡ field_size false (drop at w) = omega arith in
    ap (λ (k : ℕ). trim (take k (drop at w))) n
