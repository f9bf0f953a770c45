-- The own bytes of a text of a record are what stands in its span, each doubled quote counted once. Assumes nothing.
use Rattle.std.specs.Prelude.{None, Option, Some}
use mathlib.Core.Path.{◌≡◌, refl, ap, sym, ◌∙◌}
use mathlib.Core.Bool.{Bool, true, false, true≢false}
use mathlib.Core.List.{[]}
use Prim.Native.Nat.{ℕ, ◌+◌, ◌-◌, ◌≤◌}
use native.Mathlib.Omega.{arith}
use borrow.Author.Tests.{le-leb}
use lib.Dec.{leb}
use lib.ListN.{length, take, drop}
use Rattle.page.specs.Bytes.{Bytes, part, moved, trim_of, trim}
use Rattle.page.specs.Fields.{field_size}
use Rattle.page.specs.Section.{Wording, own_of, words_of, record_text, text_field, field_of}
use Rattle.page.specs.Records.{own_bytes}
use Rattle.page.specs.Places.{span_from}
use Rattle.page.specs.Reading.{later_field}
use Rattle.page.specs.declared.Span.{Span}
use Rattle.page.specs.declared.Column.{Column}
use Rattle.page.specs.declared.Field.{Field}
use Rattle.page.specs.declared.Field.TheVariants as F
use Rattle.page.proofs.ScanLaws.{part_length, part_moved}
use Rattle.page.proofs.TextLaws.{words_there}
use Rattle.page.proofs.FieldLaws.{span_in, span_part, end_in}
use Rattle.doubling.specs.Raw.{undoubled}
use Rattle.doubling.proofs.TextLaws.{undoubled_doubled, undoubled_length}
use Rattle.digits.specs.Runs.{field_from}
use Rattle.keys.specs.Numbers.{packed_from, packed}

-- a text of a field, by its span
record Spanned (f : Bytes) (x : Wording) : Type 0 where
  ordered : x.span.from ≤ x.span.to
  within : x.span.to ≤ length f
  own : undoubled false (part x.span f) ≡ x.own

spanned : (f : Bytes) (x : Wording) → words_of f ≡ Some x → Spanned f x
spanned f x e =
    let a = words_there f x e in
    record {
      ordered = omega (arith, a.begins, a.ends);
      within = omega (arith, a.within);
      own = ap (undoubled false) a.stands ∙ undoubled_doubled x.own;
    }

-- it has no more bytes than the field
short : (f : Bytes) (x : Wording) → words_of f ≡ Some x → length x.own ≤ length f
short f x e =
    let z = spanned f x e in
    let n = part_length x.span.from x.span.to f z.within in
    omega (arith, ap length z.own, undoubled_length false (part x.span f))

abbrev counted : Field → Bool
counted (F.Text sp) = false
counted (F.Number n) = true
counted F.Missing = true
counted (F.Refused v) = false

-- the text of the field that begins at a place of w, in a column that takes a text of any size
module _ (w : Bytes) (at : ℕ) (h : at ≤ length w) (c : Column) (x : c.text ≡ true) (g : length w ≤ c.hi) where
  abbrev f : Bytes
  f = field_from w at

  abbrev k : ℕ
  k = (span_from w at).from

  there : ((span_from w at).from ≤ (span_from w at).to) × ((span_from w at).to ≤ length w) × (part (span_from w at) w ≡ field_from w at)
  unfolding span_from
  there =
      let e = at + field_size false (drop at w) in
      let i = end_in w at e h refl in
      let n : e - at ≡ field_size false (drop at w) = omega arith in
      let y : span_from w at ≡ moved at (trim_of (take (e - at) (drop at w))) = rw n in
      let b = span_in w at e refl i (span_from w at) y in
      (b.0, b.1, span_part w at e refl i (span_from w at) y ∙ ap (λ (m : ℕ). trim (take m (drop at w))) n)

  room : length f ≡ (span_from w at).to - (span_from w at).from
  room = ap length (sym there.2) ∙ part_length (span_from w at).from (span_from w at).to w there.1

  read_is : (r : Field) → r ≡ later_field k (field_of c f) → r ≡ later_field k (text_field c.hi (words_of f))
  unfolding field_of
  read_is r q = q ∙ rw x

  small : (v : Wording) → words_of f ≡ Some v → leb (length v.own) c.hi ≡ true
  small v y = le-leb (length v.own) c.hi (omega (arith, short f v y, room, there.1))

  pub text_told : (r : Field) → r ≡ later_field k (field_of c f) → (sp : Span) → r ≡ F.Text sp
      → (sp.from ≤ sp.to) × (sp.to ≤ length w) × (undoubled false (part sp w) ≡ own_bytes (record_text f))
  unfolding record_text text_field
  text_told r q sp e = by (words_of f) refl (sym e ∙ read_is r q)
    where
      by : (o : Option Wording) → words_of f ≡ o → F.Text sp ≡ later_field k (text_field c.hi (words_of f))
          → (sp.from ≤ sp.to) × (sp.to ≤ length w) × (undoubled false (part sp w) ≡ own_bytes (own_of (words_of f)))
      by None y z = absurd (let u = rw y at z in let n : ◌≡◌ {A = ℕ} 0 1 = cc in omega arith)
      by (Some v) y z =
          let u = rw (y, small v y) at z in
          let m : sp ≡ moved k v.span = cc in
          let a = spanned f v y in
          let b = there in
          let n : v.span.to ≤ (span_from w at).to - (span_from w at).from = omega (arith, a.within, room) in
          let p = part_moved v.span k ((span_from w at).to - (span_from w at).from) w a.ordered n in
          rw (m, y) (
            omega (arith, a.ordered),
            omega (arith, b.0, b.1),
            ap (undoubled false) (sym p ∙ ap (part v.span) b.2) ∙ a.own,
          )

  text_refused : (r : Field) → r ≡ later_field k (field_of c f) → (n : ℕ) → r ≡ F.Refused n → own_bytes (record_text f) ≡ []
  unfolding record_text text_field
  text_refused r q n e = by (words_of f) refl (sym e ∙ read_is r q)
    where
      by : (o : Option Wording) → words_of f ≡ o → F.Refused n ≡ later_field k (text_field c.hi (words_of f)) → own_bytes (own_of (words_of f)) ≡ []
      by None y z = rw y
      by (Some v) y z = absurd (let u = rw (y, small v y) at z in let m : ◌≡◌ {A = ℕ} 0 1 = cc in omega arith)

  -- neither a number nor a missing one
  text_only : (r : Field) → r ≡ later_field k (field_of c f) → counted r ≡ false
  unfolding text_field
  text_only r q = by (words_of f) refl (read_is r q)
    where
      by : (o : Option Wording) → words_of f ≡ o → r ≡ later_field k (text_field c.hi (words_of f)) → counted r ≡ false
      by None y z = rw (z, y)
      by (Some v) y z = rw (z, y, small v y)

  pub text_else : (r : Field) → r ≡ later_field k (field_of c f) → ((sp : Span) → r ≡ F.Text sp → ⊥) → packed (own_bytes (record_text f)) ≡ 0
  unfolding packed packed_from
  text_else (F.Text sp) q n = absurd (n sp refl)
  text_else (F.Number m) q n = absurd (true≢false (text_only (F.Number m) q))
  text_else F.Missing q n = absurd (true≢false (text_only F.Missing q))
  text_else (F.Refused m) q n = rw (text_refused (F.Refused m) q m refl)
