-- A field that passed its column's rules is read as a text, a number or a missing number, and what is read is what is written. Assumes nothing.
use Rattle.std.specs.Prelude.{None, Option, Some}
use mathlib.Core.Path.{◌≡◌, refl, ap, sym, ◌∙◌}
use mathlib.Core.Bool.{Bool, true, false}
use mathlib.Core.List.{[], ◌∷◌, ◌++◌}
use Prim.Native.Nat.{ℕ, ◌+◌, ◌-◌, ◌<◌, ◌≤◌}
use native.Mathlib.Omega.{arith}
use borrow.Author.Tests.{ne_eqb, eqb-true, leb-true}
use lib.Dec.{eqb, leb}
use lib.ListN.{length, get_or, take, drop}
use Rattle.page.specs.Bytes.{Bytes, pick, part, moved, trim_of, keep, space, unpadded}
use Rattle.page.specs.Fields.{field_size, fields, text_of, number_of}
use Rattle.page.specs.Section.{Wording, own_of, words_of, record_text, text_field, number_field, left_out, field_of, field_number, amount}
use Rattle.page.specs.Records.{own_bytes}
use Rattle.page.specs.Places.{field_place, span_from, field_span}
use Rattle.page.specs.Reading.{later_field}
use Rattle.page.specs.Form.{doubled, quoted}
use Rattle.page.specs.declared.Column.{Column}
use Rattle.page.specs.declared.Span.{Span}
use Rattle.page.specs.declared.Field.{Field}
use Rattle.page.specs.declared.Field.TheVariants as F
use Rattle.page.proofs.ScanLaws.{part_length, part_moved, keep_stop}
use Rattle.page.proofs.NumberFieldLaws.{NumberRead, as_number, as_refusal, number_read_so}
use Rattle.page.proofs.FieldLaws.{end_in, span_in, span_part, field_span_in, field_span_part}
use Rattle.page.proofs.TextLaws.{text_quoted, text_long, text_between, record_text_is, text_kept, unpadded_there, words_there, unpadded_in}
use Rattle.digits.specs.Runs.{field_from}
use Rattle.doubling.specs.Raw.{raw_text}

-- a text as it stands between its quotes: its own bytes, each quote doubled
record Stored (f : Bytes) (x : Wording) : Type 0 where
  begins : x.span.from ≤ x.span.to
  within : x.span.to ≤ length f
  raw : raw_text (part x.span f) ≡ quoted x.own

stored : (f : Bytes) (x : Wording) → words_of f ≡ Some x → Stored f x
unfolding raw_text quoted
stored f x e =
    let a = words_there f x e in
    record { begins = omega (arith, a.begins, a.ends); within = omega (arith, a.within); raw = ap raw_text a.stands }

-- what a field that passed its column's rules is read as
data Read (c : Column) (f : Bytes) : Field → Type 0 where
  a_text : (x : Wording) → c.text ≡ true → words_of f ≡ Some x → length x.own ≤ c.hi → Read c f (F.Text x.span)
  a_number : (n : ℕ) → c.text ≡ false → left_out c.optional f ≡ false → n ≡ amount (number_of f) → Read c f (F.Number n)
  no_number : c.text ≡ false → left_out c.optional f ≡ true → Read c f F.Missing

read_of : (c : Column) (f : Bytes) → field_number (field_of c f) ≡ 0 → Read c f (field_of c f)
unfolding field_of text_field field_number
read_of c f z = by c.text (left_out c.optional f) refl refl z
  where
    sized : (x : Wording) → c.text ≡ true → words_of f ≡ Some x → (b : Bool) → leb (length x.own) c.hi ≡ b
        → field_number (pick b (F.Text x.span) (F.Refused 13)) ≡ 0 → Read c f (pick b (F.Text x.span) (F.Refused 13))
    sized x k e true q z = a_text x k e (leb-true (length x.own) c.hi q)
    sized x k e false q z = absurd (omega arith)

    worded_so : c.text ≡ true → (o : Option Wording) → words_of f ≡ o → field_number (text_field c.hi o) ≡ 0 → Read c f (text_field c.hi o)
    worded_so k None e z = absurd (omega arith)
    worded_so k (Some x) e z = sized x k e (leb (length x.own) c.hi) refl z

    number : c.text ≡ false → left_out c.optional f ≡ false → {r : Field} → NumberRead (number_of f) r → field_number r ≡ 0 → Read c f r
    number k l (as_number n e) z = a_number n k l (sym (ap amount e))
    number k l (as_refusal v n) z = absurd (n z)

    read : Bool → Bool → Field
    read b d = pick b (text_field c.hi (words_of f)) (pick d F.Missing (number_field c.day c.lo c.hi (number_of f)))

    by : (b d : Bool) → c.text ≡ b → left_out c.optional f ≡ d → field_number (read b d) ≡ 0 → Read c f (read b d)
    by true d k l z = worded_so k (words_of f) refl z
    by false true k l z = no_number k l
    by false false k l z = number k l (number_read_so c.day c.lo c.hi (number_of f)) z

pub text_opens : (c : Column) (f : Bytes) → c.text ≡ true → field_number (field_of c f) ≡ 0 → get_or f 0 0 ≡ 34
unfolding field_of words_of text_of text_field field_number
text_opens c f k ok = by (eqb (get_or f 0 0) 34) refl
  where
    by : (b : Bool) → eqb (get_or f 0 0) 34 ≡ b → get_or f 0 0 ≡ 34
    by true e = eqb-true (get_or f 0 0) 34 e
    by false e = absurd (let z : ◌≡◌ {A = ℕ} 11 0 = rw (k, e) at ok in omega arith)

-- a text that no space ends is written as it stands, with its quotes

unpadded_whole : (f u : Bytes) → text_of f ≡ Some u → (get_or f (length f - 2) 0 ≡ 32 → ⊥) → f ≡ quoted (unpadded u)
unfolding quoted
unpadded_whole f u e n =
    let l = text_long f u e in
    let k : length f - 1 - 1 ≡ length f - 2 = omega arith in
    let a : keep space (take (length f - 1) f) ≡ length f - 1 =
    keep_stop space f (length f - 1) (omega arith) (omega arith) (ne_eqb (get_or f (length f - 1 - 1) 0) 32 (rw k n)) in
    let m : length (doubled (unpadded u)) ≡ length f - 2 = omega (arith, text_kept f u e) in
    let d : doubled (unpadded u) ≡ doubled u = sym (unpadded_there f u e) ∙ (rw m (text_between f u e)) in
    text_quoted f u e ∙ ap (λ (x : Bytes). 34 ∷ (x ++ 34 ∷ [])) (sym d)

pub text_whole : (c : Column) (f : Bytes) → c.text ≡ true → field_number (field_of c f) ≡ 0 → (get_or f (length f - 2) 0 ≡ 32 → ⊥) → f ≡ quoted (own_bytes (record_text f))
unfolding field_of words_of text_field field_number
text_whole c f k ok n = by (text_of f) refl
  where
    by : (o : Option Bytes) → text_of f ≡ o → f ≡ quoted (own_bytes (record_text f))
    by None e = absurd (let z : ◌≡◌ {A = ℕ} 11 0 = rw (k, e) at ok in omega arith)
    by (Some u) e = unpadded_whole f u e n ∙ sym (ap (λ (o : Option Bytes). quoted (own_bytes o)) (record_text_is f ∙ ap unpadded_in e))

-- the field at a place of w

-- a text is written as it stands between its quotes
pub record Words (c : Column) (f w : Bytes) (sp : Span) : Type 0 where
  pub kind : c.text ≡ true
  pub begins : sp.from ≤ sp.to
  pub within : sp.to ≤ length w
  pub raw : raw_text (part sp w) ≡ quoted (own_bytes (record_text f))

spanned : (w : Bytes) (at : ℕ) → at ≤ length w
    → ((span_from w at).from ≤ (span_from w at).to) × ((span_from w at).to ≤ length w) × (part (span_from w at) w ≡ field_from w at)
unfolding span_from
spanned w at h =
    let e = at + field_size false (drop at w) in
    let n : e - at ≡ field_size false (drop at w) = omega arith in
    let i = end_in w at e h refl in
    let x : span_from w at ≡ moved at (trim_of (take (e - at) (drop at w))) = rw n refl in
    let j = span_in w at e refl i (span_from w at) x in
    (j.0, j.1, span_part w at e refl i (span_from w at) x ∙ rw n refl)

module _ (c : Column) (w : Bytes) (at : ℕ) (h : at ≤ length w) (ok : field_number (field_of c (field_from w at)) ≡ 0) where
  abbrev f : Bytes
  f = field_from w at

  abbrev g : Span
  g = span_from w at

  pub text_read : (sp : Span) → F.Text sp ≡ later_field g.from (field_of c f) → Words c f w sp
  unfolding record_text
  text_read sp e = by (field_of c f) (read_of c f ok) e
    where
      by : (v : Field) → Read c f v → F.Text sp ≡ later_field g.from v → Words c f w sp
      by v (a_text x k q l) e =
          let y : sp ≡ moved g.from x.span = cc in
          let t = stored f x q in
          let p = spanned w at h in
          let n : length f ≡ g.to - g.from = ap length (sym p.2) ∙ part_length g.from g.to w p.1 in
          let m : part x.span f ≡ part (moved g.from x.span) w =
          ap (part x.span) (sym p.2) ∙ part_moved x.span g.from (g.to - g.from) w t.begins (omega (arith, t.within)) in
          let r : raw_text (part sp w) ≡ quoted x.own = rw y (ap raw_text (sym m) ∙ t.raw) in
          record {
            kind = k;
            begins = rw y (omega (arith, t.begins));
            within = rw y (omega (arith, t.within));
            raw = r ∙ ap (λ (o : Option Wording). quoted (own_bytes (own_of o))) (sym q);
          }
      by v (a_number n k l q) e = absurd (let y : ◌≡◌ {A = ℕ} 0 1 = cc in omega arith)
      by v (no_number k l) e = absurd (let y : ◌≡◌ {A = ℕ} 0 1 = cc in omega arith)

  pub number_read : (n : ℕ) → F.Number n ≡ later_field g.from (field_of c f)
      → (c.text ≡ false) × (left_out c.optional f ≡ false) × (n ≡ amount (number_of f))
  number_read n e = by (field_of c f) (read_of c f ok) e
    where
      by : (v : Field) → Read c f v → F.Number n ≡ later_field g.from v → (c.text ≡ false) × (left_out c.optional f ≡ false) × (n ≡ amount (number_of f))
      by v (a_text x k q l) e = absurd (let y : ◌≡◌ {A = ℕ} 0 1 = cc in omega arith)
      by v (a_number i k l q) e = (k, l, let y : n ≡ i = cc in y ∙ q)
      by v (no_number k l) e = absurd (let y : ◌≡◌ {A = ℕ} 0 1 = cc in omega arith)

  pub missing_read : F.Missing ≡ later_field g.from (field_of c f) → (c.text ≡ false) × (left_out c.optional f ≡ true)
  missing_read e = by (field_of c f) (read_of c f ok) e
    where
      by : (v : Field) → Read c f v → F.Missing ≡ later_field g.from v → (c.text ≡ false) × (left_out c.optional f ≡ true)
      by v (a_text x k q l) e = absurd (let y : ◌≡◌ {A = ℕ} 0 1 = cc in omega arith)
      by v (a_number i k l q) e = absurd (let y : ◌≡◌ {A = ℕ} 0 1 = cc in omega arith)
      by v (no_number k l) e = (k, l)

  pub never_refused : (v : ℕ) → F.Refused v ≡ later_field g.from (field_of c f) → ⊥
  never_refused v e = by (field_of c f) (read_of c f ok) e
    where
      by : (x : Field) → Read c f x → F.Refused v ≡ later_field g.from x → ⊥
      by x (a_text y k q l) e = absurd (let z : ◌≡◌ {A = ℕ} 0 1 = cc in omega arith)
      by x (a_number n k l q) e = absurd (let z : ◌≡◌ {A = ℕ} 0 1 = cc in omega arith)
      by x (no_number k l) e = absurd (let z : ◌≡◌ {A = ℕ} 0 1 = cc in omega arith)

-- the field at place p, from 0, of a record
module _ (w : Bytes) (p : ℕ) (h : p < length (fields w)) where
  pub field_begins : field_place p 0 w ≤ length w
  unfolding field_span span_from
  field_begins = let i = field_span_in w p h in omega arith

  pub field_there : field_from w (field_place p 0 w) ≡ get_or (fields w) p []
  unfolding field_span
  field_there = sym (spanned w (field_place p 0 w) field_begins).2 ∙ field_span_part w p h
