-- A text's own bytes are what stands between its quotes, and what a call that hands them out answers. Assumes nothing.
use Rattle.std.specs.Prelude.{Err, Ok, Result, Some}
use Rattle.page.specs.declared.Copied.{Copied}
use mathlib.Core.Path.{◌≡◌, refl, ap, sym, ◌∙◌}
use mathlib.Core.Bool.{Bool, true, false, not, ◌||◌}
use mathlib.Core.List.{[]}
use Prim.Native.Nat.{ℕ, ◌+◌, ◌-◌, ◌<◌, ◌≤◌}
use native.Mathlib.Omega.{arith}
use borrow.Author.Tests.{eqb-true, eqb-false, ne_eqb}
use lib.Dec.{eqb}
use lib.ListN.{length, get_or, take, drop}
use Rattle.page.specs.Bytes.{Bytes, pick, part, moved}
use Rattle.page.specs.Fields.{fields}
use Rattle.page.specs.Tables.{column_at, width}
use Rattle.page.specs.Order.{arranged}
use Rattle.page.specs.Cut.{Section, sections}
use Rattle.page.specs.Head.{latin_of}
use Rattle.page.specs.Section.{Wording, words_of, record_text, field_of, field_number, rec_verdict, outcome}
use Rattle.page.specs.Records.{table_index, order_in}
use Rattle.page.specs.Places.{Standing, field_span}
use Rattle.page.specs.Answers.{refusal, earlier, refuse_if, answered}
use Rattle.page.specs.Writing.{put_refusal, put_after}
use Rattle.page.specs.File.{limit, header_refusal, row_given, row_of}
use Rattle.page.specs.Reading.{no_section, outside, section_at, row_at, find_refusal, verdict_of, value_refusal, later_field, field_at, valued, value_in, record_of, value_at}
use Rattle.page.specs.Handing.{text_refusal, place_of, own_text, text_owner, copied, text_out, text_after}
use Rattle.page.specs.declared.Refusal.{Refusal}
use Rattle.page.specs.declared.Column.{Column}
use Rattle.page.specs.declared.Field.{Field}
use Rattle.page.specs.declared.Row.{Row}
use Rattle.page.specs.declared.Value.{Value}
use Rattle.page.specs.declared.Owner.{Owner}
use Rattle.page.proofs.LimitLaws.{header_short}
use Rattle.page.proofs.ScanLaws.{part_length, part_moved}
use Rattle.page.proofs.FieldLaws.{field_span_in, field_span_part}
use Rattle.grammar.proofs.Readings.{sound_arranged}
use Rattle.page.proofs.CutLaws.{Stands, section_stands, section_within, section_bytes}
use Rattle.laws.specs.Begins.{begins}
use Rattle.laws.proofs.Sections.{sections_begin}
use Rattle.values.proofs.ReadLaws.{Read, a_text, a_number, no_number, no_value, read_of, wording_in}
use Rattle.lookups.proofs.LookupLaws.{inside}
use Rattle.doubling.specs.Raw.{undoubled}
use Rattle.doubling.proofs.TextLaws.{undoubled_doubled}
use Rattle.output.proofs.WriteLaws.{refused}
use Rattle.texts.specs.Own.{Lies, Spans, owned, Gave}
use Rattle.texts.proofs.OwnerLaws.{owned_put}
use Rattle.handing.proofs.PassLaws.{passed_there, passed_right, section_passed, every_at}
use Rattle.handing.proofs.StandLaws.{Lain, record_lain}
use Rattle.page.proofs.TestLaws.{neither}
use Rattle.page.proofs.TextLaws.{words_there}
use Rattle.laws.proofs.Earlier.{earlier_none}

-- what an answer tells of its refusal

pub got_is : (r : Refusal) (v w : Value) → Ok w ≡ answered r v → (r.number ≡ 0) × (w ≡ v)
unfolding answered
got_is r v w e = by (eqb r.number 0) refl e
  where
    by : (b : Bool) → eqb r.number 0 ≡ b → Ok w ≡ pick b (Ok v) (Err r) → (r.number ≡ 0) × (w ≡ v)
    by true q e = (eqb-true r.number 0 q, cc)
    by false q e = absurd (let z : ◌≡◌ {A = ℕ} 0 1 = cc in omega arith)

pub got_refused : (r x : Refusal) (v : Value) → Err x ≡ answered r v → (x.number ≡ 0 → ⊥) × (x ≡ r)
unfolding answered
got_refused r x v e = by (eqb r.number 0) refl e
  where
    by : (b : Bool) → eqb r.number 0 ≡ b → Err x ≡ pick b (Ok v) (Err r) → (x.number ≡ 0 → ⊥) × (x ≡ r)
    by true q e = absurd (let z : ◌≡◌ {A = ℕ} 0 1 = cc in omega arith)
    by false q e = let y : x ≡ r = cc in (rw y (eqb-false r.number 0 q), y)

refuse_none : (a : Bool) (v : ℕ) → (v ≡ 0 → ⊥) → (refuse_if a v).number ≡ 0 → a ≡ false
unfolding refuse_if
refuse_none true v n e = absurd (n e)
refuse_none false v n e = refl

verdict_none : (i : ℕ) (x : Row) → (verdict_of i x).number ≡ 0 → x.verdict ≡ 0
unfolding verdict_of
verdict_none i x e = by (eqb x.verdict 0) refl
  where
    by : (b : Bool) → eqb x.verdict 0 ≡ b → x.verdict ≡ 0
    by true q = eqb-true x.verdict 0 q
    by false q = rw q at e

-- what is refused before there is any writing
refused_text : (o : Owner) (r : Refusal) (form l : Bytes) → (r.number ≡ 0 → ⊥)
    → (Err r ≡ answered (put_refusal r form (length l)) (copied form o)) × (l ≡ put_after r form l)
refused_text o r form l n =
    let z = refused r form l n in
    (ap (owned o) z.answer ∙ owned_put o r form (length l), z.left)

-- a section that is found, and sound
pub record Sound (s : Bytes) (i : ℕ) : Type 0 where
  pub short : length s ≤ limit
  pub stands : Stands s (section_at s i)
  pub begun : begins (section_at s i).lines ≡ true
  pub verdict : (outcome (latin_of s) (section_at s i).lines).verdict ≡ 0

pub sound_of : (s : Bytes) (i : ℕ) → (find_refusal s i).number ≡ 0 → (row_at s i).verdict ≡ 0 → Sound s i
unfolding find_refusal section_at row_at row_of row_given
sound_of s i f v =
    let a = earlier_none (header_refusal s) (refuse_if (outside i (length (sections s))) 24) f in
    let o = inside i (length (sections s)) (refuse_none (outside i (length (sections s))) 24 (λ (e : ◌≡◌ {A = ℕ} 24 0). omega arith) a.1) in
    let k : i - 1 < length (sections s) = omega arith in
    record {
      short = header_short s a.0;
      stands = section_stands s (i - 1) k;
      begun = every_at no_section (sections s) (i - 1) (sections_begin s) k;
      verdict = v;
    }

-- the text of a field is what stands there with its doubled quotes undone
wording_own : (f : Bytes) (y : Wording) → words_of f ≡ Some y → undoubled false (part y.span f) ≡ y.own
wording_own f y e = ap (undoubled false) (words_there f y e).stands ∙ undoubled_doubled y.own

-- a record's text, of what lies in the file
module _ (s : Bytes) (x : Standing) (p : ℕ) (y : Wording) (l : Lain s x) (short : length s ≤ limit) (h : p < length (fields x.rest))
    (e : words_of (get_or (fields x.rest) p []) ≡ Some y) where
  abbrev w : Bytes
  w = x.rest

  abbrev k : ℕ
  k = (field_span w p).from

  -- where it stands in the record's fields
  inner : (y.span.from ≤ y.span.to) × (k + y.span.to ≤ (field_span w p).to) × ((field_span w p).to ≤ length w)
  inner =
      let a = field_span_in w p h in
      let n = part_length k (field_span w p).to w a.1 in
      let b = wording_in (get_or (fields w) p []) y e in
      (b.0, omega (arith, ap length (field_span_part w p h)), a.1)

  words_lie : Lies s (x.at + (k + y.span.from)) (x.at + (k + y.span.to))
  words_lie = let a = inner in record { order = omega arith; within = omega (arith, l.within); short = short }

  words_own : undoubled false (part (moved x.at (moved k y.span)) s) ≡ y.own
  words_own =
      let a = inner in
      let n : y.span.to ≤ (field_span w p).to - k = omega arith in
      let b : part y.span (take ((field_span w p).to - k) (drop k w)) ≡ part (moved k y.span) w = part_moved y.span k ((field_span w p).to - k) w a.0 n in
      let g : part (moved k y.span) (take (length w) (drop x.at s)) ≡ part (moved x.at (moved k y.span)) s =
      part_moved (moved k y.span) x.at (length w) s (omega arith) (omega arith) in
      ap (undoubled false) (sym g ∙ ap (part (moved k y.span)) l.is ∙ sym b ∙ ap (part y.span) (field_span_part w p h))
      ∙ wording_own (get_or (fields w) p []) y e

-- a record and a field that are there
pub record There (s : Bytes) (i r f : ℕ) : Type 0 where
  pub short : length s ≤ limit
  pub lain : Lain s (record_of (section_at s i) r)
  pub passed : rec_verdict (table_index (section_at s i).lines) (order_in (section_at s i).lines) (record_of (section_at s i) r).mark (fields (record_of (section_at s i) r).rest) ≡ 0
  pub field : f - 1 < width (table_index (section_at s i).lines)
  pub ordered : arranged (width (table_index (section_at s i).lines)) (order_in (section_at s i).lines) ≡ true

section_lain : (s : Bytes) (x : Section) (r : ℕ) → Stands s x → Lain s (record_of x r)
unfolding record_of
section_lain s x r t = record_lain s x.lines (r - 1) 0 x.place (section_within s x t, section_bytes s x t)

there_of : (s : Bytes) (i r f : ℕ) → (value_refusal s i r f).number ≡ 0 → There s i r f
unfolding value_refusal row_at row_of row_given record_of
there_of s i r f e =
    let t = table_index (section_at s i).lines in
    let n = (row_at s i).records in
    let a = earlier_none (find_refusal s i) (earlier (verdict_of i (row_at s i)) (refuse_if (outside r n || outside f (width t)) 24)) e in
    let b = earlier_none (verdict_of i (row_at s i)) (refuse_if (outside r n || outside f (width t)) 24) a.1 in
    let o = neither (outside r n) (outside f (width t)) (refuse_none (outside r n || outside f (width t)) 24 (λ (z : ◌≡◌ {A = ℕ} 24 0). omega arith) b.1) in
    let j = inside r n o.0 in
    let k = inside f (width t) o.1 in
    let y = sound_of s i a.0 (verdict_none i (row_at s i) b.0) in
    record {
      short = y.short;
      lain = section_lain s (section_at s i) r y.stands;
      passed = section_passed (latin_of s) (section_at s i).lines (r - 1) (section_at s i).place y.begun y.verdict (omega arith);
      field = omega arith;
      ordered = sound_arranged (latin_of s) (section_at s i).lines y.begun y.verdict;
    }

-- a value that is there: it lies in the file, and its own bytes are what is written of it

module _ (s : Bytes) (i r f : ℕ) (found : (value_refusal s i r f).number ≡ 0) where
  abbrev t : ℕ
  t = table_index (section_at s i).lines

  abbrev st : Standing
  st = record_of (section_at s i) r

  abbrev p : ℕ
  p = place_of s i f

  abbrev c : Column
  c = column_at t (f - 1)

  -- what is handed out where the field at its place is read so
  abbrev handed_as : Field → Value
  handed_as g = valued (text_owner s i r f) (later_field st.at (later_field (field_span st.rest p).from g))

  has_field : There s i r f → p < length (fields st.rest)
  unfolding place_of
  has_field h = passed_there t (order_in (section_at s i).lines) st.mark (fields st.rest) h.ordered h.passed (f - 1) h.field

  field_right : There s i r f → field_number (field_of c (get_or (fields st.rest) p [])) ≡ 0
  unfolding place_of
  field_right h = passed_right t (order_in (section_at s i).lines) st.mark (fields st.rest) h.ordered h.passed (f - 1) h.field

  refusal_is : text_refusal s i r f ≡ refuse_if (not c.text) 11
  unfolding text_refusal earlier
  refusal_is = rw found

  spans_by : There s i r f → {g : Field} → Read c (get_or (fields st.rest) p []) g → Spans s (handed_as g)
  spans_by h (a_text y q e) = words_lie s st p y h.lain h.short (has_field h) e
  spans_by h (a_number n q) = tt
  spans_by h (no_number q) = tt
  spans_by h (no_value v n) = tt

  gave_none : c.text ≡ false → (l m : Bytes) (w : Result Copied Refusal) → w ≡ Err (refusal 11 0 0) → m ≡ l
      → (w ≡ text_out s i r f (length l)) × (m ≡ text_after s i r f l)
  unfolding text_out text_after refuse_if
  gave_none q l m w e n =
      let y = refused_text (text_owner s i r f) (refusal 11 0 0) (own_text s i r f) l (λ (e : ◌≡◌ {A = ℕ} 11 0). omega arith) in
      (rw (refusal_is, q) (e ∙ y.0), rw (refusal_is, q) (n ∙ y.1))

  gave_by : There s i r f → {g : Field} → Read c (get_or (fields st.rest) p []) g → field_number g ≡ 0 → (l m : Bytes) (w : Result Copied Refusal)
      → Gave s (handed_as g) l m w → (w ≡ text_out s i r f (length l)) × (m ≡ text_after s i r f l)
  unfolding text_out text_after own_text record_text refuse_if field_number
  gave_by h (a_text y q e) z l m w x =
      let u : own_text s i r f ≡ y.own = rw e in
      let v = words_own s st p y h.lain h.short (has_field h) e in
      (rw (refusal_is, q, u) (rw v at x.answer), rw (refusal_is, q, u) (rw v at x.left))
  gave_by h (a_number n q) z l m w x = gave_none q l m w x.answer x.left
  gave_by h (no_number q) z l m w x = gave_none q l m w x.answer x.left
  gave_by h (no_value v n) z l m w x = absurd (n z)

  value_is : value_at (section_at s i) r f ≡ handed_as (field_of c (get_or (fields st.rest) p []))
  unfolding value_at value_in field_at text_owner place_of
  value_is = refl

  pub value_spans : (v : Value) → v ≡ value_at (section_at s i) r f → Spans s v
  value_spans v e = rw (e ∙ value_is) (spans_by (there_of s i r f found) (read_of c _))

  pub value_gave : (v : Value) → v ≡ value_at (section_at s i) r f → (l m : Bytes) (w : Result Copied Refusal) → Gave s v l m w
      → (w ≡ text_out s i r f (length l)) × (m ≡ text_after s i r f l)
  value_gave v e l m w x =
      let h = there_of s i r f found in
      gave_by h (read_of c _) (field_right h) l m w (rw (e ∙ value_is) at x)

-- a value that is not there
pub text_refused : (s : Bytes) (i r f : ℕ) (x : Refusal) → (x.number ≡ 0 → ⊥) → x ≡ value_refusal s i r f → (l : Bytes)
    → (Err x ≡ text_out s i r f (length l)) × (l ≡ text_after s i r f l)
unfolding text_out text_after text_refusal earlier
text_refused s i r f x n e l =
    let y : eqb (value_refusal s i r f).number 0 ≡ false = rw e at (ne_eqb x.number 0 n) in
    let z = refused_text (text_owner s i r f) (value_refusal s i r f) (own_text s i r f) l (rw e at n) in
    (rw (y, e) z.0, rw y z.1)
