-- The value that is handed out is the file's: of a sound section, the number that its record holds there, or that it is missing, or the text
-- with its owner. Assumes nothing.
use Rattle.std.specs.Prelude.{Err, Ok, Some}
use mathlib.Core.Path.{◌≡◌, refl, ap, sym, ◌∙◌}
use mathlib.Core.Bool.{Bool, true, false, not, false≢true}
use mathlib.Core.List.{List, [], ◌∷◌, ◌++◌, map, append_assoc}
use Prim.Native.Nat.{ℕ, zero, suc, ◌+◌, ◌-◌, ◌<◌, ◌≤◌}
use native.Mathlib.Omega.{arith}
use lib.Dec.{eqb, ltb}
use lib.ListN.{length, get_or, take, drop, length-append, take-append-drop}
use lib.Seq.{take-append_seam, drop-append-le, drop-append-add}
use borrow.Author.Tests.{eqb-true, eq-eqb, le-leb, ltb-true, ltb-false}
use Rattle.page.specs.Bytes.{Bytes, pick, until, moved, part}
use Rattle.page.specs.Lines.{joined, content_size, content, command, rest, semicolon, Tbl, Atr, Frm, Rec}
use Rattle.page.specs.Fields.{fields, number_of}
use Rattle.page.specs.Tables.{Named, no_column, column_at, width}
use Rattle.page.specs.Order.{Order, arranged, by_column, column_in}
use Rattle.page.specs.Cut.{Section, sections}
use Rattle.page.specs.Head.{latin_of}
use Rattle.page.specs.Section.{own_span, record_text, text_field, number_field, field_of, outcome}
use Rattle.page.specs.Records.{Datum, number, words, Record, waits, records_of, table_index, order_in}
use Rattle.page.specs.Places.{Standing, field_span, stands, record_at, this_or}
use Rattle.page.specs.Model.{Content, content_of, model_of, datum_at}
use Rattle.page.specs.File.{row_given, row_of}
use Rattle.page.specs.Form.{doubled}
use Rattle.page.specs.Answers.{refuse_if, answered}
use Rattle.page.specs.Reading.{no_section, section_at, row_at, later_field, field_at, valued, value_in, record_of, value_refusal, value_at, value_of}
use Rattle.page.specs.Writing.{put_refusal, put_of}
use Rattle.page.specs.Handing.{text_refusal, place_of, own_text, text_owner, copied, text_out, text_after}
use Rattle.page.specs.Grammar as Grammar
use Rattle.page.specs.Grammar.{owner_by, Day, Holds, Values, no_field, a_field, Reads, Then, found, skip, Records, pause, a_mark, a_record, the_end, Denotes}
use Rattle.page.specs.Rules.{Every, none_left, one_more}
use Rattle.page.specs.declared.Column.{Column}
use Rattle.page.specs.declared.Field.{Field}
use Rattle.page.specs.declared.Field.TheVariants as F
use Rattle.page.specs.declared.Number.TheVariants as N
use Rattle.page.specs.declared.Refusal.{Refusal}
use Rattle.page.specs.declared.Span.{Span}
use Rattle.page.specs.declared.Text.{Text}
use Rattle.page.specs.declared.Value.{Value}
use Rattle.page.specs.declared.Value.TheVariants as Va
use Rattle.page.specs.declared.Copied.{Copied}
use Rattle.page.proofs.LineLaws.{joined_lines, joined_append}
use Rattle.page.proofs.ContentLaws.{rest_none}
use Rattle.page.proofs.CutLaws.{section_stands}
use Rattle.page.proofs.ScanLaws.{part_length, part_moved}
use Rattle.page.proofs.FieldLaws.{field_span_in, field_span_part}
use Rattle.page.proofs.OrderLaws.{arranged_long, place_in, by_column_at}
use Rattle.page.proofs.TextLaws.{words_there, worded_some}
use Rattle.laws.specs.Begins.{begins}
use Rattle.grammar.specs.Marks.{marks_at}
use Rattle.calls.specs.Handed.{StandsFor, a_number, no_number, a_text}
use Rattle.grammar.proofs.Days.{day_read}
use Rattle.grammar.proofs.Values.{number_there}
use Rattle.grammar.proofs.Readings.{handed_denoted, denoted_order, sound_arranged}
use Rattle.grammar.proofs.Counts.{count_handed}
use Rattle.laws.proofs.Sections.{sections_begin}
use Rattle.grammar.proofs.Marks.{pass_marks, quiet_marks, mark_marks, record_marks, pass_at, quiet_at, mark_at, rec_at, owner_handed}
use Rattle.calls.proofs.CallAnswers.{as_written, handed_is}
use Rattle.calls.proofs.CallNumbers.{Given, IsText, value_given}
use Rattle.calls.proofs.PromisesHanding.{text_put, text_done}
use Rattle.laws.proofs.Earlier.{earlier_none}

-- where a record's fields stand among the bytes

-- what follows the first `;` stands in s at its place
abbrev pub Lies : Bytes → Standing → Type 0
Lies s x = take (length x.rest) (drop x.at s) ≡ x.rest

lies_in : (a c z : Bytes) (k : ℕ) → k ≤ length c → take (length (drop k c)) (drop (length a + k) (a ++ (c ++ z))) ≡ drop k c
lies_in a c z k h = rw (drop-append-add a (c ++ z) k, drop-append-le k c z h) (take-append_seam (drop k c) z)

content_first : (l z : Bytes) → l ++ z ≡ content l ++ (drop (content_size l) l ++ z)
unfolding content
content_first l z = ap (λ (w : Bytes). w ++ z) (sym (take-append-drop (content_size l) l)) ∙ append_assoc (take (content_size l) l) (drop (content_size l) l) z

pub stands_lies : (a l z : Bytes) (m : ℕ) → Lies (a ++ (l ++ z)) (stands (length a) l m)
unfolding stands rest
stands_lies a l z m = by (ltb (until semicolon (content l)) (length (content l))) refl
  where
    place : length a + until semicolon (content l) + 1 ≡ length a + (until semicolon (content l) + 1)
    place = omega arith

    by : (b : Bool) → ltb (until semicolon (content l)) (length (content l)) ≡ b → Lies (a ++ (l ++ z)) (stands (length a) l m)
    by true h = rw (place, content_first l z) (lies_in a (content l) (drop (content_size l) l ++ z) (until semicolon (content l) + 1) (omega (arith, ltb-true (until semicolon (content l)) (length (content l)) h)))
    by false h =
        let n : drop (until semicolon (content l) + 1) (content l) ≡ [] = rest_none (content l) (until semicolon (content l)) refl (ltb-false (until semicolon (content l)) (length (content l)) h) in
        rw n

record_lies : (q m : ℕ) (a : Bytes) (ls : List Bytes) (z : Bytes) → Lies (a ++ (joined ls ++ z)) (record_at q m (length a) ls)
unfolding record_at joined
record_lies q m a [] z = refl
record_lies q m a (l ∷ ls) z = by (eqb (command (content l)) Rec) q (λ r n. record_lies r n (a ++ l) ls z)
  where
    shift : (a ++ l) ++ (joined ls ++ z) ≡ a ++ ((l ++ joined ls) ++ z)
    shift = simp append_assoc

    by : (b : Bool) (q : ℕ) → ((r n : ℕ) → Lies ((a ++ l) ++ (joined ls ++ z)) (record_at r n (length (a ++ l)) ls)) →
        Lies (a ++ ((l ++ joined ls) ++ z))
        (pick b (this_or q (stands (length a) l m) (λ r. record_at r 0 (length a + length l) ls)) (record_at q (waits m (content l)) (length a + length l) ls))
    by true zero ih = rw (append_assoc l (joined ls) z) (stands_lies a l (joined ls ++ z) m)
    by true (suc r) ih = rw (shift, length-append a l) at (ih r 0)
    by false q ih = rw (shift, length-append a l) at (ih q (waits m (content l)))

section_lies : (s : Bytes) (i r : ℕ) → 0 < i → i ≤ length (sections s) → Lies s (record_of (section_at s i) r)
unfolding record_of section_at
section_lies s i r p h =
    let t = section_stands s (i - 1) (omega arith) in
    let x = get_or (sections s) (i - 1) no_section in
    let e : s ≡ joined t.before ++ (joined x.lines ++ joined t.after) =
    sym (joined_lines s) ∙ (ap joined t.whole ∙ (joined_append t.before (x.lines ++ t.after) ∙ ap (λ (w : Bytes). joined t.before ++ w) (joined_append x.lines t.after))) in
    let l = record_lies (r - 1) 0 (joined t.before) x.lines (joined t.after) in
    rw (← e, ← t.place) at l

-- a text's own bytes, a quote doubled, stand in its span
span_bytes : (s : Bytes) (x : Standing) → Lies s x → (k : ℕ) → k < length (fields x.rest) → (u : Bytes) → record_text (get_or (fields x.rest) k []) ≡ Some u →
    part (moved x.at (moved (field_span x.rest k).from (own_span (get_or (fields x.rest) k [])))) s ≡ doubled u
span_bytes s x lies k h u e =
    let i = field_span_in x.rest k h in
    let p = field_span_part x.rest k h in
    let n : length (part (field_span x.rest k) x.rest) ≡ (field_span x.rest k).to - (field_span x.rest k).from =
    part_length (field_span x.rest k).from (field_span x.rest k).to x.rest i.1 in
    let f : Bytes = get_or (fields x.rest) k [] in
    let t = words_there f _ (worded_some f u e) in
    let m : length f ≡ (field_span x.rest k).to - (field_span x.rest k).from = sym (ap length p) ∙ n in
    let sp : Span = moved (field_span x.rest k).from (own_span f) in
    let a : part sp (take (length x.rest) (drop x.at s)) ≡ part (moved x.at sp) s =
    part_moved sp x.at (length x.rest) s (omega (arith, t.ends)) (omega (arith, t.within)) in
    let b : part (own_span f) (take ((field_span x.rest k).to - (field_span x.rest k).from) (drop (field_span x.rest k).from x.rest)) ≡ part sp x.rest =
    part_moved (own_span f) (field_span x.rest k).from ((field_span x.rest k).to - (field_span x.rest k).from) x.rest (omega (arith, t.ends)) (omega (arith, t.within)) in
    sym a ∙ (ap (part sp) lies ∙ (sym b ∙ (ap (part (own_span f)) p ∙ t.stands)))

-- what a record's line holds: the record after r others of lines that denote records

stands_rest : (at : ℕ) (l : Bytes) (m : ℕ) → (stands at l m).rest ≡ rest (content l)
unfolding stands
stands_rest at l m = refl

module _ (latin : Bool) (t : ℕ) (o : Order) where
  -- its fields are read as its values, after the marks that stand before it
  abbrev ReadsAs : ℕ → List ℕ → ℕ → ℕ → List Bytes → List Record → Type 0
  ReadsAs r ms m at ls rs = Reads t o (marks_at r ms ls) (fields (record_at r m at ls).rest) (get_or rs r [])

  records_read : {n : ℕ} {ms : List ℕ} {ls : List Bytes} {rs : List Record} → Records latin t o n ms ls rs → (r m at : ℕ) → r < length rs → ReadsAs r ms m at ls rs
  records_read {ms} (pause {l} {ls} q x) r m at h = rw (quiet_marks r ms l ls q, quiet_at r m at l ls q) (records_read x r m (at + length l) h)
  records_read {ms} (a_mark {i} {l} {ls} k x) r m at h =
      rw (mark_marks r ms i l ls k.says.named k.reads, mark_at r m at i l ls k.says.named k.reads) (records_read x r i (at + length l) h)
  records_read {ms} (a_record {l} {ls} k x) zero m at h =
      rw (record_marks zero ms l ls k.says.named, rec_at zero m at l ls k.says.named, stands_rest at l m) k.fields
  records_read {ms} (a_record {l} {ls} k x) (suc r) m at h =
      rw (record_marks (suc r) ms l ls k.says.named, rec_at (suc r) m at l ls k.says.named) (records_read x r 0 (at + length l) (omega arith))
  records_read (the_end e s) r m at h = absurd (let z : ⊥ = omega arith in z)

  past_read : {Q : Bytes → Type 0} {R : List Bytes → Type 0} {ls : List Bytes} (r at : ℕ) (rs : List Record) →
      ((l : Bytes) (ms : List Bytes) (a : ℕ) → Q l → R ms → ReadsAs r [] 0 a (l ∷ ms) rs) → Then latin Q R ls → ReadsAs r [] 0 at ls rs
  past_read r at rs f (found {l} {ls} h x) = f l ls at h x
  past_read r at rs f (skip {l} {ls} h x) = rw (quiet_marks r [] l ls h, quiet_at r 0 at l ls h) (past_read r (at + length l) rs f x)

denoted_read : (latin : Bool) (t : ℕ) {ls : List Bytes} (rs : List Record) (d : Denotes latin ls t rs) (r at : ℕ) → r < length rs → ReadsAs latin t d.0 r [] 0 at ls rs
denoted_read latin t rs d r at h =
    let o = d.0 in
    past_read latin t o r at rs (λ l xs a p x. rw (pass_marks r [] Tbl l xs p.says.named refl refl, pass_at r 0 a Tbl l xs p.says.named refl refl)
    (past_read latin t o r (a + length l) rs (λ l ys b q y. rw (pass_marks r [] Atr l ys q.says.named refl refl, pass_at r 0 b Atr l ys q.says.named refl refl)
    (past_read latin t o r (b + length l) rs (λ l zs c w z. rw (pass_marks r [] Frm l zs w.says.named refl refl, pass_at r 0 c Frm l zs w.says.named refl refl)
    (records_read latin t o z r 0 (c + length l) h)) y)) x)) d.1

-- one of its fields
values_at : {ms : List ℕ} {i : ℕ} {cs : List Named} {fs : List Bytes} {vs : Record} → Values ms i cs fs vs → (k : ℕ) → k < length cs →
    Holds (owner_by ms (i + k)) (get_or cs k no_column).column (get_or fs k []) (get_or vs k (number 0))
values_at no_field k h = absurd (let z : ⊥ = omega arith in z)
values_at {ms} {i} (a_field {c} {f} {v} x g) zero h =
    let z : i + 0 ≡ i = omega arith in
    rw z x
values_at {ms} {i} (a_field x g) (suc k) h =
    let z : i + suc k ≡ suc i + k = omega arith in
    rw z (values_at g k (omega arith))

-- what a field that holds a value is read as

number_read : (c : Column) (f : Bytes) (n : ℕ) → c.text ≡ false → number_of f ≡ N.Plus n → c.lo ≤ n → n ≤ c.hi → (c.day ≡ true → Day n) → field_of c f ≡ F.Number n
unfolding field_of number_field
number_read c f n t e l h d = rw (t, number_there c.optional f e, e, le-leb c.lo n l, le-leb n c.hi h, day_read c.day n d)

missing_read : (c : Column) (f : Bytes) → c.text ≡ false → c.optional ≡ true → f ≡ [] → field_of c f ≡ F.Missing
unfolding field_of
missing_read c f t o e = rw (t, o, e)

text_read : (c : Column) (f u : Bytes) → c.text ≡ true → record_text f ≡ Some u → length u ≤ c.hi → field_of c f ≡ F.Text (own_span f)
unfolding field_of text_field
text_read c f u t e h = rw (t, worded_some f u e, le-leb (length u) c.hi h)

pub section_begins : (s : Bytes) (i : ℕ) → 0 < i → i ≤ length (sections s) → begins (section_at s i).lines ≡ true
unfolding section_at
section_begins s i p h = at (sections_begin s) (i - 1) (omega arith)
  where
    at : {xs : List Section} → Every (λ x. begins x.lines ≡ true) xs → (k : ℕ) → k < length xs → begins (get_or xs k no_section).lines ≡ true
    at none_left k h = absurd (omega arith)
    at (one_more q qs) zero h = q
    at (one_more q qs) (suc k) h = at qs k (omega arith)

module _ (s : Bytes) (i r f : ℕ) (g : Given s i r f) where
  abbrev here : Section
  here = section_at s i

  abbrev the_fields : List Bytes
  the_fields = fields (record_of here r).rest

  abbrev the_table : ℕ
  the_table = table_index here.lines

  abbrev the_order : Order
  the_order = order_in here.lines

  abbrev the_field : Bytes
  the_field = get_or the_fields (place_of s i f) []

  abbrev the_marks : List ℕ
  the_marks = map (column_in the_order) (marks_at (r - 1) [] here.lines)

  verdict_zero : (outcome (latin_of s) here.lines).verdict ≡ 0
  unfolding row_at row_of row_given
  verdict_zero = g.sound

  count : (row_at s i).records ≡ length (records_of (latin_of s) here.lines)
  unfolding row_at row_of row_given
  count = count_handed (latin_of s) here.lines

  starts : begins here.lines ≡ true
  starts = section_begins s i g.section.0 g.section.1

  pub datum_is : datum_at i r f (model_of s) ≡ get_or (get_or (records_of (latin_of s) here.lines) (r - 1) []) (f - 1) (number 0)
  unfolding datum_at model_of content_of section_at
  datum_is = ap (λ (c : Content). get_or (get_or c.records (r - 1) []) (f - 1) (number 0)) (map_at (content_of (latin_of s)) (sections s) (i - 1) (omega (arith, g.section)))
    where
      map_at : (h : Section → Content) (xs : List Section) (k : ℕ) → k < length xs → get_or (map h xs) k (record { table = 0; records = [] }) ≡ h (get_or xs k no_section)
      map_at h [] k l = absurd (omega arith)
      map_at h (x ∷ xs) zero l = refl
      map_at h (x ∷ xs) (suc k) l = map_at h xs k (omega arith)

  reads : Reads the_table the_order (marks_at (r - 1) [] here.lines) the_fields (get_or (records_of (latin_of s) here.lines) (r - 1) [])
  unfolding record_of
  reads =
      let d = handed_denoted (latin_of s) here.lines starts verdict_zero in
      rw (denoted_order here.lines the_table (records_of (latin_of s) here.lines) starts d)
      (denoted_read (latin_of s) the_table (records_of (latin_of s) here.lines) d (r - 1) here.place (omega (arith, count, g.record_there)))

  -- each column stands once in the section's lines
  arranged_here : arranged (width the_table) the_order ≡ true
  arranged_here = sound_arranged (latin_of s) here.lines starts verdict_zero

  -- column f is one of the table's, and stands in the record's line
  column_there : f - 1 < width the_table
  column_there = omega (arith, g.field_there)

  stands_there : place_of s i f < length the_order
  unfolding place_of
  stands_there = (place_in (width the_table) the_order arranged_here (f - 1) column_there).0

  column_field : get_or (by_column the_order the_fields) (f - 1) [] ≡ the_field
  unfolding place_of
  column_field = by_column_at the_order the_fields (f - 1) (omega (arith, column_there, arranged_long (width the_table) the_order arranged_here))

  -- the field of the record's line holds, in its column, the model's value there
  pub field_holds : Holds (owner_by the_marks f) (column_at the_table (f - 1)) the_field (datum_at i r f (model_of s))
  unfolding column_at width
  field_holds =
      let z : 1 + (f - 1) ≡ f = omega (arith, g.field_there) in
      rw datum_is (rw (z, column_field) at (values_at reads.values (f - 1) column_there))

  as_many : place_of s i f < length the_fields
  as_many = omega (arith, reads.many, stands_there)

  owner_is : text_owner s i r f ≡ owner_by the_marks f
  unfolding text_owner place_of
  owner_is = owner_handed (latin_of s) here starts verdict_zero r f g.record_there.0 (omega (arith, count, g.record_there)) g.field_there.0

  -- a text, as it is handed out
  abbrev the_text : Text
  the_text =
      record {
        from = (record_of here r).at + ((field_span (record_of here r).rest (place_of s i f)).from + 1);
        to = (record_of here r).at + ((field_span (record_of here r).rest (place_of s i f)).from + (own_span the_field).to);
        owner = text_owner s i r f;
      }

  text_span : (u : Bytes) → record_text the_field ≡ Some u → take (the_text.to - the_text.from) (drop the_text.from s) ≡ doubled u
  text_span u e =
      span_bytes s (record_of here r) (section_lies s i r g.section.0 g.section.1) (place_of s i f) as_many u e

  value_reads : (x : Field) → field_of (column_at the_table (f - 1)) the_field ≡ x →
      value_at here r f ≡ valued (text_owner s i r f) (later_field (record_of here r).at (later_field (field_span (record_of here r).rest (place_of s i f)).from x))
  unfolding value_at value_in field_at text_owner place_of
  value_reads x e = rw e

  -- the value that is handed out stands for the model's value at that place, its owner included
  pub value_says : StandsFor s (value_at here r f) (datum_at i r f (model_of s))
  value_says = by field_holds
    where
      by : {d : Datum} → Holds (owner_by the_marks f) (column_at the_table (f - 1)) the_field d → StandsFor s (value_at here r f) d
      by (Grammar.a_number {n} a b c e k) = rw (value_reads (F.Number n) (number_read (column_at the_table (f - 1)) the_field n a b c e k)) a_number
      by (Grammar.no_number a b c) = rw (value_reads F.Missing (missing_read (column_at the_table (f - 1)) the_field a b c)) no_number
      by (Grammar.a_text {t} a b c) =
          rw (value_reads (F.Text (own_span the_field)) (text_read (column_at the_table (f - 1)) the_field t a b c), ← owner_is) (a_text {x = the_text} (text_span t b))

  -- a text's value: its own bytes are the model's, and its owner is the one that is handed out
  pub record TextSays : Type 0 where
    pub datum : datum_at i r f (model_of s) ≡ words (text_owner s i r f) (own_text s i r f)
    pub value : value_at here r f ≡ Va.Words the_text

  pub text_says : (column_at the_table (f - 1)).text ≡ true → TextSays
  unfolding own_text
  text_says h = by (datum_at i r f (model_of s)) refl field_holds
    where
      by : (d : Datum) → datum_at i r f (model_of s) ≡ d → Holds (owner_by the_marks f) (column_at the_table (f - 1)) the_field d → TextSays
      by d e (Grammar.a_number a b c k l) = absurd (false≢true (sym a ∙ h))
      by d e (Grammar.no_number a b c) = absurd (false≢true (sym a ∙ h))
      by d e (Grammar.a_text {t} a b c) =
          record {
            datum = e ∙ rw (b, owner_is);
            value = value_reads (F.Text (own_span the_field)) (text_read (column_at the_table (f - 1)) the_field t a b c);
          }

-- the same of the calls' answers

if_text : (b : Bool) → (refuse_if (not b) 11).number ≡ 0 → b ≡ true
unfolding refuse_if
if_text true e = refl
if_text false e = absurd (let z : ⊥ = omega arith in z)

accepted_put : (x : Refusal) (form : Bytes) (room n : ℕ) → put_of x form room ≡ Ok n → x.number ≡ 0
unfolding put_of put_refusal answered
accepted_put x form room n e = by (eqb (put_refusal x form room).number 0) refl e
  where
    by : (b : Bool) → eqb (put_refusal x form room).number 0 ≡ b → pick b (Ok (length form)) (Err (put_refusal x form room)) ≡ Ok n → x.number ≡ 0
    by true h e = (earlier_none x _ (eqb-true (put_refusal x form room).number 0 h)).0
    by false h e = absurd (false≢true (cc))

-- `value`: what is handed out stands for the model's value
pub value_handed : (s : Bytes) (i r f : ℕ) (v : Value) → value_of s i r f ≡ Ok v → StandsFor s v (datum_at i r f (model_of s))
unfolding value_of answered
value_handed s i r f v e = by (eqb (value_refusal s i r f).number 0) refl e
  where
    by : (b : Bool) → eqb (value_refusal s i r f).number 0 ≡ b → pick b (Ok (value_at (section_at s i) r f)) (Err (value_refusal s i r f)) ≡ Ok v → StandsFor s v (datum_at i r f (model_of s))
    by true h e =
        let z : value_at (section_at s i) r f ≡ v = cc in
        rw z at (value_says s i r f ((value_given s i r f).0 (eqb-true (value_refusal s i r f).number 0 h)))
    by false h e = absurd (false≢true (cc))

-- `text`

module _ (s : Bytes) (i r f room : ℕ) (x : Copied) (e : text_out s i r f room ≡ Ok x) where
  a_text_there : ((value_refusal s i r f).number ≡ 0) × IsText s i f
  unfolding text_refusal
  a_text_there =
      let a = accepted_put (text_refusal s i r f) (own_text s i r f) room x.length (sym (text_put s i r f room) ∙ ap as_written e) in
      let b = earlier_none (value_refusal s i r f) _ a in
      (b.0, if_text (column_at (table_index (section_at s i).lines) (f - 1)).text b.1)

  owner_told : text_owner s i r f ≡ x.owner
  unfolding text_out
  owner_told =
      ap (λ (t : Copied). t.owner)
      (handed_is (put_refusal (text_refusal s i r f) (own_text s i r f) room) (copied (own_text s i r f) (text_owner s i r f)) x e)

  says : TextSays s i r f ((value_given s i r f).0 a_text_there.0)
  says = text_says s i r f ((value_given s i r f).0 a_text_there.0) a_text_there.1

  -- the bytes that are handed out, with the owner that is told, are the model's text
  pub text_handed : datum_at i r f (model_of s) ≡ words x.owner (own_text s i r f)
  text_handed = rw (← owner_told) says.datum

  -- the owner is the suggestion's exactly if a mark before the record names the field
  pub text_marked : x.owner ≡ owner_by (map (column_in (order_in (section_at s i).lines)) (marks_at (r - 1) [] (section_at s i).lines)) f
  text_marked = sym owner_told ∙ owner_is s i r f ((value_given s i r f).0 a_text_there.0)

  -- the value that `value` hands out has these bytes in its span, and this owner
  pub text_value : (v : Value) → value_of s i r f ≡ Ok v → StandsFor s v (words x.owner (own_text s i r f))
  text_value v h = rw text_handed at (value_handed s i r f v h)

  -- and the owner is the one that `value` tells
  pub text_whose : (t : Text) × ((value_of s i r f ≡ Ok (Va.Words t)) × (t.owner ≡ x.owner))
  unfolding value_of answered
  text_whose =
      let z : eqb (value_refusal s i r f).number 0 ≡ true = eq-eqb (value_refusal s i r f).number 0 a_text_there.0 in
      (the_text s i r f ((value_given s i r f).0 a_text_there.0), (rw (z, says.value), owner_told))

-- the bytes that stand in the output, with the owner that is told, are the model's text
pub text_output : (s : Bytes) (i r f : ℕ) (out : Bytes) (x : Copied) → text_out s i r f (length out) ≡ Ok x →
    datum_at i r f (model_of s) ≡ words x.owner (take x.length (text_after s i r f out))
unfolding text_after
text_output s i r f out x e =
    let d = text_done s i r f out x e in
    let k : take x.length (text_after s i r f out) ≡ own_text s i r f =
    rw (d.holds, d.given) (take-append_seam (own_text s i r f) (drop (length (own_text s i r f)) out)) in
    rw k (text_handed s i r f (length out) x e)
