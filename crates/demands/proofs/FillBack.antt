-- A filled file is an accepted file that says the same with the given text, a suggestion's, at its place. Assumes nothing.
use mathlib.Core.Path.{◌≡◌, refl, ap, sym, ◌∙◌}
use mathlib.Core.Bool.{Bool, true, false, not, ◌&&◌, ◌||◌, false≢true}
use mathlib.Core.List.{List, [], ◌∷◌, map}
use Prim.Native.Nat.{ℕ, zero, suc, ◌-◌, ◌<◌, ◌≤◌}
use native.Mathlib.Omega.{arith}
use lib.Dec.{eqb, leb, ltb}
use lib.ListN.{length, get_or, length-map}
use borrow.Author.Tests.{eqb-true, eqb-false, ltb-false, leb-true, not-false}
use Rattle.page.specs.Bytes.{Bytes, all, unpadded}
use Rattle.page.specs.Lines.{allowed}
use Rattle.page.specs.Tables.{Named, no_column, columns, column_at, width}
use Rattle.page.specs.Cut.{sections}
use Rattle.page.specs.Head.{head_values, latin_of}
use Rattle.page.specs.Records.{Datum, words, Record, table_index}
use Rattle.page.specs.Model.{Content, Model, content_of, model_of, change, fill_record, fill_content, fill_model, changed, kept, datum_at}
use Rattle.page.specs.Answers.{sound, refuse_if}
use Rattle.page.specs.File.{limit, row_given, row_of, file_refusal}
use Rattle.page.specs.Reading.{no_section, outside, section_at, row_at}
use Rattle.page.specs.Form.{form_of}
use Rattle.page.specs.Writing.{form_by, write_form, empty_datum, fill_place, fill_refusal, fill_form}
use Rattle.page.specs.Rules.{Every, none_left, one_more}
use Rattle.page.specs.declared.LineEnd.{LineEnd}
use Rattle.page.specs.declared.LineEnd.TheVariants as E
use Rattle.page.specs.declared.Owner.TheVariants as O
use Rattle.round.specs.Round.{a_suggestion, FitAll, no_value, a_value, SoundRecord, SoundContent, SoundModel}
use Rattle.round.specs.RoundKeys.{KeysHold}
use Rattle.demands.specs.RoundAlike.{Pairs, no_pair, a_pair, Alike, alike_none, alike_same, alike_text, AlikeContent}
use Rattle.grammar.proofs.Counts.{count_handed}
use Rattle.round.proofs.RoundRecords.{width_back}
use Rattle.round.proofs.RoundForm.{form_model, form_sound}
use Rattle.demands.proofs.RoundAlike.{only_texts, settled, keys_alike, sound_alike, alike_self}
use Rattle.round.proofs.Round.{accepted_model, accepted_keys}
use Rattle.demands.proofs.Fill.{no_content, fill_here, fill_other_section, fill_other_record, fill_other_field}
use Rattle.page.proofs.ScanLaws.{unpadded_once}
use Rattle.page.proofs.TestLaws.{and_left, and_right, neither}
use Rattle.laws.proofs.Earlier.{earlier_none}

-- what a refusal that does not refuse says
open_if : (b : Bool) (v : ℕ) → ¬ (v ≡ 0) → (refuse_if b v).number ≡ 0 → b ≡ false
unfolding refuse_if
open_if true v n h = absurd (n h)
open_if false v n h = refl

inside : (i n : ℕ) → outside i n ≡ false → (0 < i) × (i ≤ n)
unfolding outside
inside i n h =
    let z = neither (eqb i 0) (ltb n i) h in
    let p : 0 < i = some i (eqb-false i 0 z.0) in
    (p, ltb-false n i z.1)
  where
    some : (i : ℕ) → (i ≡ 0 → ⊥) → 0 < i
    some zero n = absurd (n refl)
    some (suc i) n = omega arith

some_length : (t : Bytes) → (length t ≡ 0 → ⊥) → 0 < length t
some_length [] n = absurd (n refl)
some_length (b ∷ t) n = omega arith

filled : (a b : Bool) → a ≡ true → (not a || b) ≡ true → b ≡ true
filled true b e h = h
filled false b e h = absurd (false≢true e)

-- one of a list

map_at : {A B : Type 0} (f : A → B) (xs : List A) (k : ℕ) (d : A) (e : B) → k < length xs → get_or (map f xs) k e ≡ f (get_or xs k d)
map_at f [] k d e h = absurd (omega arith)
map_at f (x ∷ xs) zero d e h = refl
map_at f (x ∷ xs) (suc k) d e h = map_at f xs k d e (omega arith)

pub every_at : {A : Type 0} {Q : A → Type 0} {xs : List A} → Every Q xs → (k : ℕ) (d : A) → k < length xs → Q (get_or xs k d)
every_at none_left k d h = absurd (omega arith)
every_at (one_more q qs) zero d h = q
every_at (one_more q qs) (suc k) d h = every_at qs k d (omega arith)

every_change : {A : Type 0} {Q : A → Type 0} (g : A → A) {xs : List A} → Every Q xs → (k : ℕ) (d : A) → k < length xs → Q (g (get_or xs k d)) → Every Q (change g k xs)
unfolding change
every_change g none_left k d h p = absurd (omega arith)
every_change g (one_more q qs) zero d h p = one_more p qs
every_change g (one_more q qs) (suc k) d h p = one_more q (every_change g qs k d (omega arith) p)

pairs_self : {A : Type 0} {R : A → A → Type 0} {Q : A → Type 0} → ((x : A) → Q x → R x x) → {xs : List A} → Every Q xs → Pairs R xs xs
pairs_self f none_left = no_pair
pairs_self f (one_more {x} q qs) = a_pair (f x q) (pairs_self f qs)

pairs_change : {A : Type 0} {R : A → A → Type 0} {Q : A → Type 0} (g : A → A) → ((x : A) → Q x → R x x) → {xs : List A} → Every Q xs → (k : ℕ) (d : A) → k < length xs →
    R (get_or xs k d) (g (get_or xs k d)) → Pairs R xs (change g k xs)
unfolding change
pairs_change g f none_left k d h p = absurd (omega arith)
pairs_change g f (one_more q qs) zero d h p = a_pair p (pairs_self f qs)
pairs_change g f (one_more {x} q qs) (suc k) d h p = a_pair (f x q) (pairs_change g f qs k d (omega arith) p)

-- one record

module _ (latin : Bool) (t : Bytes) (some : 0 < length t) (small : length t ≤ 40) (ok : all (allowed latin) t ≡ true) (own : unpadded t ≡ t) where
  abbrev given : Datum → Datum
  given v = words O.Suggestion t

  fill_fit : {cs : List Named} {vs : Record} → FitAll latin cs vs → only_texts cs ≡ true → (k : ℕ) → (get_or cs k no_column).column.fillable ≡ true →
      FitAll latin cs (change given k vs)
  unfolding change only_texts
  fill_fit no_value h k e = no_value
  fill_fit (a_value {c} {cs} f fs) h zero e =
      let x : (c.column.text && leb 40 c.column.hi) ≡ true =
      filled c.column.fillable (c.column.text && leb 40 c.column.hi) e (and_left (not c.column.fillable || (c.column.text && leb 40 c.column.hi)) (only_texts cs) h) in
      let z : length t ≤ c.column.hi = omega (arith, leb-true 40 c.column.hi (and_right c.column.text (leb 40 c.column.hi) x)) in
      a_value (a_suggestion (and_left c.column.text (leb 40 c.column.hi) x) e some z ok own) fs
  fill_fit (a_value {c} {cs} f fs) h (suc k) e =
      a_value f (fill_fit fs (and_right (not c.column.fillable || (c.column.text && leb 40 c.column.hi)) (only_texts cs) h) k e)

  fill_alike : {cs : List Named} {vs : Record} → FitAll latin cs vs → (k : ℕ) → (get_or cs k no_column).column.fillable ≡ true → Alike cs vs (change given k vs)
  unfolding change
  fill_alike no_value k e = alike_none
  fill_alike (a_value f fs) zero e = alike_text e (alike_self latin fs)
  fill_alike (a_value f fs) (suc k) e = alike_same (fill_alike fs k e)

  module _ (u : ℕ) (r f : ℕ) where
    fill_record_sound : {vs : Record} → SoundRecord latin u vs → (get_or (columns u) (f - 1) no_column).column.fillable ≡ true → SoundRecord latin u (fill_record f t vs)
    unfolding fill_record
    fill_record_sound s e = sound_alike latin u s (fill_fit s.fit (settled u).texts (f - 1) e) (fill_alike s.fit (f - 1) e)

    fill_record_alike : {vs : Record} → SoundRecord latin u vs → (get_or (columns u) (f - 1) no_column).column.fillable ≡ true → Alike (columns u) vs (fill_record f t vs)
    unfolding fill_record
    fill_record_alike s e = fill_alike s.fit (f - 1) e

  module _ (c : Content) (s : SoundContent latin c) (r f : ℕ) (p : 0 < r) (h : r ≤ length c.records) (e : (get_or (columns c.table) (f - 1) no_column).column.fillable ≡ true) where
    the_record : SoundRecord latin c.table (get_or c.records (r - 1) [])
    the_record = every_at s.records (r - 1) [] (omega arith)

    fill_content_sound : SoundContent latin (fill_content r f t c)
    unfolding fill_content
    fill_content_sound =
        record { known = s.known; records = every_change (fill_record f t) s.records (r - 1) [] (omega arith) (fill_record_sound c.table r f the_record e) }

    fill_content_alike : AlikeContent c (fill_content r f t c)
    unfolding fill_content
    fill_content_alike =
        record {
          table = refl;
          records = pairs_change (fill_record f t) (λ x q. alike_self latin q.fit) s.records (r - 1) [] (omega arith) (fill_record_alike c.table r f the_record e);
        }

content_self : (latin : Bool) (c : Content) → SoundContent latin c → AlikeContent c c
content_self latin c s = record { table = refl; records = pairs_self (λ x q. alike_self latin q.fit) s.records }

-- a fill that nothing refuses, of a text without the spaces at its end
module _ (s : Bytes) (i r f : ℕ) (sent : Bytes) (h : (fill_refusal s i r f (unpadded sent)).number ≡ 0) where
  abbrev t : Bytes
  t = unpadded sent

  abbrev the_table : ℕ
  the_table = table_index (section_at s i).lines

  record Open : Type 0 where
    file : (file_refusal s).number ≡ 0
    place : fill_place s i r f ≡ false
    may : (column_at the_table (f - 1)).fillable ≡ true
    blank : empty_datum (datum_at i r f (model_of s)) ≡ true
    some : 0 < length t
    ok : all (allowed (latin_of s)) t ≡ true
    small : length t ≤ 40

  all_open : Open
  unfolding fill_refusal
  all_open =
      let a = earlier_none (file_refusal s) _ h in
      let b = earlier_none (refuse_if (fill_place s i r f) 24) _ a.1 in
      let c = earlier_none (refuse_if (not (column_at the_table (f - 1)).fillable) 23) _ b.1 in
      let d = earlier_none (refuse_if (not (empty_datum (datum_at i r f (model_of s)))) 22) _ c.1 in
      let e = earlier_none (refuse_if (eqb (length t) 0) 11) _ d.1 in
      let g = earlier_none (refuse_if (not (all (allowed (latin_of s)) t)) 4) (refuse_if (ltb 40 (length t)) 13) e.1 in
      record {
        file = a.0;
        place = open_if (fill_place s i r f) 24 (λ (z : 24 ≡ 0). omega arith) b.0;
        may = not-false (column_at the_table (f - 1)).fillable (open_if (not (column_at the_table (f - 1)).fillable) 23 (λ (z : 23 ≡ 0). omega arith) c.0);
        blank = not-false (empty_datum (datum_at i r f (model_of s))) (open_if (not (empty_datum (datum_at i r f (model_of s)))) 22 (λ (z : 22 ≡ 0). omega arith) d.0);
        some = some_length t (eqb-false (length t) 0 (open_if (eqb (length t) 0) 11 (λ (z : 11 ≡ 0). omega arith) e.0));
        ok = not-false (all (allowed (latin_of s)) t) (open_if (not (all (allowed (latin_of s)) t)) 4 (λ (z : 4 ≡ 0). omega arith) g.0);
        small = ltb-false 40 (length t) (open_if (ltb 40 (length t)) 13 (λ (z : 13 ≡ 0). omega arith) g.1);
      }

  places : (0 < i) × (i ≤ length (sections s)) × (0 < r) × (r ≤ (row_at s i).records) × (0 < f) × (f ≤ width the_table)
  unfolding fill_place
  places =
      let a = neither (outside i (length (sections s)) || outside r (row_at s i).records) (outside f (width the_table)) all_open.place in
      let b = neither (outside i (length (sections s))) (outside r (row_at s i).records) a.0 in
      let x = inside i (length (sections s)) b.0 in
      let y = inside r (row_at s i).records b.1 in
      let z = inside f (width the_table) a.1 in
      (x.0, x.1, y.0, y.1, z.0, z.1)

  abbrev content_here : Content
  content_here = get_or (model_of s).tables (i - 1) no_content

  tables_count : length (model_of s).tables ≡ length (sections s)
  unfolding model_of
  tables_count = length-map (sections s) (content_of (latin_of s))

  i_within : i - 1 < length (model_of s).tables
  i_within = omega (arith, tables_count, places)

  content_is : content_here ≡ content_of (latin_of s) (section_at s i)
  unfolding model_of section_at
  content_is = map_at (content_of (latin_of s)) (sections s) (i - 1) no_section no_content (omega (arith, places))

  table_is : content_here.table ≡ the_table
  unfolding content_of
  table_is = ap (λ (c : Content). c.table) content_is

  -- as many records as the row says
  records_are : length content_here.records ≡ (row_at s i).records
  unfolding content_of row_at row_of row_given
  records_are = ap (λ (c : Content). length c.records) content_is ∙ sym (count_handed (latin_of s) (section_at s i).lines)

  r_within : r ≤ length content_here.records
  r_within = omega (arith, records_are, places)

  latin_is : (model_of s).head.latin ≡ latin_of s
  unfolding model_of head_values latin_of
  latin_is = refl

  sound_model : SoundModel (model_of s)
  sound_model = accepted_model s all_open.file

  content_sound : SoundContent (latin_of s) content_here
  content_sound = every_at (rw latin_is at sound_model.tables) (i - 1) no_content i_within

  may_here : (get_or (columns content_here.table) (f - 1) no_column).column.fillable ≡ true
  unfolding column_at
  may_here = rw table_is all_open.may

  abbrev filled_model : Model
  filled_model = fill_model i r f t (model_of s)

  filled_content : SoundContent (latin_of s) (fill_content r f t content_here)
  filled_content = fill_content_sound (latin_of s) t all_open.some all_open.small all_open.ok (unpadded_once sent) content_here content_sound r f places.2 r_within may_here

  pub filled_sound : SoundModel filled_model
  unfolding fill_model
  filled_sound =
      record {
        head = sound_model.head;
        tables = rw latin_is (every_change (fill_content r f t) (rw latin_is at sound_model.tables) (i - 1) no_content i_within filled_content);
      }

  pub filled_keys : KeysHold filled_model.tables
  unfolding fill_model
  filled_keys =
      keys_alike
      (pairs_change (fill_content r f t) (content_self (latin_of s)) (rw latin_is at sound_model.tables) (i - 1) no_content i_within
      (fill_content_alike (latin_of s) t all_open.some all_open.small all_open.ok (unpadded_once sent) content_here content_sound r f places.2 r_within may_here))
      (accepted_keys s all_open.file)

  -- how many values the record has
  f_within : f ≤ length (get_or content_here.records (r - 1) [])
  unfolding width
  f_within =
      let v = every_at content_sound.records (r - 1) [] (omega (arith, places, r_within)) in
      let w : width the_table ≡ length (columns content_here.table) = rw table_is in
      omega (arith, places, w, width_back (latin_of s) v.fit)

  -- the field was an empty text before
  pub fill_was_empty : empty_datum (datum_at i r f (model_of s)) ≡ true
  fill_was_empty = all_open.blank

  -- a field counts from 1, and holds the given text
  pub fill_field : 0 < f
  fill_field = places.4

  pub fill_put : datum_at i r f filled_model ≡ words O.Suggestion t
  fill_put = fill_here i r f t (model_of s) places.0 (omega (arith, tables_count, places)) places.2 r_within places.4 f_within

  -- however the lines end
  module _ (ends : LineEnd) (short : length (form_of ends filled_model) ≤ limit) where
    pub any_fill_accepted : file_refusal (form_of ends filled_model) ≡ sound
    any_fill_accepted = form_sound ends filled_model filled_sound short filled_keys

    pub any_fill_model : model_of (form_of ends filled_model) ≡ filled_model
    any_fill_model = form_model ends filled_model filled_sound short

  module _ (short : length (fill_form s i r f t) ≤ limit) where
    pub fill_accepted : file_refusal (fill_form s i r f t) ≡ sound
    unfolding fill_form form_by changed kept
    fill_accepted = any_fill_accepted E.Lf short

    pub fill_model_back : model_of (fill_form s i r f t) ≡ fill_model i r f t (model_of s)
    unfolding fill_form form_by changed kept
    fill_model_back = any_fill_model E.Lf short

    -- read again, the field holds the given text, and a mark stands before its record
    pub fill_read : datum_at i r f (model_of (fill_form s i r f t)) ≡ words O.Suggestion t
    fill_read = rw fill_model_back fill_put

    pub fill_written : write_form (fill_form s i r f t) ≡ fill_form s i r f t
    unfolding fill_form write_form form_by changed kept
    fill_written = ap (form_of E.Lf) fill_model_back

    -- and every other value is as it was
    pub fill_else : (j q g : ℕ) → 0 < j → 0 < q → 0 < g → ¬ ((j ≡ i) × (q ≡ r) × (g ≡ f)) → datum_at j q g (model_of (fill_form s i r f t)) ≡ datum_at j q g (model_of s)
    fill_else j q g a b c n = rw fill_model_back (by (eqb j i) (eqb q r) (eqb g f) refl refl refl)
      where
        by : (x y z : Bool) → eqb j i ≡ x → eqb q r ≡ y → eqb g f ≡ z → datum_at j q g (fill_model i r f t (model_of s)) ≡ datum_at j q g (model_of s)
        by false y z d e k = fill_other_section i r f t (model_of s) j q g places.0 a (eqb-false j i d)
        by true false z d e k =
            rw (eqb-true j i d)
            (fill_other_record i r f t (model_of s) q g places.0 (omega (arith, tables_count, places)) places.2 b (eqb-false q r e))
        by true true false d e k =
            rw (eqb-true j i d, eqb-true q r e)
            (fill_other_field i r f t (model_of s) g places.0 (omega (arith, tables_count, places)) places.2 r_within places.4 c (eqb-false g f k))
        by true true true d e k = absurd (n (eqb-true j i d, eqb-true q r e, eqb-true g f k))
