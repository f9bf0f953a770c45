-- What is put for one field and one mark of a record, and how the marks and fields go on column by column. Assumes nothing.
use mathlib.Core.Path.{◌≡◌, refl, ap, sym, ◌∙◌}
use mathlib.Core.Bool.{Bool, true, false, ◌&&◌, false≢true}
use mathlib.Core.List.{List, [], ◌∷◌, ◌++◌}
use Prim.Native.Nat.{ℕ, suc, ◌+◌, ◌<◌, ◌≤◌}
use native.Mathlib.Numerals.{add-one}
use native.Mathlib.Omega.{arith}
use borrow.Author.Tests.{eq-eqb, ne_eqb}
use lib.Dec.{eqb}
use lib.ListN.{length, get_or, drop, drop_of_length-le}
use lib.Seq.{drop-cons}
use Rattle.page.specs.Bytes.{Bytes, bytes, pick}
use Rattle.page.specs.Fields.{number_of}
use Rattle.page.specs.Tables.{Named, no_column, columns, column_at, width}
use Rattle.page.specs.Order.{Order, arranged, standing, place, by_column}
use Rattle.page.specs.Marks.{owner_of}
use Rattle.page.specs.Section.{record_text, left_out, field_of, field_number, first_wrong, amount}
use Rattle.page.specs.Records.{Datum, number, missing, words, own_bytes, datum_of}
use Rattle.page.specs.Model.{strip_datum}
use Rattle.page.specs.Form.{doubled, quoted, decimal, datum_text, mark_line}
use Rattle.page.specs.declared.LineEnd.{LineEnd}
use Rattle.page.specs.declared.Owner.TheVariants as O
use Rattle.page.specs.declared.Column.{Column}
use Rattle.page.proofs.OrderLaws.{arranged_long, place_in, standing_length, standing_column, by_column_length, by_column_at, none_wrong}
use Rattle.copies.specs.Changed.{changed_datum}
use Rattle.copies.specs.Parts.{marked_by, mark_by, marks_form, datum_by, fields_form}

-- is a column marked?

module _ (strip : Bool) (f m i : ℕ) (c : Column) where
  pub mark_put : (ends : LineEnd) (b : Bool) → b ≡ marked_by strip f m i c → b ≡ true → mark_line ends i ≡ mark_by ends strip f m i c
  unfolding mark_by
  mark_put ends b x y = rw (sym x ∙ y)

  pub mark_left : (ends : LineEnd) (b : Bool) → b ≡ marked_by strip f m i c → b ≡ false → [] ≡ mark_by ends strip f m i c
  unfolding mark_by
  mark_left ends b x y = rw (sym x ∙ y)

-- what is put for a field

module _ (strip : Bool) (f m i : ℕ) (t : Bytes) (c : Column) (w : Bytes) where
  pub field_filled : f ≡ i → quoted t ≡ datum_text (datum_by strip f t m i c w)
  unfolding datum_by changed_datum datum_text
  field_filled e = rw (eq-eqb f i e)

  module _ (n : f ≡ i → ⊥) where
    pub field_amount : c.text ≡ false → left_out c.optional w ≡ false → (a : ℕ) → a ≡ amount (number_of w)
        → decimal a ≡ datum_text (datum_by strip f t m i c w)
    unfolding datum_by changed_datum datum_text datum_of strip_datum
    field_amount x l a e = rw (ne_eqb f i n, x, l, e) (by strip)
      where
        by : (s : Bool) → decimal (amount (number_of w)) ≡ datum_text (pick s (strip_datum (number (amount (number_of w)))) (number (amount (number_of w))))
        by true = refl
        by false = refl

    pub field_missing : c.text ≡ false → left_out c.optional w ≡ true → [] ≡ datum_text (datum_by strip f t m i c w)
    unfolding datum_by changed_datum datum_text datum_of strip_datum
    field_missing x l = rw (ne_eqb f i n, x, l) (by strip)
      where
        by : (s : Bool) → [] ≡ datum_text (pick s (strip_datum missing) missing)
        by true = refl
        by false = refl

    field_stripped : c.text ≡ true → (b : Bool) → b ≡ (strip && eqb m i) → b ≡ true → 34 ∷ 34 ∷ [] ≡ datum_text (datum_by strip f t m i c w)
    unfolding datum_by changed_datum datum_text datum_of strip_datum owner_of quoted doubled
    field_stripped x b e y = rw (ne_eqb f i n, x) (by strip (eqb m i) (sym e ∙ y))
      where
        by : (s d : Bool) → (s && d) ≡ true
            → 34 ∷ 34 ∷ [] ≡ datum_text (pick s (strip_datum (words (pick d O.Suggestion O.Operator) (own_bytes (record_text w)))) (words (pick d O.Suggestion O.Operator) (own_bytes (record_text w))))
        by true true z = refl
        by true false z = absurd (let q : ◌≡◌ {A = ℕ} 0 1 = cc in omega arith)
        by false d z = absurd (let q : ◌≡◌ {A = ℕ} 0 1 = cc in omega arith)

    pub datum_kept : (b : Bool) → b ≡ (strip && eqb m i) → b ≡ false → datum_of (owner_of m i) c w ≡ datum_by strip f t m i c w
    unfolding datum_by changed_datum datum_of strip_datum owner_of
    datum_kept b e y = rw (ne_eqb f i n) (by strip (eqb m i) c.text (left_out c.optional w) (sym e ∙ y))
      where
        kept : Bool → Bool → Bool → Datum
        kept d x l = pick x (words (pick d O.Suggestion O.Operator) (own_bytes (record_text w))) (pick l missing (number (amount (number_of w))))

        by : (s d x l : Bool) → (s && d) ≡ false → kept d x l ≡ pick s (strip_datum (kept d x l)) (kept d x l)
        by true true x l z = absurd (false≢true (sym z))
        by true false true l z = refl
        by true false false true z = refl
        by true false false false z = refl
        by false d x l z = refl

    field_words : c.text ≡ true → (b : Bool) → b ≡ (strip && eqb m i) → b ≡ false → quoted (own_bytes (record_text w)) ≡ datum_text (datum_by strip f t m i c w)
    unfolding datum_text datum_of
    field_words x b e y =
        let z : quoted (own_bytes (record_text w)) ≡ datum_text (datum_of (owner_of m i) c w) = rw x in
        z ∙ ap datum_text (datum_kept b e y)

    pub field_text : c.text ≡ true → (raw : Bytes) → raw ≡ quoted (own_bytes (record_text w)) → (b : Bool) → b ≡ (strip && eqb m i)
        → pick b (34 ∷ 34 ∷ []) raw ≡ datum_text (datum_by strip f t m i c w)
    field_text x raw r true e = field_stripped x true e refl
    field_text x raw r false e = r ∙ field_words x false e refl

-- column by column

columns_cons : (t k : ℕ) → k < width t → drop k (columns t) ≡ get_or (columns t) k no_column ∷ drop (k + 1) (columns t)
unfolding width
columns_cons t k h = rw (add-one, drop-cons (columns t) k no_column h)

columns_done : (t k : ℕ) → width t ≤ k → drop k (columns t) ≡ []
unfolding width
columns_done t k h = drop_of_length-le (columns t) h

marks_step : (ends : LineEnd) (strip : Bool) (f m i j : ℕ) (cs rest : List Named) (c : Named) → cs ≡ c ∷ rest → j ≡ suc i
    → marks_form ends strip f m i cs ≡ mark_by ends strip f m i c.column ++ marks_form ends strip f m j rest
unfolding marks_form
marks_step ends strip f m i j cs rest c e n = rw (e, n)

module _ (ends : LineEnd) (strip : Bool) (f m t k : ℕ) where
  pub marks_more : k < width t → marks_form ends strip f m (k + 1) (drop k (columns t))
      ≡ mark_by ends strip f m (k + 1) (column_at t k) ++ marks_form ends strip f m (k + 1 + 1) (drop (k + 1) (columns t))
  unfolding column_at
  marks_more h =
      marks_step ends strip f m (k + 1) (k + 1 + 1) (drop k (columns t)) (drop (k + 1) (columns t)) (get_or (columns t) k no_column) (columns_cons t k h) (omega arith)

  pub marks_end : width t ≤ k → marks_form ends strip f m (k + 1) (drop k (columns t)) ≡ []
  unfolding marks_form
  marks_end h = rw (columns_done t k h)

-- the fields by column, where the column at each place is one of the order's

pub fields_cons : (o : Order) (ws : List Bytes) (k : ℕ) → k < length o → drop k (by_column o ws) ≡ get_or ws (place k o) [] ∷ drop (k + 1) (by_column o ws)
fields_cons o ws k h =
    let n : k < length (by_column o ws) = omega (arith, by_column_length o ws) in
    rw (add-one, drop-cons (by_column o ws) k [] n, by_column_at o ws k h)

fields_step : (strip : Bool) (f : ℕ) (x : Bytes) (m i j : ℕ) (cs rest : List Named) (c : Named) (ws r : List Bytes) (w : Bytes)
    → cs ≡ c ∷ rest → ws ≡ w ∷ r → j ≡ suc i
    → fields_form strip f x m i cs ws ≡ (bytes "; " ++ datum_text (datum_by strip f x m i c.column w)) ++ fields_form strip f x m j rest r
unfolding fields_form
fields_step strip f x m i j cs rest c ws r w e v n = rw (e, v, n)

module _ (strip : Bool) (f : ℕ) (x : Bytes) (m t k : ℕ) (o : Order) (ws : List Bytes) where
  pub fields_more : k < width t → k < length o → (w : Bytes) → w ≡ get_or ws (place k o) []
      → fields_form strip f x m (k + 1) (drop k (columns t)) (drop k (by_column o ws))
      ≡ (bytes "; " ++ datum_text (datum_by strip f x m (k + 1) (column_at t k) w)) ++ fields_form strip f x m (k + 1 + 1) (drop (k + 1) (columns t)) (drop (k + 1) (by_column o ws))
  unfolding column_at
  fields_more h l w e =
      fields_step strip f x m (k + 1) (k + 1 + 1) (drop k (columns t)) (drop (k + 1) (columns t)) (get_or (columns t) k no_column)
      (drop k (by_column o ws)) (drop (k + 1) (by_column o ws)) w
      (columns_cons t k h) (fields_cons o ws k l ∙ ap (λ (y : Bytes). y ∷ drop (k + 1) (by_column o ws)) (sym e)) (omega arith)

  pub fields_end : width t ≤ k → fields_form strip f x m (k + 1) (drop k (columns t)) (drop k (by_column o ws)) ≡ []
  unfolding fields_form
  fields_end h = rw (columns_done t k h)

-- no field of a record that passed is wrong for the column that stands there

pub column_sound : (t : ℕ) (o : Order) (ws : List Bytes) → arranged (width t) o ≡ true → length ws ≡ width t → first_wrong (standing t o) ws ≡ 0
    → (k : ℕ) → k < width t → field_number (field_of (column_at t k) (get_or ws (place k o) [])) ≡ 0
column_sound t o ws a n e k h =
    let l = place_in (width t) o a k h in
    let m = arranged_long (width t) o a in
    let x = none_wrong (standing t o) ws e (place k o) (omega (arith, standing_length t o)) (omega arith) in
    rw (standing_column t o (place k o) l.0, l.1) at x
