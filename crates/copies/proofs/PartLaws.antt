-- One changed record is its marks and its fields, column by column. Assumes nothing.
use mathlib.Core.Path.{◌≡◌, refl, ap, ◌∙◌}
use mathlib.Core.Bool.{Bool, true, false, not, ◌&&◌, ◌||◌}
use mathlib.Core.List.{List, [], ◌∷◌, ◌++◌, map, append_assoc}
use Prim.Native.Nat.{ℕ, suc, ◌-◌}
use native.Mathlib.Omega.{arith}
use borrow.Author.Tests.{eq-eqb, ne_eqb, eqb-true, eqb-false}
use lib.Dec.{eqb}
use lib.ListN.{length}
use Rattle.page.specs.Bytes.{Bytes, bytes, pick}
use Rattle.page.specs.Fields.{number_of}
use Rattle.page.specs.Tables.{Named}
use Rattle.page.specs.Marks.{owner_of}
use Rattle.page.specs.Section.{record_text, left_out, amount}
use Rattle.page.specs.Records.{number, missing, words, Record, own_bytes, datum_of, values_of}
use Rattle.page.specs.Model.{strip_datum}
use Rattle.page.specs.Form.{separated, line, line_end, datum_text, mark_line, mark_of, marks, record_form}
use Rattle.page.specs.declared.LineEnd.{LineEnd}
use Rattle.page.specs.declared.Owner.TheVariants as O
use Rattle.page.specs.declared.Column.{Column}
use Rattle.copies.specs.Changed.{changed_datum, changed_values}
use Rattle.copies.specs.Parts.{marked_by, mark_by, marks_form, datum_by, fields_form}

-- counting down to 1 is counting up to what is named
pub counted_down : (f k : ℕ) → eqb (f - k) 1 ≡ eqb f (suc k)
counted_down f k = by (eqb f (suc k)) refl
  where
    by : (b : Bool) → eqb f (suc k) ≡ b → eqb (f - k) 1 ≡ eqb f (suc k)
    by true e = let h : f ≡ suc k = eqb-true f (suc k) e in rw e (eq-eqb (f - k) 1 (omega arith))
    by false e = let h : f ≡ suc k → ⊥ = eqb-false f (suc k) e in rw e (ne_eqb (f - k) 1 (λ (z : f - k ≡ 1). h (omega arith)))

pub one_further : (f k : ℕ) → f - k - 1 ≡ f - suc k
one_further f k = omega arith

-- a value's mark
value_mark : (ends : LineEnd) (here strip text own none : Bool) (i : ℕ) (t u : Bytes) (n : ℕ)
    → mark_of ends i (changed_datum here strip t (pick text (words (pick own O.Suggestion O.Operator) u) (pick none missing (number n))))
    ≡ pick (here || (not strip && (own && text))) (mark_line ends i) []
unfolding mark_of changed_datum strip_datum
value_mark ends true strip text own none i t u n = refl
value_mark ends false true true true none i t u n = refl
value_mark ends false true true false none i t u n = refl
value_mark ends false true false own true i t u n = refl
value_mark ends false true false own false i t u n = refl
value_mark ends false false true true none i t u n = refl
value_mark ends false false true false none i t u n = refl
value_mark ends false false false true true i t u n = refl
value_mark ends false false false true false i t u n = refl
value_mark ends false false false false true i t u n = refl
value_mark ends false false false false false i t u n = refl

mark_is : (ends : LineEnd) (strip : Bool) (f m i : ℕ) (t : Bytes) (c : Column) (w : Bytes) → mark_of ends i (datum_by strip f t m i c w) ≡ mark_by ends strip f m i c
unfolding mark_by marked_by datum_by datum_of owner_of
mark_is ends strip f m i t c w =
    value_mark ends (eqb f i) strip c.text (eqb m i) (left_out c.optional w) i t (own_bytes (record_text w)) (amount (number_of w))

module _ (ends : LineEnd) (strip : Bool) (f m : ℕ) (t : Bytes) where
  abbrev values : ℕ → List Named → List Bytes → Record
  values k cs ws = changed_values strip (f - k) t (values_of m (suc k) cs ws)

  values_cons : (k : ℕ) (c : Named) (cs : List Named) (w : Bytes) (ws : List Bytes)
      → values k (c ∷ cs) (w ∷ ws) ≡ datum_by strip f t m (suc k) c.column w ∷ values (suc k) cs ws
  unfolding values_of changed_values datum_by
  values_cons k c cs w ws = rw (counted_down f k, one_further f k)

  marks_are : (k : ℕ) (cs : List Named) (ws : List Bytes) → length ws ≡ length cs → marks ends (suc k) (values k cs ws) ≡ marks_form ends strip f m (suc k) cs
  unfolding marks marks_form values_of changed_values
  marks_are k [] ws e = refl
  marks_are k (c ∷ cs) [] e = absurd (omega arith)
  marks_are k (c ∷ cs) (w ∷ ws) e =
      let n : length ws ≡ length cs = omega arith in
      ap (marks ends (suc k)) (values_cons k c cs w ws)
      ∙ rw (mark_is ends strip f m (suc k) t c.column w, marks_are (suc k) cs ws n)

  fields_are : (k : ℕ) (cs : List Named) (ws : List Bytes) → separated (map datum_text (values k cs ws)) ≡ fields_form strip f t m (suc k) cs ws
  unfolding separated fields_form values_of changed_values
  fields_are k [] ws = refl
  fields_are k (c ∷ cs) [] = refl
  fields_are k (c ∷ cs) (w ∷ ws) =
      ap (λ (vs : Record). separated (map datum_text vs)) (values_cons k c cs w ws)
      ∙ rw (fields_are (suc k) cs ws, append_assoc)

  pub record_is : (cs : List Named) (ws : List Bytes) → length ws ≡ length cs
      → marks_form ends strip f m 1 cs ++ (bytes "rec" ++ (fields_form strip f t m 1 cs ws ++ line_end ends))
      ≡ record_form ends (changed_values strip f t (values_of m 1 cs ws))
  unfolding record_form line
  record_is cs ws e =
      let z : f - 0 ≡ f = omega arith in
      let a : marks ends 1 (changed_values strip f t (values_of m 1 cs ws)) ≡ marks_form ends strip f m 1 cs = rw z at (marks_are 0 cs ws e) in
      let b : separated (map datum_text (changed_values strip f t (values_of m 1 cs ws))) ≡ fields_form strip f t m 1 cs ws = rw z at (fields_are 0 cs ws) in
      rw (a, b)
