-- What refuses a fill: of an accepted file the field's place, its column, its value, and the text. Assumes nothing.
use mathlib.Core.Path.{◌≡◌, refl, ap, sym, ◌∙◌}
use mathlib.Core.Bool.{Bool, true, false, not}
use mathlib.Core.List.{[], ◌∷◌}
use Prim.Native.Nat.{ℕ, ◌-◌, ◌<◌, ◌≤◌}
use native.Mathlib.Omega.{arith}
use borrow.Author.Tests.{eqb-true, eqb-false, eq-eqb, ne_eqb}
use lib.Dec.{eqb, ltb}
use lib.ListN.{length}
use Rattle.page.specs.Bytes.{Bytes, pick, all}
use Rattle.page.specs.Lines.{allowed}
use Rattle.page.specs.Fields.{quote}
use Rattle.page.specs.Tables.{column_at}
use Rattle.page.specs.Cut.{sections}
use Rattle.page.specs.Head.{latin_of}
use Rattle.page.specs.Records.{Datum, table_index}
use Rattle.page.specs.Model.{model_of, datum_at}
use Rattle.page.specs.Answers.{refusal, earlier, refuse_if}
use Rattle.page.specs.File.{header_refusal, row_given, row_of, file_refusal}
use Rattle.page.specs.Form.{doubled}
use Rattle.page.specs.Reading.{no_section, outside, section_at, row_at, find_refusal, verdict_of, value_refusal, value_at}
use Rattle.page.specs.Writing.{empty_datum, fill_place, fill_refusal}
use Rattle.page.specs.declared.Refusal.{Refusal}
use Rattle.page.specs.declared.Value.{Value}
use Rattle.page.proofs.ScanLaws.{part_length}
use Rattle.calls.specs.Handed.{StandsFor, a_number, no_number, a_text}
use Rattle.round.proofs.Round.{accepted_sections}
use Rattle.calls.proofs.CallNumbers.{value_given}
use Rattle.calls.proofs.Handed.{value_says}
use Rattle.lookups.proofs.LookupLaws.{inside}
use Rattle.texts.specs.Own.{Spans}
use Rattle.handing.proofs.PassLaws.{every_at}
use Rattle.handing.proofs.TextLaws.{value_spans}
use Rattle.fills.specs.Filling.{empty_value, text_number, fill_number}
use Rattle.laws.proofs.Earlier.{earlier_none}

-- an empty text has nothing between its quotes

doubled_none : (u : Bytes) → eqb (length (doubled u)) 0 ≡ eqb (length u) 0
unfolding doubled
doubled_none [] = refl
doubled_none (b ∷ u) = by (quote b)
  where
    by : (q : Bool) → eqb (length (pick q (b ∷ b ∷ doubled u) (b ∷ doubled u))) 0 ≡ eqb (length (b ∷ u)) 0
    by true = ne_eqb (length (b ∷ b ∷ doubled u)) 0 (λ (e : length (b ∷ b ∷ doubled u) ≡ 0). omega arith) ∙ sym (ne_eqb (length (b ∷ u)) 0 (λ (e : length (b ∷ u) ≡ 0). omega arith))
    by false = ne_eqb (length (b ∷ doubled u)) 0 (λ (e : length (b ∷ doubled u) ≡ 0). omega arith) ∙ sym (ne_eqb (length (b ∷ u)) 0 (λ (e : length (b ∷ u) ≡ 0). omega arith))

apart : (a b n : ℕ) → a ≤ b → n ≡ b - a → eqb a b ≡ eqb n 0
apart a b n h e = by (eqb n 0) refl
  where
    by : (q : Bool) → eqb n 0 ≡ q → eqb a b ≡ q
    by true x = let z = eqb-true n 0 x in eq-eqb a b (omega arith)
    by false x = let z = eqb-false n 0 x in ne_eqb a b (λ (y : a ≡ b). z (omega arith))

stands_empty : {s : Bytes} {v : Value} {d : Datum} → Spans s v → StandsFor s v d → empty_value v ≡ empty_datum d
unfolding empty_datum
stands_empty p a_number = refl
stands_empty p no_number = refl
stands_empty {s} p (a_text {x} {u} q) =
    let n = part_length x.from x.to s p.within in
    apart x.from x.to (length (doubled u)) p.order (sym (ap length q) ∙ n) ∙ doubled_none u

pub empty_is : (s : Bytes) (i r f : ℕ) → (value_refusal s i r f).number ≡ 0 → (v : Value) → v ≡ value_at (section_at s i) r f
    → empty_value v ≡ empty_datum (datum_at i r f (model_of s))
empty_is s i r f found v e =
    let x : StandsFor s v (datum_at i r f (model_of s)) = rw e (value_says s i r f ((value_given s i r f).0 found)) in
    stands_empty (value_spans s i r f found v e) x

-- a value that is there: its section is found, and its field counts from 1
pub asked_there : (s : Bytes) (i r f : ℕ) → (value_refusal s i r f).number ≡ 0 → ((find_refusal s i).number ≡ 0) × (0 < f)
unfolding value_refusal
asked_there s i r f found = ((earlier_none (find_refusal s i) _ found).0, ((value_given s i r f).0 found).field_there.0)

past : (a b : Refusal) → a.number ≡ 0 → b ≡ earlier a b
unfolding earlier
past a b e = rw e

-- the questions after the place's, one after another
asked : (c e n a l : Bool) → refusal (pick c (pick e (pick n 11 (pick a (pick l 13 0) 4)) 22) 23) 0 0
    ≡ earlier (refuse_if (not c) 23) (earlier (refuse_if (not e) 22) (earlier (refuse_if n 11) (earlier (refuse_if (not a) 4) (refuse_if l 13))))
unfolding earlier refuse_if
asked false e n a l = refl
asked true false n a l = refl
asked true true true a l = refl
asked true true false false l = refl
asked true true false true true = refl
asked true true false true false = refl

module _ (s : Bytes) (i r f : ℕ) (t : Bytes) where
  -- the file's verdict
  pub fill_unsound : (x : Refusal) → x ≡ file_refusal s → (x.number ≡ 0 → ⊥) → x ≡ fill_refusal s i r f t
  unfolding fill_refusal earlier
  fill_unsound x e n = rw (sym e, ne_eqb x.number 0 n)

  module _ (h : (file_refusal s).number ≡ 0) where
    opens : (header_refusal s).number ≡ 0
    unfolding file_refusal
    opens = (earlier_none (header_refusal s) _ h).0

    find_is : find_refusal s i ≡ refuse_if (outside i (length (sections s))) 24
    unfolding find_refusal earlier
    find_is = rw opens

    row_sound : outside i (length (sections s)) ≡ false → (row_at s i).verdict ≡ 0
    unfolding row_at row_of row_given section_at
    row_sound e =
        let k = inside i (length (sections s)) e in
        (every_at no_section (sections s) (i - 1) (accepted_sections s h) (omega arith)).verdict

    -- 24, of the section, the record or the field
    place_is : value_refusal s i r f ≡ refuse_if (fill_place s i r f) 24
    unfolding value_refusal fill_place verdict_of earlier refuse_if
    place_is = by (outside i (length (sections s))) refl
      where
        by : (b : Bool) → outside i (length (sections s)) ≡ b → value_refusal s i r f ≡ refuse_if (fill_place s i r f) 24
        by true e = rw (find_is, e)
        by false e = rw (find_is, e, row_sound e)

    pub fill_nowhere : (x : Refusal) → x ≡ value_refusal s i r f → (x.number ≡ 0 → ⊥) → x ≡ fill_refusal s i r f t
    unfolding fill_refusal earlier refuse_if
    fill_nowhere x e n = by (fill_place s i r f) refl
      where
        by : (b : Bool) → fill_place s i r f ≡ b → x ≡ fill_refusal s i r f t
        by true q = rw (h, q) (rw q at (e ∙ place_is))
        by false q = absurd (n (ap (λ (y : Refusal). y.number) (rw q at (e ∙ place_is))))

    pub fill_there : (value_refusal s i r f).number ≡ 0 → (v : Value) → v ≡ value_at (section_at s i) r f → (k : ℕ)
        → k ≡ fill_number (column_at (table_index (section_at s i).lines) (f - 1)).fillable (empty_value v) (latin_of s) t → refusal k 0 0 ≡ fill_refusal s i r f t
    unfolding fill_refusal fill_number text_number
    fill_there found v e k q =
        let c = (column_at (table_index (section_at s i).lines) (f - 1)).fillable in
        let d = empty_datum (datum_at i r f (model_of s)) in
        let p : (refuse_if (fill_place s i r f) 24).number ≡ 0 = sym (ap (λ (y : Refusal). y.number) place_is) ∙ found in
        rw (q, empty_is s i r f found v e)
        (asked c d (eqb (length t) 0) (all (allowed (latin_of s)) t) (ltb 40 (length t)) ∙ (past (refuse_if (fill_place s i r f) 24) _ p ∙ past (file_refusal s) _ h))
