-- Each number of a fill, exactly: "Order: verdict, 24, 23, 22, text empty 11, text byte not allowed in a `rec` 4, over 40 bytes 13, 21."
-- Assumes nothing.
use Rattle.std.specs.Prelude.{Err}
use mathlib.Core.Path.{◌≡◌, refl, ap, sym, ◌∙◌}
use mathlib.Core.Bool.{Bool, true, false, not, ◌||◌, false≢true}
use mathlib.Core.List.{List, [], ◌∷◌}
use mathlib.Core.Logic.{◌⊎◌, inl, inr, ◌↔◌}
use Prim.Native.Nat.{ℕ, ◌-◌, ◌<◌}
use native.Mathlib.Omega.{arith}
use lib.Dec.{eqb, ltb}
use lib.ListN.{length}
use borrow.Author.Tests.{ne_eqb}
use Rattle.page.specs.Bytes.{Bytes, pick, all, unpadded}
use Rattle.page.specs.Lines.{allowed}
use Rattle.page.specs.Tables.{column_at, width}
use Rattle.page.specs.Cut.{sections}
use Rattle.page.specs.Head.{latin_of}
use Rattle.page.specs.Records.{Datum, number, missing, words, table_index}
use Rattle.page.specs.Model.{model_of, datum_at}
use Rattle.page.specs.Answers.{refusal, sound, earlier, refuse_if}
use Rattle.page.specs.File.{limit, any, file_refusal}
use Rattle.page.specs.Reading.{section_at, row_at}
use Rattle.page.specs.Writing.{put_refusal, put_of, empty_datum, fill_place, fill_refusal, fill_form, fill_of}
use Rattle.page.specs.Rules.{none_left, one_more}
use Rattle.page.specs.Refusals.{section_numbers, file_numbers, gives, OneOf}
use Rattle.page.specs.declared.Refusal.{Refusal}
use Rattle.page.specs.declared.Owner.{Owner}
use Rattle.calls.specs.Turns.{Question, ask, first_refusal, Turn, Outside, fill_questions}
use Rattle.laws.proofs.Decides.{Decides, fails, one_of, when, equal, below}
use Rattle.laws.proofs.Tests.{is_d}
use Rattle.calls.proofs.PromisesRoom.{TooLong}
use Rattle.calls.proofs.Turns.{Numbered, earlier_exactly, after_exactly, turn_now, turn_next, turn_past, turned, via, second, outside_d}
use Rattle.calls.proofs.CallAnswers.{some_number, answered_exactly}
use Rattle.calls.proofs.CallNumbers.{file_other}

-- asked in one row

earlier_again : (a b c : Refusal) → earlier (earlier a b) c ≡ earlier a (earlier b c)
unfolding earlier
earlier_again a b c = by (eqb a.number 0) refl
  where
    by : (x : Bool) → eqb a.number 0 ≡ x → pick (eqb (pick x b a).number 0) c (pick x b a) ≡ pick x (pick (eqb b.number 0) c b) a
    by true h = refl
    by false h = rw h

last_alone : (b : Bool) (v : ℕ) → ¬ (v ≡ 0) → earlier (refuse_if b v) sound ≡ refuse_if b v
unfolding earlier refuse_if
last_alone true v z = rw (ne_eqb v 0 z)
last_alone false v z = refl

no_bytes : (t : Bytes) → length t ≡ 0 → t ≡ []
no_bytes [] e = refl
no_bytes (b ∷ t) e = absurd (omega arith)

nothing_d : (t : Bytes) → Decides (t ≡ []) (eqb (length t) 0)
nothing_d t = when (no_bytes t) (λ e. rw e) (equal (length t) 0)

-- the conditions

-- no such section, record or field
abbrev pub NoPlace : Bytes → ℕ → ℕ → ℕ → Type 0
NoPlace s i r f = (Outside i (length (sections s)) ⊎ Outside r (row_at s i).records) ⊎ Outside f (width (table_index (section_at s i).lines))

-- a field that may be filled
abbrev pub MayFill : Bytes → ℕ → ℕ → Type 0
MayFill s i f = (column_at (table_index (section_at s i).lines) (f - 1)).fillable ≡ true

-- an empty text stands there
abbrev pub IsEmpty : Bytes → ℕ → ℕ → ℕ → Type 0
IsEmpty s i r f = (o : Owner) × (datum_at i r f (model_of s) ≡ words o [])

-- the field is there, may be filled and is empty, and what else
abbrev pub Blank : Bytes → ℕ → ℕ → ℕ → Type 0 → Type 0
Blank s i r f what = (¬ NoPlace s i r f) × (MayFill s i f × (IsEmpty s i r f × what))

-- every byte of the text may stand in a `rec`
abbrev pub IsAllowed : Bytes → Bytes → Type 0
IsAllowed s t = all (allowed (latin_of s)) t ≡ true

-- "a fill's text is trimmed likewise": t is what is left of the text that was sent
module _ (s : Bytes) (i r f : ℕ) (sent : Bytes) (room : ℕ) where
  abbrev t : Bytes
  t = unpadded sent

  in_order : put_refusal (fill_refusal s i r f t) (fill_form s i r f t) room ≡ earlier (file_refusal s) (first_refusal (fill_questions s i r f t room))
  unfolding put_refusal fill_refusal first_refusal fill_questions
  in_order =
      simp earlier_again
      (rw (last_alone (ltb room (length (fill_form s i r f t)) || ltb limit (length (fill_form s i r f t))) 21 (some_number 21 (omega arith))))

  numbers : Numbered (fill_questions s i r f t room)
  unfolding fill_questions
  numbers =
      one_more (some_number 24 (omega arith))
      (one_more (some_number 23 (omega arith))
      (one_more (some_number 22 (omega arith))
      (one_more (some_number 11 (omega arith))
      (one_more (some_number 4 (omega arith))
      (one_more (some_number 13 (omega arith)) (one_more (some_number 21 (omega arith)) none_left))))))

  -- the file's verdict, if it has one; else the first of the seven that refuses
  pub fill_exactly : (x : Refusal) → ¬ (x.number ≡ 0) →
      fill_of s i r f sent room ≡ Err x ↔ ((file_refusal s ≡ x) ⊎ (((file_refusal s).number ≡ 0) × (first_refusal (fill_questions s i r f t room) ≡ x)))
  unfolding fill_of put_of
  fill_exactly x z =
      via (answered_exactly (put_refusal (fill_refusal s i r f t) (fill_form s i r f t) room) x z (length (fill_form s i r f t)))
      (via (λ e. sym in_order ∙ e, λ e. in_order ∙ e) (earlier_exactly (file_refusal s) (first_refusal (fill_questions s i r f t room)) x z))

  -- one of the seven, by its turn
  pub fill_turn : (v : ℕ) → OneOf section_numbers v ⊎ (gives file_numbers v ≡ false) → ¬ (v ≡ 0) →
      fill_of s i r f sent room ≡ Err (refusal v 0 0) ↔ (((file_refusal s).number ≡ 0) × Turn v (fill_questions s i r f t room))
  unfolding fill_of put_of
  fill_turn v w z =
      via (answered_exactly (put_refusal (fill_refusal s i r f t) (fill_form s i r f t) room) (refusal v 0 0) z (length (fill_form s i r f t)))
      (via (λ e. sym in_order ∙ e, λ e. in_order ∙ e) (after_exactly (file_refusal s) v z (file_other s v w z) numbers))

  place_d : Decides (NoPlace s i r f) (fill_place s i r f)
  unfolding fill_place
  place_d = one_of (one_of (outside_d i (length (sections s))) (outside_d r (row_at s i).records)) (outside_d f (width (table_index (section_at s i).lines)))

  empty_d : Decides (IsEmpty s i r f) (empty_datum (datum_at i r f (model_of s)))
  unfolding empty_datum
  empty_d = by (datum_at i r f (model_of s)) refl
    where
      by : (d : Datum) → datum_at i r f (model_of s) ≡ d → Decides (IsEmpty s i r f) (empty_datum d)
      by (number n) e = fails (λ h. let z : number n ≡ words h.0 [] = sym e ∙ h.1 in false≢true (cc))
      by missing e = fails (λ h. let z : missing ≡ words h.0 [] = sym e ∙ h.1 in false≢true (cc))
      by (words o u) e = when (λ (h : u ≡ []). (o, e ∙ ap (words o) h)) (λ h. let z : words o u ≡ words h.0 [] = sym e ∙ h.1 in cc) (nothing_d u)

  room_d : Decides (TooLong (fill_form s i r f t) room) (ltb room (length (fill_form s i r f t)) || ltb limit (length (fill_form s i r f t)))
  room_d = one_of (below room (length (fill_form s i r f t))) (below limit (length (fill_form s i r f t)))

  -- what is asked of the field, before the text
  of_field : {v : ℕ} {B : Type 0} {qs : List Question} → eqb 24 v ≡ false → eqb 23 v ≡ false → eqb 22 v ≡ false → Turn v qs ↔ B →
      Turn v
      (ask (fill_place s i r f) 24 ∷ ask (not (column_at (table_index (section_at s i).lines) (f - 1)).fillable) 23
      ∷ ask (not (empty_datum (datum_at i r f (model_of s)))) 22 ∷ qs) ↔ Blank s i r f B
  of_field a b c q = turn_next place_d a (turn_past (is_d (column_at (table_index (section_at s i).lines) (f - 1)).fillable) b (turn_past empty_d c q))

  -- 24: "no such section, record or field"
  pub fill_24 : fill_of s i r f sent room ≡ Err (refusal 24 0 0) ↔ (((file_refusal s).number ≡ 0) × NoPlace s i r f)
  unfolding fill_questions any
  fill_24 = via (fill_turn 24 (inr refl) (some_number 24 (omega arith))) (second (turn_now place_d refl))

  -- 23: "field may not be filled"
  pub fill_23 : fill_of s i r f sent room ≡ Err (refusal 23 0 0) ↔ (((file_refusal s).number ≡ 0) × ((¬ NoPlace s i r f) × (¬ MayFill s i f)))
  unfolding fill_questions any
  fill_23 =
      via (fill_turn 23 (inr refl) (some_number 23 (omega arith)))
      (second (turn_next place_d refl (turn_now (turned (is_d (column_at (table_index (section_at s i).lines) (f - 1)).fillable)) refl)))

  -- 22: "field to fill is not empty"
  pub fill_22 : fill_of s i r f sent room ≡ Err (refusal 22 0 0) ↔ (((file_refusal s).number ≡ 0) × ((¬ NoPlace s i r f) × (MayFill s i f × (¬ IsEmpty s i r f))))
  unfolding fill_questions any
  fill_22 =
      via (fill_turn 22 (inr refl) (some_number 22 (omega arith)))
      (second (turn_next place_d refl (turn_past (is_d (column_at (table_index (section_at s i).lines) (f - 1)).fillable) refl (turn_now (turned empty_d) refl))))

  -- 11: "text empty"
  pub fill_11 : fill_of s i r f sent room ≡ Err (refusal 11 0 0) ↔ (((file_refusal s).number ≡ 0) × Blank s i r f (t ≡ []))
  unfolding fill_questions any
  fill_11 = via (fill_turn 11 (inl refl) (some_number 11 (omega arith))) (second (of_field refl refl refl (turn_now (nothing_d t) refl)))

  -- 4: "text byte not allowed in a `rec`"
  pub fill_4 : fill_of s i r f sent room ≡ Err (refusal 4 0 0) ↔ (((file_refusal s).number ≡ 0) × Blank s i r f ((¬ (t ≡ [])) × (¬ IsAllowed s t)))
  unfolding fill_questions any
  fill_4 =
      via (fill_turn 4 (inl refl) (some_number 4 (omega arith)))
      (second (of_field refl refl refl (turn_next (nothing_d t) refl (turn_now (turned (is_d (all (allowed (latin_of s)) t))) refl))))

  -- 13: "over 40 bytes"
  pub fill_13 : fill_of s i r f sent room ≡ Err (refusal 13 0 0) ↔ (((file_refusal s).number ≡ 0) × Blank s i r f ((¬ (t ≡ [])) × (IsAllowed s t × (40 < length t))))
  unfolding fill_questions any
  fill_13 =
      via (fill_turn 13 (inl refl) (some_number 13 (omega arith)))
      (second (of_field refl refl refl (turn_next (nothing_d t) refl (turn_past (is_d (all (allowed (latin_of s)) t)) refl (turn_now (below 40 (length t)) refl)))))

  -- 21: "the form is longer than the lent output or than 16,777,216 bytes"
  pub fill_21 : fill_of s i r f sent room ≡ Err (refusal 21 0 0) ↔
      (((file_refusal s).number ≡ 0) × Blank s i r f ((¬ (t ≡ [])) × (IsAllowed s t × ((¬ (40 < length t)) × TooLong (fill_form s i r f t) room))))
  unfolding fill_questions any
  fill_21 =
      via (fill_turn 21 (inr refl) (some_number 21 (omega arith)))
      (second (of_field refl refl refl
      (turn_next (nothing_d t) refl (turn_past (is_d (all (allowed (latin_of s)) t)) refl (turn_next (below 40 (length t)) refl (turn_now room_d refl))))))
