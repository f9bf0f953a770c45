-- The pass over the sections writes page's rows. Assumes nothing.
use mathlib.Core.Path.{◌≡◌, refl, ap, sym, ◌∙◌}
use mathlib.Core.Bool.{Bool, true, false}
use mathlib.Core.List.{List, [], ◌∷◌, map}
use Prim.Native.Nat.{ℕ, zero, suc, ◌+◌, ◌<◌, ◌≤◌}
use native.Mathlib.Nat.{le_refl}
use native.Mathlib.Numerals.{add-one}
use native.Mathlib.Omega.{arith}
use borrow.Author.Tests.{ltb-false, eqb-true, eqb-false}
use lib.Dec.{eqb, ltb}
use lib.ListN.{length, take, drop, get_or, set, length-append, length-drop}
use lib.Seq.{length-take-le, take-suc, take-length, drop-cons, drop-drop, set_at, append_snoc}
use Rattle.page.specs.Bytes.{Bytes, pick}
use Rattle.page.specs.Cut.{Section, sections}
use Rattle.page.specs.Head.{latin_of}
use Rattle.page.specs.Answers.{refusal, sound, earlier, refuse_if}
use Rattle.page.specs.File.{header_refusal, row_of, rows_of, first_unsound}
use Rattle.page.specs.Reading.{no_section, list_refusal, rows_after}
use Rattle.page.specs.declared.Row.{Row}
use Rattle.page.specs.declared.Refusal.{Refusal}
use Rattle.cut.specs.Walk.{section_from}
use Rattle.cut.proofs.WalkLaws.{walk_here}
use Rattle.steps.specs.Steps.{Begins, first_place, stays, step_by, accepts, at_of, start_of}
use Rattle.steps.proofs.PlaceLaws.{begins_settled}
use Rattle.files.proofs.AnswerLaws.{unsound_sound}
use Rattle.rows.specs.Walk.{step_of, no_row, row_at, sound_at, step_at, filled}
use Rattle.rows.proofs.SectionLaws.{section_begins, section_rest}

map_length : (latin : Bool) (xs : List Section) → length (map (row_of latin) xs) ≡ length xs
map_length latin [] = refl
map_length latin (x ∷ xs) = ap suc (map_length latin xs)

map_at : (latin : Bool) (xs : List Section) (k : ℕ) → k < length xs → get_or (map (row_of latin) xs) k no_row ≡ row_of latin (get_or xs k no_section)
map_at latin [] k h = absurd (omega arith)
map_at latin (x ∷ xs) zero h = refl
map_at latin (x ∷ xs) (suc k) h = map_at latin xs k (omega arith)

-- "one row a section"
pub rows_length : (s : Bytes) → length (rows_of s) ≡ length (sections s)
unfolding rows_of
rows_length s = map_length (latin_of s) (sections s)

row_is : (s : Bytes) (k : ℕ) → k < length (sections s) → row_of (latin_of s) (get_or (sections s) k no_section) ≡ row_at s k
unfolding row_at rows_of
row_is s k h = sym (map_at (latin_of s) (sections s) k h)

first_of : (s : Bytes) (xs : List Section) (k : ℕ) → k < length xs → first_place s (drop k xs) ≡ (get_or xs k no_section).place
first_of s xs k h = rw (drop-cons xs k no_section h)

-- one section more is sound, or none is after it
unsound_more : (i k : ℕ) (rs : List Row) → k < length rs
    → stays (eqb (first_unsound i (take k rs)).number 0) (get_or rs k no_row).verdict ≡ eqb (first_unsound i (take (suc k) rs)).number 0
unfolding first_unsound stays
unsound_more i k [] h = absurd (omega arith)
unsound_more i zero (r ∷ rs) h = by (eqb r.verdict 0) refl
  where
    by : (b : Bool) → eqb r.verdict 0 ≡ b → pick b true false ≡ eqb (pick b sound (refusal r.verdict i r.line)).number 0
    by true e = refl
    by false e = sym e
unsound_more i (suc k) (r ∷ rs) h = by (eqb r.verdict 0) refl (unsound_more (suc i) k rs (omega arith))
  where
    none : (b : Bool) → pick b false false ≡ false
    none true = refl
    none false = refl

    by : (b : Bool) → eqb r.verdict 0 ≡ b
        → stays (eqb (first_unsound (suc i) (take k rs)).number 0) (get_or rs k no_row).verdict ≡ eqb (first_unsound (suc i) (take (suc k) rs)).number 0
        → pick (eqb (get_or rs k no_row).verdict 0) (eqb (pick b (first_unsound (suc i) (take k rs)) (refusal r.verdict i r.line)).number 0) false ≡ eqb (pick b (first_unsound (suc i) (take (suc k) rs)) (refusal r.verdict i r.line)).number 0
    by true e ih = ih
    by false e ih = rw e (none (eqb (get_or rs k no_row).verdict 0))

sound_more : (s : Bytes) (k : ℕ) → k < length (sections s) → stays (sound_at s k) (row_at s k).verdict ≡ sound_at s (k + 1)
unfolding sound_at row_at
sound_more s k h = rw add-one (unsound_more 1 k (rows_of s) (rw (rows_length s) h))

pub sound_none : (s : Bytes) → true ≡ sound_at s 0
unfolding sound_at first_unsound
sound_none s = refl

sound_all : (s : Bytes) → sound_at s (length (sections s)) ≡ true → first_unsound 1 (rows_of s) ≡ sound
unfolding sound_at
sound_all s e = unsound_sound 1 (rows_of s) (eqb-true (first_unsound 1 (rows_of s)).number 0 (rw (← rows_length s, take-length (rows_of s)) at e))

-- a section read at its place is the first from there on
pub step_read : (s : Bytes) (at : ℕ) → Begins s at → (latin : Bool) (row : Row) → row ≡ row_of latin (section_from s at) → (before : Bool)
    → step_by s at row before ≡ step_of s at latin before
unfolding step_of
step_read s at b latin row q before = rw (walk_here s at b.within (begins_settled s at b), q)

-- the step at section k
step_section : (s : Bytes) (k : ℕ) → k < length (sections s)
    → step_of s (first_place s (drop k (sections s))) (latin_of s) (sound_at s k)
    ≡ record { row = row_at s k; next = first_place s (drop (k + 1) (sections s)); sound = sound_at s (k + 1) }
unfolding step_of step_by
step_section s k h =
    let head : get_or (drop k (sections s)) 0 no_section ≡ get_or (sections s) k no_section = rw (drop-cons (sections s) k no_section h) in
    rw (first_of s (sections s) k h, section_rest s k h, head, drop-drop 1 k (sections s), row_is s k h, sound_more s k h)

-- listing that is not refused has room

room_in : (r : Refusal) (n room : ℕ) → eqb (earlier r (refuse_if (ltb room n) 21)).number 0 ≡ true → n ≤ room
unfolding earlier refuse_if
room_in r n room h = ltb-false room n (by (eqb r.number 0) (ltb room n) refl h)
  where
    by : (a b : Bool) → eqb r.number 0 ≡ a → eqb (pick a (refuse_if b 21) r).number 0 ≡ true → b ≡ false
    by true true x y = cc
    by true false x y = refl
    by false b x y = cc

pub accepted_room : (s : Bytes) (room : ℕ) → accepts s room ≡ true → length (sections s) ≤ room
unfolding accepts list_refusal
accepted_room s room h = room_in (header_refusal s) (length (sections s)) room h

not_refused : (s : Bytes) (room : ℕ) → accepts s room ≡ false → (list_refusal s room).number ≡ 0 → ⊥
unfolding accepts
not_refused s room e = eqb-false (list_refusal s room).number 0 e

-- what is known of a pass, by whether it is refused
record Pass (s : Bytes) (room : ℕ) : Type 0 where
  refusal : (start_of s room).refusal ≡ list_refusal s room
  at : (start_of s room).at ≡ at_of s room 0
  room_for : (start_of s room).count ≤ room
  sized : (start_of s room).count ≤ length (sections s)
  begins : (k : ℕ) → k < (start_of s room).count → Begins s (at_of s room k)
  steps : (k : ℕ) → k < (start_of s room).count → step_of s (at_of s room k) (start_of s room).latin (sound_at s k) ≡ step_at s room k
  known : (start_of s room).refusal.number ≡ 0 → sound_at s (start_of s room).count ≡ true → first_unsound 1 (rows_of s) ≡ sound

pass : (s : Bytes) (room : ℕ) (b : Bool) → accepts s room ≡ b → Pass s room
unfolding start_of at_of
pass s room true e =
    record {
      refusal = rw e;
      at = rw e;
      room_for = rw e (accepted_room s room e);
      sized = rw e (le_refl (length (sections s)));
      begins = rw e (λ k h. rw (first_of s (sections s) k h) (section_begins s k h));
      steps = rw e (step_section s);
      known = rw e (λ z. sound_all s);
    }
pass s room false e =
    record {
      refusal = rw e;
      at = rw e;
      room_for = rw e (omega arith);
      sized = rw e (omega arith);
      begins = rw e (λ k h. absurd (omega arith));
      steps = rw e (λ k h. absurd (omega arith));
      known = rw e (λ z k. absurd (not_refused s room e z));
    }

module _ (s : Bytes) (room : ℕ) where
  pub start_room : (start_of s room).count ≤ room
  start_room = (pass s room (accepts s room) refl).room_for

  pub start_refusal : (start_of s room).refusal ≡ list_refusal s room
  start_refusal = (pass s room (accepts s room) refl).refusal

  pub start_at : (start_of s room).at ≡ at_of s room 0
  start_at = (pass s room (accepts s room) refl).at

  pub begins_at : (k : ℕ) → k < (start_of s room).count → Begins s (at_of s room k)
  begins_at = (pass s room (accepts s room) refl).begins

  pub step_here : (k : ℕ) → k < (start_of s room).count → step_of s (at_of s room k) (start_of s room).latin (sound_at s k) ≡ step_at s room k
  step_here = (pass s room (accepts s room) refl).steps

  pub known_at : (start_of s room).refusal.number ≡ 0 → sound_at s (start_of s room).count ≡ true → first_unsound 1 (rows_of s) ≡ sound
  known_at = (pass s room (accepts s room) refl).known

  pub start_rows : (start_of s room).count ≤ length (rows_of s)
  start_rows = rw (rows_length s) (pass s room (accepts s room) refl).sized

-- the rows, section by section

module _ (s : Bytes) (ys : List Row) where
  pub filled_none : ys ≡ filled s ys 0
  unfolding filled
  filled_none = refl

  pub filled_length : (i : ℕ) → i ≤ length (rows_of s) → i ≤ length ys → length (filled s ys i) ≡ length ys
  unfolding filled
  filled_length i h l =
      omega (arith, length-append (take i (rows_of s)) (drop i ys), length-take-le i (rows_of s) h, length-drop i ys)

  pub filled_step : (i : ℕ) → i < length (rows_of s) → i < length ys → set (filled s ys i) i (row_at s i) ≡ filled s ys (i + 1)
  unfolding filled row_at
  filled_step i h l =
      let n : i ≤ length (rows_of s) = omega arith in
      rw (add-one, take-suc (rows_of s) i no_row h, drop-cons ys i no_row l)
      (set_at (take i (rows_of s)) (get_or ys i no_row) (drop (suc i) ys) (get_or (rows_of s) i no_row) i (length-take-le i (rows_of s) n)
      ∙ sym (append_snoc (take i (rows_of s)) (get_or (rows_of s) i no_row) (drop (suc i) ys)))

  -- "Spare rows keep their values."
  pub filled_all : filled s ys (start_of s (length ys)).count ≡ rows_after s ys
  unfolding filled start_of rows_after accepts
  filled_all = by (eqb (list_refusal s (length ys)).number 0) refl
    where
      by : (b : Bool) → eqb (list_refusal s (length ys)).number 0 ≡ b → filled s ys (start_of s (length ys)).count ≡ rows_after s ys
      by true e = rw (e, ← rows_length s, take-length (rows_of s))
      by false e = rw e
