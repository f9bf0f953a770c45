-- The promises of the two calls that hand out into lent room: a text's own bytes, and all values of one table. Assumes nothing.
use Rattle.std.specs.Prelude.{Err, Ok, Result}
use mathlib.Core.Path.{◌≡◌, refl, ap, sym, ◌∙◌}
use mathlib.Core.Bool.{Bool, true, false, not, ◌||◌, false≢true}
use mathlib.Core.List.{List, ◌++◌}
use mathlib.Core.Logic.{◌↔◌}
use Prim.Native.Nat.{ℕ, ◌-◌, ◌<◌, ◌≤◌}
use native.Mathlib.Omega.{arith}
use lib.Dec.{eqb, ltb}
use lib.ListN.{length, drop, length-append, length-drop}
use borrow.Author.Tests.{eqb-true, ltb-true, ltb-false, lt-ltb}
use Rattle.page.specs.Bytes.{Bytes, pick}
use Rattle.page.specs.Tables.{column_at, width}
use Rattle.page.specs.Cut.{sections}
use Rattle.page.specs.Head.{latin_of}
use Rattle.page.specs.Section.{outcome}
use Rattle.page.specs.Records.{table_index}
use Rattle.page.specs.Answers.{refusal, earlier, refuse_if, answered, paper_of}
use Rattle.page.specs.File.{limit, row_given, row_of, header_refusal, any}
use Rattle.page.specs.Reading.{outside, section_at, row_at, find_refusal, verdict_of, value_refusal}
use Rattle.page.specs.Writing.{put_refusal, put_of}
use Rattle.page.specs.Handing.{text_refusal, own_text, text_owner, copied, text_out, text_after, cells_of, table_refusal, cells_refusal, table_of, cells_after}
use Rattle.page.specs.Refusals.{section_numbers, header_numbers}
use Rattle.page.specs.declared.Refusal.{Refusal}
use Rattle.page.specs.declared.Copied.{Copied}
use Rattle.calls.specs.Promises.{HandsText, HandsTable}
use Rattle.grammar.proofs.Refuses.{verdict_ranged}
use Rattle.calls.proofs.Promises.{one_outcome, refused_put, Done, done_put, long_find}
use Rattle.calls.proofs.PromisesListing.{header_told}
use Rattle.calls.proofs.CallAnswers.{as_written, handed_written, handed_number}
use Rattle.calls.proofs.PromisesRoom.{TooLong, answer_number, room_exactly, earlier_never, if_never, told_never}

-- two answers, and two later contents, that meet the promise are equal

pub text_settled : (s : Bytes) (i j f : ℕ) (out : Bytes) {after later : Bytes} {r q : Result Copied Refusal} → HandsText s i j f out r after → HandsText s i j f out q later → (r ≡ q) × (after ≡ later)
text_settled s i j f out p q = one_outcome p q

pub table_settled : (s : Bytes) (i : ℕ) (cells : List ℕ) {after later : List ℕ} {r q : Result ℕ Refusal} → HandsTable s i cells r after → HandsTable s i cells q later → (r ≡ q) × (after ≡ later)
table_settled s i cells p q = one_outcome p q

-- but for its owner, a text is put into lent output as a form is
pub text_put : (s : Bytes) (i j f room : ℕ) → as_written (text_out s i j f room) ≡ put_of (text_refusal s i j f) (own_text s i j f) room
unfolding text_out put_of
text_put s i j f room = handed_written (put_refusal (text_refusal s i j f) (own_text s i j f) room) (copied (own_text s i j f) (text_owner s i j f))

-- a refused call leaves what was lent as it was

pub refused_text : (s : Bytes) (i j f : ℕ) (out : Bytes) (x : Refusal) → text_out s i j f (length out) ≡ Err x → text_after s i j f out ≡ out
unfolding text_after
refused_text s i j f out x e = refused_put (text_refusal s i j f) x (own_text s i j f) out (sym (text_put s i j f (length out)) ∙ ap as_written e)

pub refused_table : (s : Bytes) (i : ℕ) (cells : List ℕ) (x : Refusal) → table_of s i (length cells) ≡ Err x → cells_after s i cells ≡ cells
unfolding table_of cells_after answered
refused_table s i cells x e = by (eqb (cells_refusal s i (length cells)).number 0) refl e
  where
    by : (b : Bool) → eqb (cells_refusal s i (length cells)).number 0 ≡ b → pick b (Ok (length (cells_of (section_at s i)))) (Err (cells_refusal s i (length cells))) ≡ Err x →
        cells_after s i cells ≡ cells
    by true h e = absurd (false≢true (cc))
    by false h e = rw h

-- on success the count is given, the text or the values stand first, and what stands behind keeps its values

pub text_done : (s : Bytes) (i j f : ℕ) (out : Bytes) (x : Copied) → text_out s i j f (length out) ≡ Ok x → Done (text_refusal s i j f) (own_text s i j f) out x.length
text_done s i j f out x e = done_put (text_refusal s i j f) (own_text s i j f) out x.length (sym (text_put s i j f (length out)) ∙ ap as_written e)

pub record TableDone (s : Bytes) (i : ℕ) (cells : List ℕ) (n : ℕ) : Type 0 where
  pub given : n ≡ length (cells_of (section_at s i))
  pub accepted : (table_refusal s i).number ≡ 0
  pub fits : length (cells_of (section_at s i)) ≤ length cells
  pub holds : cells_after s i cells ≡ cells_of (section_at s i) ++ drop (length (cells_of (section_at s i))) cells
  pub as_long : length (cells_after s i cells) ≡ length cells

pub table_done : (s : Bytes) (i : ℕ) (cells : List ℕ) (n : ℕ) → table_of s i (length cells) ≡ Ok n → TableDone s i cells n
unfolding table_of cells_after cells_refusal answered earlier refuse_if
table_done s i cells n e = by (eqb (table_refusal s i).number 0) (ltb (length cells) (length (cells_of (section_at s i)))) refl refl e
  where
    by : (a b : Bool) → eqb (table_refusal s i).number 0 ≡ a → ltb (length cells) (length (cells_of (section_at s i))) ≡ b →
        answered (pick a (refuse_if b 21) (table_refusal s i)) (length (cells_of (section_at s i))) ≡ Ok n → TableDone s i cells n
    by true true h k e = absurd (false≢true (cc))
    by true false h k e =
        let f : length (cells_of (section_at s i)) ≤ length cells = ltb-false (length cells) (length (cells_of (section_at s i))) k in
        let w : cells_after s i cells ≡ cells_of (section_at s i) ++ drop (length (cells_of (section_at s i))) cells = rw (h, k) in
        record {
          given = cc;
          accepted = eqb-true (table_refusal s i).number 0 h;
          fits = f;
          holds = w;
          as_long =
              rw (w, length-append (cells_of (section_at s i)) (drop (length (cells_of (section_at s i))) cells), length-drop (length (cells_of (section_at s i))) cells) (omega arith);
        }
    by false b h k e = absurd (false≢true (let z : Err (table_refusal s i) ≡ Ok n = rw h at e in cc))

-- 1: "file over 16,777,216 bytes"

module _ (s : Bytes) (long : limit < length s) where
  pub long_text : (i j f room : ℕ) → text_out s i j f room ≡ Err (refusal 1 0 0)
  unfolding text_out text_refusal value_refusal put_refusal answered earlier
  long_text i j f room = rw (long_find s long i)

  pub long_table : (i room : ℕ) → table_of s i room ≡ Err (refusal 1 0 0)
  unfolding table_of cells_refusal table_refusal answered earlier
  long_table i room = rw (long_find s long i)

-- what is asked before the room never gives 21

pub header_never : (s : Bytes) → ¬ ((header_refusal s).number ≡ 21)
unfolding any
header_never s = told_never header_numbers refl (header_told s)

find_never : (s : Bytes) (i : ℕ) → ¬ ((find_refusal s i).number ≡ 21)
unfolding find_refusal
find_never s i = earlier_never (header_refusal s) _ (header_never s) (if_never (outside i (length (sections s))) 24 (λ (z : 24 ≡ 21). omega arith))

verdict_never : (s : Bytes) (i : ℕ) → ¬ ((verdict_of i (row_at s i)).number ≡ 21)
unfolding verdict_of row_at row_of row_given any
verdict_never s i = by (eqb (outcome (latin_of s) (section_at s i).lines).verdict 0)
  where
    by : (b : Bool) → ¬ ((pick b (refusal 0 0 0) (refusal (outcome (latin_of s) (section_at s i).lines).verdict i (outcome (latin_of s) (section_at s i).lines).line)).number ≡ 21)
    by true e = omega arith
    by false e = told_never section_numbers refl (verdict_ranged (latin_of s) (section_at s i).lines) e

pub table_never : (s : Bytes) (i : ℕ) → ¬ ((table_refusal s i).number ≡ 21)
unfolding table_refusal
table_never s i = earlier_never (find_refusal s i) _ (find_never s i) (verdict_never s i)

value_never : (s : Bytes) (i j f : ℕ) → ¬ ((value_refusal s i j f).number ≡ 21)
unfolding value_refusal
value_never s i j f =
    earlier_never (find_refusal s i) _ (find_never s i)
    (earlier_never (verdict_of i (row_at s i)) _ (verdict_never s i)
    (if_never (outside j (row_at s i).records || outside f (width (table_index (section_at s i).lines))) 24 (λ (z : 24 ≡ 21). omega arith)))

pub text_never : (s : Bytes) (i j f : ℕ) → ¬ ((text_refusal s i j f).number ≡ 21)
unfolding text_refusal
text_never s i j f =
    earlier_never (value_refusal s i j f) _ (value_never s i j f)
    (if_never (not (column_at (table_index (section_at s i).lines) (f - 1)).text) 11 (λ (z : 11 ≡ 21). omega arith))

-- 21: nothing else refuses, and the text is longer than the room (or than a file may be)
pub text_room : (s : Bytes) (i j f room : ℕ) → (paper_of (text_out s i j f room)).number ≡ 21 ↔ (((text_refusal s i j f).number ≡ 0) × TooLong (own_text s i j f) room)
text_room s i j f room = rw (handed_number (text_out s i j f room), text_put s i j f room) (room_exactly (text_refusal s i j f) (text_never s i j f) (own_text s i j f) room)

table_number : (s : Bytes) (i room : ℕ) → (paper_of (table_of s i room)).number ≡ pick (eqb (table_refusal s i).number 0) (pick (ltb room (length (cells_of (section_at s i)))) 21 0) (table_refusal s i).number
unfolding table_of cells_refusal earlier refuse_if
table_number s i room = answer_number (cells_refusal s i room) (length (cells_of (section_at s i))) ∙ by (eqb (table_refusal s i).number 0) (ltb room (length (cells_of (section_at s i))))
  where
    by : (a b : Bool) → (pick a (refuse_if b 21) (table_refusal s i)).number ≡ pick a (pick b 21 0) (table_refusal s i).number
    by true true = refl
    by true false = refl
    by false b = refl

-- 21: nothing else refuses, and the values are more than the room
pub table_room : (s : Bytes) (i room : ℕ) → (paper_of (table_of s i room)).number ≡ 21 ↔ (((table_refusal s i).number ≡ 0) × (room < length (cells_of (section_at s i))))
table_room s i room = (λ e. into (eqb (table_refusal s i).number 0) refl (ltb room (length (cells_of (section_at s i)))) refl (sym (table_number s i room) ∙ e), back)
  where
    into : (a : Bool) → eqb (table_refusal s i).number 0 ≡ a → (b : Bool) → ltb room (length (cells_of (section_at s i))) ≡ b →
        pick (eqb (table_refusal s i).number 0) (pick (ltb room (length (cells_of (section_at s i)))) 21 0) (table_refusal s i).number ≡ 21 →
        ((table_refusal s i).number ≡ 0) × (room < length (cells_of (section_at s i)))
    into true x true y e = (eqb-true (table_refusal s i).number 0 x, ltb-true room (length (cells_of (section_at s i))) y)
    into true x false y e = let z : ◌≡◌ {A = ℕ} 0 21 = rw (x, y) at e in absurd (let w : ⊥ = omega arith in w)
    into false x b y e = let z : (table_refusal s i).number ≡ 21 = rw x at e in absurd (table_never s i z)

    back : ((table_refusal s i).number ≡ 0) × (room < length (cells_of (section_at s i))) → (paper_of (table_of s i room)).number ≡ 21
    back h = table_number s i room ∙ rw (h.0, lt-ltb room (length (cells_of (section_at s i))) h.1)
