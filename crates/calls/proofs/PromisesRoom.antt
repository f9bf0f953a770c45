-- "21 exactly if the form is longer than the lent output or than 16,777,216 bytes." Assumes nothing.
use mathlib.Core.Path.{◌≡◌, refl, sym, ◌∙◌}
use mathlib.Core.Bool.{Bool, true, false, not, ◌||◌}
use mathlib.Core.List.{List}
use mathlib.Core.Logic.{◌⊎◌, inl, inr, ◌↔◌}
use Prim.Native.Nat.{ℕ, ◌-◌, ◌<◌}
use native.Mathlib.Omega.{arith}
use lib.Dec.{eqb, ltb}
use lib.ListN.{length}
use borrow.Author.Tests.{eqb-true, ltb-true, lt-ltb}
use Rattle.page.specs.Bytes.{Bytes, pick, all, unpadded}
use Rattle.page.specs.Lines.{allowed}
use Rattle.page.specs.Head.{latin_of}
use Rattle.page.specs.Tables.{column_at}
use Rattle.page.specs.Records.{table_index}
use Rattle.page.specs.Model.{model_of, datum_at}
use Rattle.page.specs.Answers.{earlier, refuse_if, answered, paper_of}
use Rattle.page.specs.File.{limit, any, file_refusal}
use Rattle.page.specs.Reading.{section_at}
use Rattle.page.specs.Writing.{put_refusal, put_of, write_form, write_of, strip_form, strip_of, empty_datum, fill_place, fill_refusal, fill_form, fill_of}
use Rattle.page.specs.Refusals.{file_numbers, gives, SoundOr}
use Rattle.page.specs.declared.Refusal.{Refusal}
use Rattle.laws.proofs.Numbers.{other_number}
use Rattle.calls.proofs.PromisesListing.{file_told}

-- longer than the room, or than a file may be
abbrev pub TooLong : Bytes → ℕ → Type 0
TooLong form room = (room < length form) ⊎ (limit < length form)

pub answer_number : (r : Refusal) (n : ℕ) → (paper_of (answered r n)).number ≡ r.number
unfolding paper_of answered
answer_number r n = by (eqb r.number 0) refl
  where
    by : (b : Bool) → eqb r.number 0 ≡ b → (paper_of (answered r n)).number ≡ r.number
    by true e = rw e (sym (eqb-true r.number 0 e))
    by false e = rw e

longer : (form : Bytes) (room : ℕ) → (ltb room (length form) || ltb limit (length form)) ≡ true ↔ TooLong form room
longer form room = (by (ltb room (length form)) refl, back)
  where
    by : (b : Bool) → ltb room (length form) ≡ b → (b || ltb limit (length form)) ≡ true → TooLong form room
    by true e h = inl (ltb-true room (length form) e)
    by false e h = inr (ltb-true limit (length form) h)

    or_true : (b : Bool) → (b || true) ≡ true
    or_true true = refl
    or_true false = refl

    back : TooLong form room → (ltb room (length form) || ltb limit (length form)) ≡ true
    back (inl h) = rw (lt-ltb room (length form) h)
    back (inr h) = rw (lt-ltb limit (length form) h) (or_true (ltb room (length form)))

-- for any form, where what is asked before the room does not give 21
module _ (r : Refusal) (never : ¬ (r.number ≡ 21)) (form : Bytes) (room : ℕ) where
  put_number : (paper_of (put_of r form room)).number ≡ pick (eqb r.number 0) (pick (ltb room (length form) || ltb limit (length form)) 21 0) r.number
  unfolding put_of put_refusal earlier refuse_if
  put_number = answer_number (put_refusal r form room) (length form) ∙ by (eqb r.number 0) (ltb room (length form) || ltb limit (length form))
    where
      by : (a b : Bool) → (pick a (refuse_if b 21) r).number ≡ pick a (pick b 21 0) r.number
      by true true = refl
      by true false = refl
      by false b = refl

  pub room_exactly : (paper_of (put_of r form room)).number ≡ 21 ↔ ((r.number ≡ 0) × TooLong form room)
  room_exactly = (λ e. into (eqb r.number 0) refl (ltb room (length form) || ltb limit (length form)) refl (sym put_number ∙ e), back)
    where
      into : (a : Bool) → eqb r.number 0 ≡ a → (b : Bool) → (ltb room (length form) || ltb limit (length form)) ≡ b →
          pick (eqb r.number 0) (pick (ltb room (length form) || ltb limit (length form)) 21 0) r.number ≡ 21 → (r.number ≡ 0) × TooLong form room
      into true x true y e = (eqb-true r.number 0 x, (longer form room).0 y)
      into true x false y e = let z : ◌≡◌ {A = ℕ} 0 21 = rw (x, y) at e in absurd (let w : ⊥ = omega arith in w)
      into false x b y e = let z : r.number ≡ 21 = rw x at e in absurd (never z)

      back : (r.number ≡ 0) × TooLong form room → (paper_of (put_of r form room)).number ≡ 21
      back h = put_number ∙ rw (h.0, (longer form room).1 h.1)

-- what is asked before the room never gives 21

pub earlier_never : (a b : Refusal) → ¬ (a.number ≡ 21) → ¬ (b.number ≡ 21) → ¬ ((earlier a b).number ≡ 21)
unfolding earlier
earlier_never a b x y = by (eqb a.number 0)
  where
    by : (q : Bool) → ¬ ((pick q b a).number ≡ 21)
    by true = y
    by false = x

pub if_never : (b : Bool) (v : ℕ) → ¬ (v ≡ 21) → ¬ ((refuse_if b v).number ≡ 21)
unfolding refuse_if
if_never true v n e = n e
if_never false v n e = omega arith

-- a number that is 0 or one of a list is not 21, if the list lacks it
pub told_never : (ns : List ℕ) → gives ns 21 ≡ false → {n : ℕ} → SoundOr ns n → ¬ (n ≡ 21)
told_never ns l (inl z) e = omega arith
told_never ns l {n} (inr g) e = other_number ns n 21 g l e

pub file_never : (s : Bytes) → ¬ ((file_refusal s).number ≡ 21)
unfolding any
file_never s = told_never file_numbers refl (file_told s)

fill_never : (s : Bytes) (i j f : ℕ) (t : Bytes) → ¬ ((fill_refusal s i j f t).number ≡ 21)
unfolding fill_refusal
fill_never s i j f t =
    earlier_never (file_refusal s) _ (file_never s)
    (earlier_never (refuse_if (fill_place s i j f) 24) _ (if_never (fill_place s i j f) 24 (λ (z : 24 ≡ 21). omega arith))
    (earlier_never (refuse_if (not (column_at (table_index (section_at s i).lines) (f - 1)).fillable) 23) _
    (if_never (not (column_at (table_index (section_at s i).lines) (f - 1)).fillable) 23 (λ (z : 23 ≡ 21). omega arith))
    (earlier_never (refuse_if (not (empty_datum (datum_at i j f (model_of s)))) 22) _
    (if_never (not (empty_datum (datum_at i j f (model_of s)))) 22 (λ (z : 22 ≡ 21). omega arith))
    (earlier_never (refuse_if (eqb (length t) 0) 11) _ (if_never (eqb (length t) 0) 11 (λ (z : 11 ≡ 21). omega arith))
    (earlier_never (refuse_if (not (all (allowed (latin_of s)) t)) 4) _ (if_never (not (all (allowed (latin_of s)) t)) 4 (λ (z : 4 ≡ 21). omega arith))
    (if_never (ltb 40 (length t)) 13 (λ (z : 13 ≡ 21). omega arith)))))))

pub write_room : (s : Bytes) (room : ℕ) → (paper_of (write_of s room)).number ≡ 21 ↔ (((file_refusal s).number ≡ 0) × TooLong (write_form s) room)
unfolding write_of
write_room s room = room_exactly (file_refusal s) (file_never s) (write_form s) room

pub strip_room : (s : Bytes) (room : ℕ) → (paper_of (strip_of s room)).number ≡ 21 ↔ (((file_refusal s).number ≡ 0) × TooLong (strip_form s) room)
unfolding strip_of
strip_room s room = room_exactly (file_refusal s) (file_never s) (strip_form s) room

pub fill_room : (s : Bytes) (i j f : ℕ) (t : Bytes) (room : ℕ) →
    (paper_of (fill_of s i j f t room)).number ≡ 21 ↔ (((fill_refusal s i j f (unpadded t)).number ≡ 0) × TooLong (fill_form s i j f (unpadded t)) room)
unfolding fill_of
fill_room s i j f t room = room_exactly (fill_refusal s i j f (unpadded t)) (fill_never s i j f (unpadded t)) (fill_form s i j f (unpadded t)) room
