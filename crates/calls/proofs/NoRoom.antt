-- 21 with no place: given exactly if nothing refuses before it, and there is no room. Assumes nothing.
use Rattle.std.specs.Prelude.{Err}
use mathlib.Core.Path.{◌≡◌, refl, ap}
use mathlib.Core.Bool.{Bool, true, false, ◌||◌}
use mathlib.Core.Logic.{◌↔◌}
use Prim.Native.Nat.{ℕ, ◌<◌}
use native.Mathlib.Omega.{arith}
use lib.Dec.{eqb, ltb}
use lib.ListN.{length}
use borrow.Author.Tests.{eqb-true}
use Rattle.page.specs.Bytes.{Bytes, pick}
use Rattle.page.specs.Answers.{refusal, earlier, refuse_if}
use Rattle.page.specs.File.{limit, file_refusal}
use Rattle.page.specs.Reading.{section_at}
use Rattle.page.specs.Writing.{put_refusal, put_of, write_form, write_of, strip_form, strip_of}
use Rattle.page.specs.Handing.{text_refusal, own_text, text_owner, copied, text_out, cells_of, table_refusal, cells_refusal, table_of}
use Rattle.page.specs.declared.Refusal.{Refusal}
use Rattle.laws.proofs.Decides.{Decides, holds, fails, one_of, below}
use Rattle.calls.proofs.CallAnswers.{answered_exactly, some_number}
use Rattle.calls.proofs.Turns.{via}
use Rattle.calls.proofs.PromisesRoom.{TooLong, file_never}
use Rattle.calls.proofs.PromisesHanding.{text_never, table_never}

-- 21 is asked last: it is given exactly if nothing refuses before it, and there is no room
pub last_exactly : {A : Type 0} {b : Bool} (r : Refusal) → ¬ (r.number ≡ 21) → Decides A b → earlier r (refuse_if b 21) ≡ refusal 21 0 0 ↔ ((r.number ≡ 0) × A)
unfolding earlier refuse_if
last_exactly {A} {b} r never d = (into (eqb r.number 0) refl d, λ h. back h.0 h.1 d)
  where
    into : (x : Bool) → eqb r.number 0 ≡ x → {q : Bool} → Decides A q → pick x (refuse_if q 21) r ≡ refusal 21 0 0 → (r.number ≡ 0) × A
    into true x (holds h) e = (eqb-true r.number 0 x, h)
    into true x (fails n) e = let z : ◌≡◌ {A = ℕ} 0 21 = ap (λ (q : Refusal). q.number) e in absurd (let w : ⊥ = omega arith in w)
    into false x d e = absurd (never (ap (λ (q : Refusal). q.number) e))

    back : r.number ≡ 0 → A → {q : Bool} → Decides A q → pick (eqb r.number 0) (refuse_if q 21) r ≡ refusal 21 0 0
    back z a (holds h) = rw z
    back z a (fails n) = absurd (n a)

too_long_d : (form : Bytes) (room : ℕ) → Decides (TooLong form room) (ltb room (length form) || ltb limit (length form))
too_long_d form room = one_of (below room (length form)) (below limit (length form))

pub put_exactly : (r : Refusal) → ¬ (r.number ≡ 21) → (form : Bytes) (room : ℕ) → put_refusal r form room ≡ refusal 21 0 0 ↔ ((r.number ≡ 0) × TooLong form room)
unfolding put_refusal
put_exactly r never form room = last_exactly r never (too_long_d form room)

put_21 : (r : Refusal) → ¬ (r.number ≡ 21) → (form : Bytes) (room : ℕ) → put_of r form room ≡ Err (refusal 21 0 0) ↔ ((r.number ≡ 0) × TooLong form room)
unfolding put_of
put_21 r never form room =
    via (answered_exactly (put_refusal r form room) (refusal 21 0 0) (some_number 21 (omega arith)) (length form)) (put_exactly r never form room)

-- "21 exactly if the form is longer than the lent output or than 16,777,216 bytes"

pub write_21 : (s : Bytes) (room : ℕ) → write_of s room ≡ Err (refusal 21 0 0) ↔ (((file_refusal s).number ≡ 0) × TooLong (write_form s) room)
unfolding write_of
write_21 s room = put_21 (file_refusal s) (file_never s) (write_form s) room

pub strip_21 : (s : Bytes) (room : ℕ) → strip_of s room ≡ Err (refusal 21 0 0) ↔ (((file_refusal s).number ≡ 0) × TooLong (strip_form s) room)
unfolding strip_of
strip_21 s room = put_21 (file_refusal s) (file_never s) (strip_form s) room

-- the text is longer than the room (or than a file may be)
pub text_21 : (s : Bytes) (i j f room : ℕ) → text_out s i j f room ≡ Err (refusal 21 0 0) ↔ (((text_refusal s i j f).number ≡ 0) × TooLong (own_text s i j f) room)
unfolding text_out
text_21 s i j f room =
    via (answered_exactly (put_refusal (text_refusal s i j f) (own_text s i j f) room) (refusal 21 0 0) (some_number 21 (omega arith)) (copied (own_text s i j f) (text_owner s i j f)))
    (put_exactly (text_refusal s i j f) (text_never s i j f) (own_text s i j f) room)

-- the values are more than the room
pub table_21 : (s : Bytes) (i room : ℕ) → table_of s i room ≡ Err (refusal 21 0 0) ↔ (((table_refusal s i).number ≡ 0) × (room < length (cells_of (section_at s i))))
unfolding table_of cells_refusal
table_21 s i room =
    via (answered_exactly (cells_refusal s i room) (refusal 21 0 0) (some_number 21 (omega arith)) (length (cells_of (section_at s i))))
    (last_exactly (table_refusal s i) (table_never s i) (below room (length (cells_of (section_at s i)))))
