-- The first refusal of several, by what has been found so far. Assumes nothing.
use mathlib.Core.Path.{◌≡◌, refl, sym}
use mathlib.Core.Bool.{Bool, true, false}
use mathlib.Core.List.{List, [], ◌∷◌, map}
use Prim.Native.Nat.{ℕ, suc}
use native.Mathlib.Omega.{arith}
use borrow.Author.Tests.{ne_eqb, eqb-true, eqb-false}
use lib.Dec.{eqb}
use Rattle.page.specs.Bytes.{Bytes, pick}
use Rattle.page.specs.Cut.{sections}
use Rattle.page.specs.Head.{latin_of}
use Rattle.std.specs.Prelude.{Result, Ok, Err}
use Rattle.page.specs.Answers.{refusal, sound, earlier, answered}
use Rattle.page.specs.File.{Filed, first_record, lost, row_of, rows_of, first_unsound, first_again, record_refusal, section_refusal, file_refusal, filed_of}
use Rattle.page.specs.declared.Row.{Row}
use Rattle.page.specs.declared.Refusal.{Refusal}
use Rattle.seats.specs.declared.seating.Seats.{Seats}
use Rattle.seats.specs.Seating.{Seating}

module _ (a b : Refusal) where
  -- what refuses first is the answer
  pub answered_stop : (e : Refusal) → Err e ≡ answered a (tt {0}) → Err e ≡ answered (earlier a b) (tt {0})
  unfolding answered earlier
  answered_stop e = by (eqb a.number 0) refl
    where
      by : (c : Bool) → eqb a.number 0 ≡ c → Err e ≡ pick c (Ok (tt {0})) (Err a) → Err e ≡ answered (pick c b a) (tt {0})
      by true q z = absurd (cc)
      by false q z = rw q z

  pub answered_on : (x : Result (Unit {0}) Refusal) → Ok (tt {0}) ≡ answered a (tt {0}) → x ≡ answered b (tt {0}) → x ≡ answered (earlier a b) (tt {0})
  unfolding answered earlier
  answered_on x = by (eqb a.number 0) refl
    where
      by : (c : Bool) → eqb a.number 0 ≡ c → Ok (tt {0}) ≡ pick c (Ok (tt {0})) (Err a) → x ≡ answered b (tt {0}) → x ≡ answered (pick c b a) (tt {0})
      by true q z h = h
      by false q z h = absurd (cc)

pub answered_zero : (a : Refusal) → Ok (tt {0}) ≡ answered a (tt {0}) → a.number ≡ 0
unfolding answered
answered_zero a = by (eqb a.number 0) refl
  where
    by : (c : Bool) → eqb a.number 0 ≡ c → Ok (tt {0}) ≡ pick c (Ok (tt {0})) (Err a) → a.number ≡ 0
    by true q z = eqb-true a.number 0 q
    by false q z = absurd (cc)

pub answered_some : (a e : Refusal) → Err e ≡ answered a (tt {0}) → e ≡ a
unfolding answered
answered_some a e = by (eqb a.number 0)
  where
    by : (c : Bool) → Err e ≡ pick c (Ok (tt {0})) (Err a) → e ≡ a
    by true z = absurd (cc)
    by false z = cc

-- the first of two with the number 0 refuses nothing, if the second does not
earlier_sound : (a b : Refusal) → (b.number ≡ 0 → b ≡ sound) → (earlier a b).number ≡ 0 → earlier a b ≡ sound
unfolding earlier
earlier_sound a b h = by (eqb a.number 0) refl
  where
    by : (c : Bool) → eqb a.number 0 ≡ c → (pick c b a).number ≡ 0 → pick c b a ≡ sound
    by true q e = h e
    by false q e = absurd (eqb-false a.number 0 q e)

record_sound : (v : ℕ) → (v ≡ 0 → ⊥) → (bad : List Filed → Filed → Bool) (b es : List Filed) → (first_record v bad b es).number ≡ 0 → first_record v bad b es ≡ sound
unfolding first_record
record_sound v n bad b [] e = refl
record_sound v n bad b (x ∷ es) e = by (bad b x) e (record_sound v n bad (x ∷ b) es)
  where
    by : (c : Bool) → (pick c (refusal v x.section x.line) (first_record v bad (x ∷ b) es)).number ≡ 0
        → ((first_record v bad (x ∷ b) es).number ≡ 0 → first_record v bad (x ∷ b) es ≡ sound)
        → pick c (refusal v x.section x.line) (first_record v bad (x ∷ b) es) ≡ sound
    by true q ih = absurd (n q)
    by false q ih = ih q

pub unsound_told : (a : Refusal) (v i l : ℕ) → a ≡ refusal v i l → (v ≡ 0 → ⊥) → Err (refusal v i l) ≡ answered a (tt {0})
unfolding answered
unsound_told a v i l e n = rw (e, ne_eqb v 0 n)

pub unsound_none : (a : Refusal) → a ≡ sound → Ok (tt {0}) ≡ answered a (tt {0})
unfolding answered
unsound_none a e = rw e

pub unsound_sound : (i : ℕ) (rs : List Row) → (first_unsound i rs).number ≡ 0 → first_unsound i rs ≡ sound
unfolding first_unsound
unsound_sound i [] e = refl
unsound_sound i (r ∷ rs) e = by (eqb r.verdict 0) refl e (unsound_sound (suc i) rs)
  where
    by : (b : Bool) → eqb r.verdict 0 ≡ b → (pick b (first_unsound (suc i) rs) (refusal r.verdict i r.line)).number ≡ 0
        → ((first_unsound (suc i) rs).number ≡ 0 → first_unsound (suc i) rs ≡ sound)
        → pick b (first_unsound (suc i) rs) (refusal r.verdict i r.line) ≡ sound
    by true q e ih = ih e
    by false q e ih = absurd (eqb-false r.verdict 0 q e)

pub unsound_found : (s : Bytes) (latin : Bool) → latin ≡ latin_of s → (u : Result (Unit {0}) Refusal) → u ≡ answered (first_unsound 1 (map (row_of latin) (sections s))) (tt {0})
    → u ≡ answered (first_unsound 1 (rows_of s)) (tt {0})
unfolding rows_of
unsound_found s latin q u x = rw q at x

-- the file's answer with the number 0 is the one that refuses nothing
pub file_sound : (s : Bytes) → (file_refusal s).number ≡ 0 → file_refusal s ≡ sound
unfolding file_refusal section_refusal record_refusal
file_sound s =
    earlier_sound _ _
    (earlier_sound _ _
    (earlier_sound _ _ (earlier_sound _ _ (earlier_sound _ _ (earlier_sound _ _ (record_sound 20 (λ e. omega arith) (λ before. lost (filed_of s)) [] (filed_of s)))))))

pub file_answered : (s : Bytes) → Ok (tt {0}) ≡ answered (file_refusal s) (tt {0}) → sound ≡ file_refusal s
file_answered s e = sym (file_sound s (answered_zero (file_refusal s) e))

-- where each table stands, or 17
pub again_stop : (s : Bytes) (e : Refusal) → Seating s (Err e) → Err e ≡ answered (first_again [] 1 (rows_of s)) (tt {0})
unfolding answered
again_stop s e y = rw (y.0, ne_eqb e.number 0 y.1)

pub again_on : (s : Bytes) (r : Seats) → Seating s (Ok r) → Ok (tt {0}) ≡ answered (first_again [] 1 (rows_of s)) (tt {0})
unfolding answered
again_on s r y = rw y.0

pub none_unsound : (s : Bytes) → Ok (tt {0}) ≡ answered (first_unsound 1 (rows_of s)) (tt {0}) → first_unsound 1 (rows_of s) ≡ sound
none_unsound s e = unsound_sound 1 (rows_of s) (answered_zero (first_unsound 1 (rows_of s)) e)
