-- "That two answers meeting it are equal is proved": the promises settle answers and the later content of what is lent. Refused calls leave
-- it as it was, and a file that is too long is 1 for every call. Assumes nothing.
use Rattle.std.specs.Prelude.{Err, Ok, Result}
use Rattle.page.specs.declared.Value.{Value}
use Rattle.page.specs.declared.Header.{Header}
use mathlib.Core.Path.{◌≡◌, refl, sym, ◌∙◌}
use mathlib.Core.Bool.{Bool, true, false, ◌||◌, false≢true}
use mathlib.Core.List.{List, ◌++◌}
use Prim.Native.Nat.{ℕ, ◌<◌, ◌≤◌}
use native.Mathlib.Omega.{arith}
use lib.Dec.{eqb, ltb}
use lib.ListN.{length, drop, length-append, length-drop}
use borrow.Author.Tests.{lt-ltb, ltb-false, eqb-true}
use Rattle.page.specs.Bytes.{Bytes, pick, unpadded}
use Rattle.page.specs.Answers.{refusal, earlier, refuse_if, answered}
use Rattle.page.specs.File.{limit, too_long, header_refusal, file_refusal, check_of}
use Rattle.page.specs.Reading.{header_of, find_refusal, section_of, list_refusal, list_of, rows_after, value_refusal, value_of}
use Rattle.page.specs.Writing.{put_refusal, put_of, put_after, write_form, write_of, write_after, strip_form, strip_of, strip_after, fill_refusal, fill_form, fill_of, fill_after}
use Rattle.page.specs.declared.Refusal.{Refusal}
use Rattle.page.specs.declared.Row.{Row}
use Rattle.calls.specs.Promises.{Kept, Checks, ReadsHeader, ReadsSection, ReadsValue, Lists, Writes, Strips, Fills}
use Rattle.page.proofs.TestLaws.{neither}

one_answer : {A : Type 0} {x r q : A} → r ≡ x → q ≡ x → r ≡ q
one_answer p q = p ∙ sym q

pub one_outcome : {A B : Type 0} {x r q : A} {y after later : B} → Kept x y r after → Kept x y q later → (r ≡ q) × (after ≡ later)
one_outcome p q = (p.answers ∙ sym q.answers, p.leaves ∙ sym q.leaves)

pub checks_settled : (s : Bytes) {r q : Result (Unit {0}) Refusal} → Checks s r → Checks s q → r ≡ q
checks_settled s p q = one_answer p q

pub header_settled : (s : Bytes) {r q : Result Header Refusal} → ReadsHeader s r → ReadsHeader s q → r ≡ q
header_settled s p q = one_answer p q

pub section_settled : (s : Bytes) (i : ℕ) {r q : Result Row Refusal} → ReadsSection s i r → ReadsSection s i q → r ≡ q
section_settled s i p q = one_answer p q

pub value_settled : (s : Bytes) (i j f : ℕ) {r q : Result Value Refusal} → ReadsValue s i j f r → ReadsValue s i j f q → r ≡ q
value_settled s i j f p q = one_answer p q

pub list_settled : (s : Bytes) (rows : List Row) {after later : List Row} {r q : Result (Unit {0}) Refusal} → Lists s rows r after → Lists s rows q later → (r ≡ q) × (after ≡ later)
list_settled s rows p q = one_outcome p q

pub write_settled : (s out : Bytes) {after later : Bytes} {r q : Result ℕ Refusal} → Writes s out r after → Writes s out q later → (r ≡ q) × (after ≡ later)
write_settled s out p q = one_outcome p q

pub strip_settled : (s out : Bytes) {after later : Bytes} {r q : Result ℕ Refusal} → Strips s out r after → Strips s out q later → (r ≡ q) × (after ≡ later)
strip_settled s out p q = one_outcome p q

pub fill_settled : (s : Bytes) (i j f : ℕ) (t out : Bytes) {after later : Bytes} {r q : Result ℕ Refusal} → Fills s i j f t out r after → Fills s i j f t out q later → (r ≡ q) × (after ≡ later)
fill_settled s i j f t out p q = one_outcome p q

-- a refused call leaves the output as it was

pub refused_put : (r x : Refusal) (form out : Bytes) → put_of r form (length out) ≡ Err x → put_after r form out ≡ out
unfolding put_of put_after answered
refused_put r x form out e = by (eqb (put_refusal r form (length out)).number 0) refl e
  where
    by : (b : Bool) → eqb (put_refusal r form (length out)).number 0 ≡ b → pick b (Ok (length form)) (Err (put_refusal r form (length out))) ≡ Err x →
        put_after r form out ≡ out
    by true h e = absurd (false≢true (cc))
    by false h e = rw h

pub refused_write : (s out : Bytes) (x : Refusal) → write_of s (length out) ≡ Err x → write_after s out ≡ out
unfolding write_of write_after
refused_write s out x e = refused_put (file_refusal s) x (write_form s) out e

pub refused_strip : (s out : Bytes) (x : Refusal) → strip_of s (length out) ≡ Err x → strip_after s out ≡ out
unfolding strip_of strip_after
refused_strip s out x e = refused_put (file_refusal s) x (strip_form s) out e

pub refused_fill : (s : Bytes) (i j f : ℕ) (t out : Bytes) (x : Refusal) → fill_of s i j f t (length out) ≡ Err x → fill_after s i j f t out ≡ out
unfolding fill_of fill_after
refused_fill s i j f t out x e = refused_put (fill_refusal s i j f (unpadded t)) x (fill_form s i j f (unpadded t)) out e

-- "Listing is refused by 1, 2 and 21 only and then writes no row"
pub refused_list : (s : Bytes) (rows : List Row) → eqb (list_refusal s (length rows)).number 0 ≡ false → rows_after s rows ≡ rows
unfolding rows_after
refused_list s rows e = rw e

-- "On success the form's length is given, and the bytes after the form keep their values."
pub record Done (r : Refusal) (form out : Bytes) (n : ℕ) : Type 0 where
  pub given : n ≡ length form
  pub accepted : r.number ≡ 0
  pub fits : length form ≤ length out
  pub small : length form ≤ limit
  pub holds : put_after r form out ≡ form ++ drop (length form) out
  pub as_long : length (put_after r form out) ≡ length out

pub done_put : (r : Refusal) (form out : Bytes) (n : ℕ) → put_of r form (length out) ≡ Ok n → Done r form out n
unfolding put_of put_after put_refusal answered earlier refuse_if
done_put r form out n e = by (eqb r.number 0) (ltb (length out) (length form) || ltb limit (length form)) refl refl e
  where
    by : (a b : Bool) → eqb r.number 0 ≡ a → (ltb (length out) (length form) || ltb limit (length form)) ≡ b →
        answered (pick a (refuse_if b 21) r) (length form) ≡ Ok n → Done r form out n
    by true true h k e = absurd (false≢true (cc))
    by true false h k e =
        let z = neither (ltb (length out) (length form)) (ltb limit (length form)) k in
        let f : length form ≤ length out = ltb-false (length out) (length form) z.0 in
        let w : put_after r form out ≡ form ++ drop (length form) out = rw (h, k) in
        record {
          given = cc;
          accepted = eqb-true r.number 0 h;
          fits = f;
          small = ltb-false limit (length form) z.1;
          holds = w;
          as_long = rw (w, length-append form (drop (length form) out), length-drop (length form) out) (omega arith);
        }
    by false b h k e = absurd (false≢true (sym (refused_number e)))
      where
        refused_number : pick (eqb r.number 0) (Ok (length form)) (Err r) ≡ Ok n → true ≡ false
        refused_number e = let z : Err r ≡ Ok n = rw h at e in cc

-- 1: "file over 16,777,216 bytes", for every call

module _ (s : Bytes) (long : limit < length s) where
  over : too_long s ≡ true
  unfolding too_long
  over = lt-ltb limit (length s) long

  long_header : header_refusal s ≡ refusal 1 0 0
  unfolding header_refusal earlier refuse_if
  long_header = rw over

  long_file : file_refusal s ≡ refusal 1 0 0
  unfolding file_refusal earlier
  long_file = rw long_header

  pub long_find : (i : ℕ) → find_refusal s i ≡ refusal 1 0 0
  unfolding find_refusal earlier
  long_find i = rw long_header

  long_put : (form : Bytes) (room : ℕ) → put_of (file_refusal s) form room ≡ Err (refusal 1 0 0)
  unfolding put_of put_refusal answered earlier
  long_put form room = rw long_file

  pub long_check : check_of s ≡ Err (refusal 1 0 0)
  unfolding check_of answered
  long_check = rw long_file

  pub long_header_of : header_of s ≡ Err (refusal 1 0 0)
  unfolding header_of answered
  long_header_of = rw long_header

  pub long_section : (i : ℕ) → section_of s i ≡ Err (refusal 1 0 0)
  unfolding section_of answered
  long_section i = rw (long_find i)

  pub long_value : (i j f : ℕ) → value_of s i j f ≡ Err (refusal 1 0 0)
  unfolding value_of value_refusal answered earlier
  long_value i j f = rw (long_find i)

  pub long_list : (room : ℕ) → list_of s room ≡ Err (refusal 1 0 0)
  unfolding list_of list_refusal answered earlier
  long_list room = rw long_header

  pub long_rows : (rows : List Row) → rows_after s rows ≡ rows
  unfolding rows_after list_refusal earlier
  long_rows rows = rw long_header

  pub long_write : (room : ℕ) → write_of s room ≡ Err (refusal 1 0 0)
  unfolding write_of
  long_write room = long_put (write_form s) room

  pub long_strip : (room : ℕ) → strip_of s room ≡ Err (refusal 1 0 0)
  unfolding strip_of
  long_strip room = long_put (strip_form s) room

  pub long_fill : (i j f : ℕ) (t : Bytes) (room : ℕ) → fill_of s i j f t room ≡ Err (refusal 1 0 0)
  unfolding fill_of fill_refusal put_of put_refusal answered earlier
  long_fill i j f t room = rw long_file
