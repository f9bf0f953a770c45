-- A form is written whole or not at all: from a measuring pass over no room and a writing pass over all of it to what document 01
-- says of lent output, whatever the form. Assumes nothing.
use Rattle.std.specs.Prelude.{Err, Ok, Result}
use mathlib.Core.Path.{◌≡◌, refl, ap, sym, ◌∙◌}
use mathlib.Core.Bool.{Bool, true, false, ◌||◌}
use mathlib.Core.List.{◌++◌}
use Prim.Native.Nat.{ℕ, ◌≤◌, ◌<◌, ◌+◌, ◌^◌}
use native.Mathlib.Omega.{arith}
use borrow.Author.Tests.{eq-eqb, ne_eqb, eqb-true, eqb-false}
use lib.Dec.{eqb, ltb}
use lib.ListN.{length, drop}
use Rattle.std.proofs.lemmas.Bool.Decides.{nat_tests}
use Rattle.page.specs.Bytes.{Bytes, pick}
use Rattle.page.specs.Answers.{earlier, refuse_if, answered}
use Rattle.page.specs.File.{limit}
use Rattle.page.specs.Writing.{put_refusal, put_of, put_after}
use Rattle.page.specs.declared.Refusal.{Refusal}
use Rattle.output.specs.Put.{Put, Puts, Wrote}
use Rattle.output.specs.declared.bytes.Output.{Output}
use Rattle.output.proofs.PutLaws.{put_room}

-- the form at the front of what stood there, where it fits
pub put_front : {form m : Bytes} {r : ℕ} (l : Bytes) → Put l 0 form m r → r ≤ length l → m ≡ form ++ drop (length form) l
put_front {form} {m} {r} l p h =
    let e : r ≡ length form = omega (arith, p.next) in
    put_room p h ∙ ap (λ (k : ℕ). form ++ drop k l) e

-- by the refusal that stands in the end
by_refusal : (r q : Refusal) (form l : Bytes) → put_refusal r form (length l) ≡ q
    → (w : Result ℕ Refusal) (m : Bytes) → w ≡ answered q (length form) → m ≡ pick (eqb q.number 0) (form ++ drop (length form) l) l
    → Wrote r form l m w
unfolding put_of put_after
by_refusal r q form l e w m a b = record { answer = rw e a; left = rw e b }

stands : (r q : Refusal) (form l : Bytes) → put_refusal r form (length l) ≡ q → (q.number ≡ 0 → ⊥) → Wrote r form l l (Err q)
unfolding answered
stands r q form l e h =
    let x : eqb q.number 0 ≡ _ = ne_eqb q.number 0 h in
    by_refusal r q form l e (Err q) l (rw x) (rw x)

-- what refused the call before any writing
pub refused : (r : Refusal) (form l : Bytes) → (r.number ≡ 0 → ⊥) → Wrote r form l l (Err r)
unfolding put_refusal earlier
refused r form l h = stands r r form l (rw (ne_eqb r.number 0 h)) h

-- what is refused, and what has room

answered_err : {T : Type 0} (q : Refusal) (t : T) (e : Refusal) → answered q t ≡ Err e → (q.number ≡ 0 → ⊥) × (q ≡ e)
unfolding answered
answered_err q t e x = by (eqb q.number 0) refl x
  where
    by : (b : Bool) → eqb q.number 0 ≡ b → pick b (Ok t) (Err q) ≡ Err e → (q.number ≡ 0 → ⊥) × (q ≡ e)
    by true z y = cc
    by false z y = (eqb-false q.number 0 z, cc)

answered_ok : {T : Type 0} (q : Refusal) (t u : T) → answered q t ≡ Ok u → q.number ≡ 0
unfolding answered
answered_ok q t u x = by (eqb q.number 0) refl x
  where
    by : (b : Bool) → eqb q.number 0 ≡ b → pick b (Ok t) (Err q) ≡ Ok u → q.number ≡ 0
    by true z y = eqb-true q.number 0 z
    by false z y = cc

has_room : (a b : Bool) → (refuse_if (a || b) 21).number ≡ 0 → (a ≡ false) × (b ≡ false)
unfolding refuse_if
has_room true b e = absurd (omega arith)
has_room false true e = absurd (omega arith)
has_room false false e = (refl, refl)

-- a form that no number of the machine measures is longer than any that is written
same_room : (l n m : ℕ) → (n < 2 ^ 64 → m ≡ n) → (2 ^ 64 ≤ n → 2 ^ 64 ≤ m + 1) → (ltb l m || ltb limit m) ≡ (ltb l n || ltb limit n)
same_room l n m a b = grind (arith, nat_tests)

-- Measured over no room the form needs what stands in b; x says whether there is room in l.
module _ (r : Refusal) (form l : Bytes) {a b : Output} (none : r.number ≡ 0) (begins : a.at ≡ 0) (measured : Puts a form b)
    {x : Result Unit Refusal} (room : x ≡ answered (refuse_if (ltb (length l) b.at || ltb limit b.at) 21) (tt {0})) where
  abbrev q : Refusal
  q = refuse_if (ltb (length l) b.at || ltb limit b.at) 21

  measures : length form < 2 ^ 64 → b.at ≡ length form
  measures h = omega (arith, (measured.within (omega arith)).next)

  overflows : 2 ^ 64 ≤ length form → 2 ^ 64 ≤ b.at + 1
  overflows h = measured.past (omega arith)

  in_the_end : put_refusal r form (length l) ≡ q
  unfolding put_refusal earlier
  in_the_end = rw (eq-eqb r.number 0 none, same_room (length l) (length form) b.at measures overflows)

  pub no_room : {e : Refusal} {w : Result ℕ Refusal} → x ≡ Err e → w ≡ Err e → Wrote r form l l w
  no_room {e} h y =
      let k = answered_err q (tt {0}) e (sym room ∙ h) in
      rw (y, ← k.1) (stands r q form l in_the_end k.0)

  -- m is what was lent, as d leaves it
  pub fits : {u : Unit} → x ≡ Ok u → {c d : Output} {m : Bytes} → c.at ≡ 0 → c.room.now ≡ l → Puts c form d → m ≡ d.room.now
      → Wrote r form l m (Ok d.at)
  unfolding answered
  fits {u} h {c} {d} {m} starts lent p e =
      let z : q.number ≡ 0 = answered_ok q (tt {0}) u (sym room ∙ h) in
      let y = has_room (ltb (length l) b.at) (ltb limit b.at) z in
      let n : (length form < 2 ^ 64) × (length form ≤ length l) = grind (arith, nat_tests, measures, overflows, y.0, y.1) in
      let w : Put c.room.now c.at form d.room.now d.at = p.within (omega (arith, n)) in
      let k : d.at ≡ length form = omega (arith, w.next) in
      let v : Put l 0 form m d.at = rw (starts, lent, ← e) at w in
      by_refusal r q form l in_the_end (Ok d.at) m (rw (eq-eqb q.number 0 z, k)) (rw (eq-eqb q.number 0 z) (put_front l v (omega (arith, n))))
