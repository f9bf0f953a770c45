-- An answer refuses with x exactly if the refusal behind it is x. Assumes nothing.
use Rattle.std.specs.Prelude.{Err, Ok, Result}
use mathlib.Core.Path.{◌≡◌, refl, ap, sym, ◌∙◌}
use mathlib.Core.Bool.{Bool, true, false, false≢true}
use mathlib.Core.Logic.{◌↔◌}
use Prim.Native.Nat.{ℕ, ◌<◌}
use native.Mathlib.Omega.{arith}
use lib.Dec.{eqb}
use borrow.Author.Tests.{ne_eqb}
use Rattle.page.specs.Bytes.{pick}
use Rattle.page.specs.Answers.{answered, paper_of}
use Rattle.page.specs.declared.Refusal.{Refusal}
use Rattle.page.specs.declared.Copied.{Copied}

module _ (r x : Refusal) (z : ¬ (x.number ≡ 0)) where
  refuses : r ≡ x → eqb r.number 0 ≡ false
  refuses e = ne_eqb r.number 0 (λ (w : r.number ≡ 0). z (ap (λ (q : Refusal). q.number) (sym e) ∙ w))

  pub answered_exactly : {T : Type 0} (v : T) → answered r v ≡ Err x ↔ r ≡ x
  unfolding answered
  answered_exactly v = (by (eqb r.number 0), λ e. rw (refuses e) (ap Err e))
    where
      by : (b : Bool) → pick b (Ok v) (Err r) ≡ Err x → r ≡ x
      by true e = absurd (false≢true (cc))
      by false e = cc

-- an accepted text is the one that was to be handed out
pub handed_is : (r : Refusal) (t x : Copied) → answered r t ≡ Ok x → t ≡ x
unfolding answered
handed_is r t x e = by (eqb r.number 0) e
  where
    by : (b : Bool) → pick b (Ok t) (Err r) ≡ Ok x → t ≡ x
    by true e = cc
    by false e = absurd (false≢true (cc))

-- but for the owner, a text's answer is that of a call that writes
abbrev pub as_written : Result Copied Refusal → Result ℕ Refusal
as_written (Ok x) = Ok x.length
as_written (Err r) = Err r

pub handed_written : (r : Refusal) (t : Copied) → as_written (answered r t) ≡ answered r t.length
unfolding answered
handed_written r t = by (eqb r.number 0)
  where
    by : (b : Bool) → as_written (pick b (Ok t) (Err r)) ≡ pick b (Ok t.length) (Err r)
    by true = refl
    by false = refl

pub handed_number : (w : Result Copied Refusal) → paper_of w ≡ paper_of (as_written w)
unfolding paper_of
handed_number (Ok x) = refl
handed_number (Err r) = refl

pub some_number : (v : ℕ) → 0 < v → ¬ (v ≡ 0)
some_number v l e = omega arith
