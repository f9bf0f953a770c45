-- The first question that refuses, once for every call. Assumes nothing.
use mathlib.Core.Path.{◌≡◌, refl, ap, sym, ◌∙◌}
use mathlib.Core.Bool.{Bool, true, false, not}
use mathlib.Core.List.{List, ◌∷◌}
use mathlib.Core.Logic.{◌⊎◌, inl, inr, ◌↔◌}
use Prim.Native.Nat.{ℕ, zero, suc, ◌≤◌}
use native.Mathlib.Omega.{arith}
use lib.Dec.{eqb, ltb}
use borrow.Author.Tests.{eqb-true, eqb-false, ne_eqb, ltb-true, ltb-false}
use Rattle.page.specs.Bytes.{pick}
use Rattle.page.specs.Answers.{refusal, earlier, refuse_if}
use Rattle.page.specs.File.{any}
use Rattle.page.specs.Reading.{outside}
use Rattle.page.specs.Rules.{Every, none_left, one_more}
use Rattle.page.specs.declared.Refusal.{Refusal}
use Rattle.calls.specs.Turns.{Question, ask, first_refusal, Turn, now, next, Outside, Within}
use Rattle.laws.proofs.Decides.{Decides, holds, fails, one_of, equal, below}
use Rattle.page.proofs.TestLaws.{neither}

-- no question gives 0
abbrev pub Numbered : List Question → Type 0
Numbered qs = Every (λ (q : Question). ¬ (q.number ≡ 0)) qs

-- what two say together: the first, if it refuses, and else the second
pub earlier_exactly : (a b x : Refusal) → ¬ (x.number ≡ 0) → earlier a b ≡ x ↔ ((a ≡ x) ⊎ ((a.number ≡ 0) × (b ≡ x)))
unfolding earlier
earlier_exactly a b x z = (into (eqb a.number 0) refl, back)
  where
    into : (q : Bool) → eqb a.number 0 ≡ q → pick q b a ≡ x → (a ≡ x) ⊎ ((a.number ≡ 0) × (b ≡ x))
    into true h e = inr (eqb-true a.number 0 h, e)
    into false h e = inl e

    back : (a ≡ x) ⊎ ((a.number ≡ 0) × (b ≡ x)) → pick (eqb a.number 0) b a ≡ x
    back (inl e) = rw (ne_eqb a.number 0 (λ (w : a.number ≡ 0). z (ap (λ (r : Refusal). r.number) (sym e) ∙ w))) e
    back (inr e) = rw e.0 e.1

turn_into : (v : ℕ) → ¬ (v ≡ 0) → {qs : List Question} → Numbered qs → first_refusal qs ≡ refusal v 0 0 → Turn v qs
unfolding first_refusal refuse_if earlier
turn_into v z none_left e = absurd (z (sym (ap (λ (r : Refusal). r.number) e)))
turn_into v z (one_more {x = q} {xs = qs} m n) e = by q.refuses q.number m e (turn_into v z n)
  where
    by : (b : Bool) (w : ℕ) → ¬ (w ≡ 0) → earlier (refuse_if b w) (first_refusal qs) ≡ refusal v 0 0 → (first_refusal qs ≡ refusal v 0 0 → Turn v qs) → Turn v (ask b w ∷ qs)
    by true w m e further = let k : w ≡ v = ap (λ (r : Refusal). r.number) (rw (ne_eqb w 0 m) at e) in rw k now
    by false w m e further = next (further e)

turn_back : (v : ℕ) → ¬ (v ≡ 0) → {qs : List Question} → Turn v qs → first_refusal qs ≡ refusal v 0 0
unfolding first_refusal refuse_if earlier
turn_back v z now = rw (ne_eqb v 0 z)
turn_back v z (next t) = turn_back v z t

-- "the first of": asked one after another, questions refuse with v exactly if it is v's turn
pub first_exactly : (v : ℕ) → ¬ (v ≡ 0) → {qs : List Question} → Numbered qs → first_refusal qs ≡ refusal v 0 0 ↔ Turn v qs
first_exactly v z n = (turn_into v z n, turn_back v z)

-- after something that does not itself answer v with no place
pub after_exactly : (a : Refusal) (v : ℕ) → ¬ (v ≡ 0) → ¬ (a ≡ refusal v 0 0) → {qs : List Question} → Numbered qs → earlier a (first_refusal qs) ≡ refusal v 0 0 ↔ ((a.number ≡ 0) × Turn v qs)
after_exactly a v z other {qs} n = (λ e. into ((earlier_exactly a (first_refusal qs) (refusal v 0 0) z).0 e), λ h. (earlier_exactly a (first_refusal qs) (refusal v 0 0) z).1 (inr (h.0, turn_back v z h.1)))
  where
    into : (a ≡ refusal v 0 0) ⊎ ((a.number ≡ 0) × (first_refusal qs ≡ refusal v 0 0)) → (a.number ≡ 0) × Turn v qs
    into (inl e) = absurd (other e)
    into (inr e) = (e.0, turn_into v z n e.1)

-- none of these questions gives v
pub absent : {v : ℕ} {qs : List Question} → any (λ (q : Question). eqb q.number v) qs ≡ false → ¬ Turn v qs
unfolding any
absent {v} e (now {qs}) = eqb-false v v (neither (eqb v v) (any (λ (q : Question). eqb q.number v) qs) e).0 refl
absent {v} e (next {n} {qs} t) = absent (neither (eqb n v) (any (λ (q : Question). eqb q.number v) qs) e).1 t

-- the turn of the first question; of a later one, for which the first must not refuse. Of a question asked the other way round too

pub turn_now : {v : ℕ} {b : Bool} {A : Type 0} {qs : List Question} → Decides A b → any (λ (q : Question). eqb q.number v) qs ≡ false → Turn v (ask b v ∷ qs) ↔ A
turn_now {v} {b} {A} {qs} (holds x) other = (λ t. x, λ a. now)
turn_now {v} {b} {A} {qs} (fails n) other = (into, λ a. absurd (n a))
  where
    into : Turn v (ask false v ∷ qs) → A
    into (next t) = absurd (absent other t)

now_number : {v n : ℕ} {qs : List Question} → Turn v (ask true n ∷ qs) → n ≡ v
now_number now = refl

later_turn : {v n : ℕ} {qs : List Question} → Turn v (ask false n ∷ qs) → Turn v qs
later_turn (next t) = t

pub turn_next : {v n : ℕ} {b : Bool} {A B : Type 0} {qs : List Question} → Decides A b → eqb n v ≡ false → Turn v qs ↔ B → Turn v (ask b n ∷ qs) ↔ ((¬ A) × B)
turn_next {v} {n} {b} {A} {B} {qs} (holds x) other f = (λ t. absurd (eqb-false n v other (now_number t)), λ h. absurd (h.0 x))
turn_next {v} {n} {b} {A} {B} {qs} (fails m) other f = (λ t. (m, f.0 (later_turn t)), λ h. next (f.1 h.1))

pub turned : {A : Type 0} {b : Bool} → Decides A b → Decides (¬ A) (not b)
turned (holds x) = fails (λ n. n x)
turned (fails n) = holds n

pub turn_past : {v n : ℕ} {b : Bool} {A B : Type 0} {qs : List Question} → Decides A b → eqb n v ≡ false → Turn v qs ↔ B → Turn v (ask (not b) n ∷ qs) ↔ (A × B)
turn_past {v} {n} {b} {A} {B} {qs} (fails m) other f = (λ t. absurd (eqb-false n v other (now_number t)), λ h. absurd (m h.0))
turn_past {v} {n} {b} {A} {B} {qs} (holds x) other f = (λ t. (x, f.0 (later_turn t)), λ h. next (f.1 h.1))

-- one equivalence after another
pub via : {A B C : Type 0} → A ↔ B → B ↔ C → A ↔ C
via f g = (λ a. g.0 (f.0 a), λ c. f.1 (g.1 c))

-- the second of two changed
pub second : {A B C : Type 0} → B ↔ C → (A × B) ↔ (A × C)
second f = (λ h. (h.0, f.0 h.1), λ h. (h.0, f.1 h.1))

-- places counted from 1

pub outside_d : (i n : ℕ) → Decides (Outside i n) (outside i n)
unfolding outside
outside_d i n = one_of (equal i 0) (below n i)

pub within_not : (i n : ℕ) → ¬ Outside i n → Within i n
within_not zero n o = absurd (o (inl refl))
within_not (suc i) n o = (omega arith, by (ltb n (suc i)) refl)
  where
    by : (b : Bool) → ltb n (suc i) ≡ b → suc i ≤ n
    by true h = absurd (o (inr (ltb-true n (suc i) h)))
    by false h = ltb-false n (suc i) h

pub not_within : (i n : ℕ) → Within i n → ¬ Outside i n
not_within i n w (inl e) = omega (arith, w)
not_within i n w (inr e) = omega (arith, w)
