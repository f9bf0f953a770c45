-- Laws of putting bytes: one form after another, what is left for a loop to put, what stands where there is room and where there is
-- none. Nothing here knows what a form says. Assumes nothing.
use mathlib.Core.Path.{◌≡◌, refl, ap, sym, subst, ◌∙◌}
use mathlib.Core.List.{[], ◌∷◌, ◌++◌, append-nil}
use Prim.Native.Nat.{ℕ, suc, ◌+◌, ◌≤◌, ◌<◌}
use native.Mathlib.Numerals.{add-one}
use native.Mathlib.Nat.{add-zero, add-suc, suc-add}
use native.Mathlib.Omega.{arith}
use lib.ListN.{length, set, take, drop, get_or, length-append}
use lib.Seq.{sets, sets-eq, set_out, length-sets, drop-cons}
use Rattle.page.specs.Bytes.{Bytes}
use Rattle.output.specs.Put.{Put}

pub sets_none : (at : ℕ) (form : Bytes) → sets [] at form ≡ []
sets_none at [] = refl
sets_none at (v ∷ form) = sets_none (suc at) form

pub sets_past : (l : Bytes) (at : ℕ) (form : Bytes) → length l ≤ at → sets l at form ≡ l
sets_past l at [] h = refl
sets_past l at (v ∷ form) h = ap (λ (x : Bytes). sets x (suc at) form) (set_out l at v h) ∙ sets_past l (suc at) form (omega arith)

pub sets_append : (l : Bytes) (i : ℕ) (a b : Bytes) → sets (sets l i a) (i + length a) b ≡ sets l i (a ++ b)
sets_append l i [] b = ap (λ (k : ℕ). sets l k b) (add-zero i)
sets_append l i (x ∷ a) b =
    ap (λ (k : ℕ). sets (sets (set l i x) (suc i) a) k b) (add-suc i (length a) ∙ sym (suc-add i (length a)))
    ∙ sets_append (set l i x) (suc i) a b

-- what is left to put ends where the whole form would: a loop's invariant
pub record Todo (before : Bytes) (at : ℕ) (form now : Bytes) (o : ℕ) (rest : Bytes) : Type 0 where
  pub is : sets now o rest ≡ sets before at form
  pub next : o + length rest ≡ at + length form

pub begin : {l : Bytes} {i : ℕ} {form : Bytes} → Todo l i form l i form
begin = record { is = refl; next = refl }

-- where what is left is known by another name
pub left_is : {l : Bytes} {i : ℕ} {form m : Bytes} {j : ℕ} {a b : Bytes} → a ≡ b → Todo l i form m j a → Todo l i form m j b
left_is {l} {i} {form} {m} {j} e t = subst (λ (x : Bytes). Todo l i form m j x) e t

pub next : {l : Bytes} {i : ℕ} {form m n : Bytes} {j k : ℕ} {a b : Bytes}
    → Todo l i form m j (a ++ b) → Put m j a n k → Todo l i form n k b
next {l} {i} {form} {m} {n} {j} {k} {a} {b} t p =
    record {
      is =
          ap (λ (x : Bytes). sets x k b) p.is
          ∙ ap (λ (x : ℕ). sets (sets m j a) x b) p.next ∙ sets_append m j a b ∙ t.is;
      next = omega (arith, p.next, simp length-append at t.next);
    }

-- where what is left begins with a
pub next_by : {l : Bytes} {i : ℕ} {form m n : Bytes} {j k : ℕ} {a b r : Bytes}
    → r ≡ a ++ b → Todo l i form m j r → Put m j a n k → Todo l i form n k b
next_by e t p = next (left_is e t) p

-- where nothing is left
pub at_end : {l : Bytes} {i : ℕ} {form m : Bytes} {j : ℕ} {r : Bytes} → r ≡ [] → Todo l i form m j r → Put l i form m j
at_end {l} {i} {form} {m} {j} e t =
    let u : Todo l i form m j [] = left_is e t in
    record { is = u.is; next = omega (arith, u.next) }

-- what is written into keeps its length
pub same : {l : Bytes} {i : ℕ} {form m : Bytes} {j : ℕ} {r : Bytes} → Todo l i form m j r → length m ≡ length l
same {l} {i} {form} {m} {j} {r} t = sym (length-sets m j r) ∙ ap length t.is ∙ length-sets l i form

pub put_same : {l : Bytes} {i : ℕ} {form m : Bytes} {j : ℕ} → Put l i form m j → length m ≡ length l
put_same {l} {i} {form} p = ap length p.is ∙ length-sets l i form

-- the rest of a list from an index: what stands there, and the rest from the next
pub first_of : (s : Bytes) (i : ℕ) → i < length s → drop i s ≡ get_or s i 0 ∷ drop (i + 1) s
first_of s i h = rw (add-one, drop-cons s i 0)

pub put_none : {l : Bytes} {i : ℕ} → Put l i [] l i
put_none = record { is = refl; next = omega arith }

-- the same bytes by another name
pub put_as : {l m a b : Bytes} {i j : ℕ} → a ≡ b → Put l i a m j → Put l i b m j
put_as {l} {m} {i = i} {j = j} e p = subst (λ (x : Bytes). Put l i x m j) e p

-- one after the other
pub puts : {l m n : Bytes} {i j k : ℕ} {a b : Bytes} → Put l i a m j → Put m j b n k → Put l i (a ++ b) n k
puts {a = a} {b = b} p q = at_end refl (next_by (sym (append-nil b)) (next (begin {form = a ++ b}) p) q)

-- where there is room
pub put_room : {l : Bytes} {i : ℕ} {form m : Bytes} {r : ℕ} → Put l i form m r → r ≤ length l → m ≡ take i l ++ form ++ drop r l
put_room {l} {i} {form} p h = p.is ∙ sets-eq form l i (rw p.next at h) ∙ rw p.next

-- where there is none: putting into nothing only counts
pub counted : {form m : Bytes} {r : ℕ} → Put [] 0 form m r → (m ≡ []) × (r ≡ length form)
counted {form} p = (p.is ∙ sets_none 0 form, omega (arith, p.next))
