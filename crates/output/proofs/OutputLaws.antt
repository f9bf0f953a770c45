-- Laws of lent output: one form after another, and what is left for a loop to put. Nothing here knows what a form says. Assumes nothing.
use Rattle.std.proofs.Common.{◌≡◌, ℕ, ◌+◌, ◌-◌, ◌<◌, ◌≤◌, ◌^◌, min, [], ◌∷◌, ◌++◌, length, drop, refl, sym, subst, ◌∙◌, arith, length-append, length-drop}
use Rattle.std.proofs.lemmas.List.Edits.{sets}
use Rattle.page.specs.Bytes.{Bytes}
use Rattle.output.specs.Put.{Puts}
use Rattle.output.specs.declared.bytes.Output.{Output}
use Rattle.output.proofs.PutLaws as put

pub put_none : {a : Output} → Puts a [] a
put_none {a} = record { same = refl; within = λ h. put.put_none; past = λ h. omega arith }

-- the same bytes by another name
pub put_as : {a b : Output} {x y : Bytes} → x ≡ y → Puts a x b → Puts a y b
put_as {a} {b} e p = subst (λ (z : Bytes). Puts a z b) e p

-- the place moves on by the form, where a number of the machine names it
moves : {a b : Output} {x : Bytes} → Puts a x b → a.at + length x < 2 ^ 64 → b.at ≡ a.at + length x
moves p h = (p.within h).next

-- one after the other
pub puts : {a b c : Output} {x y : Bytes} → Puts a x b → Puts b y c → Puts a (x ++ y) c
puts {a} {b} {c} {x} {y} p q =
    record {
      same = q.same ∙ p.same;
      within = λ h.
          let k : a.at + (length x + length y) < 2 ^ 64 = rw (length-append x y) at h in
          let l = p.within (omega arith) in
          put.puts l (q.within (omega (arith, l.next)));
      past = λ h.
          let k : 2 ^ 64 ≤ a.at + (length x + length y) = rw (length-append x y) at h in
          grind (arith, moves p, moves q, p.past, q.past);
    }

-- what is left to put ends where the whole form would: a loop's invariant
pub record Todo (before : Output) (form : Bytes) (now : Output) (rest : Bytes) : Type 0 where
  pub rests : (after : Output) → Puts now rest after → Puts before form after

pub begin : {a : Output} {form : Bytes} → Todo a form a form
begin = record { rests = λ _ p. p }

-- where what is left is known by another name
pub left_is : {a b : Output} {form x y : Bytes} → x ≡ y → Todo a form b x → Todo a form b y
left_is {a} {b} {form} e t = subst (λ (z : Bytes). Todo a form b z) e t

pub next : {a b c : Output} {form x y : Bytes} → Todo a form b (x ++ y) → Puts b x c → Todo a form c y
next t p = record { rests = λ d q. t.rests d (puts p q) }

-- where what is left begins with x
pub next_by : {a b c : Output} {form x y r : Bytes} → r ≡ x ++ y → Todo a form b r → Puts b x c → Todo a form c y
next_by e t p = next (left_is e t) p

-- where nothing is left
pub at_end : {a b : Output} {form r : Bytes} → r ≡ [] → Todo a form b r → Puts a form b
at_end {b = b} e t = t.rests b (put_as (sym e) put_none)

-- stores that begin past the room change nothing, and neither does none
sets_past_or_none : (l s : Bytes) (i : ℕ) → (i < length l → length s ≡ 0) → sets l i s ≡ l
sets_past_or_none l [] i h = refl
sets_past_or_none l (x ∷ s) i h = put.sets_past l i (x ∷ s) (grind arith)

-- as much of a form as the room takes: m is what stands once n bytes of it were put
pub sets_fit : (l s m : Bytes) (i n : ℕ) → i < length l → n ≡ min (length s) (length l - i) → put.Todo l i s m (i + n) (drop n s) → m ≡ sets l i s
sets_fit l s m i n h e t =
    sym (sets_past_or_none m (drop n s) (i + n) (λ w. omega (arith, put.same t, length-drop n s))) ∙ t.is
