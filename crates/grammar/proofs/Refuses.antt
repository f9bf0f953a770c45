-- The machine refuses a section exactly as the order of refusals says: each number at its line, with the table's number.
use Rattle.std.specs.Prelude.{Err, Ok, Result}
use mathlib.Core.Path.{◌≡◌, refl, ap, sym, ◌∙◌}
use mathlib.Core.Bool.{Bool, true, false, false≢true}
use mathlib.Core.List.{List, [], ◌∷◌, ◌++◌, append-nil}
use mathlib.Core.Logic.{◌⊎◌, inl, inr, ◌↔◌}
use Prim.Native.Nat.{ℕ, suc, ◌+◌}
use native.Mathlib.Omega.{arith}
use native.Mathlib.Nat.{zero-add}
use lib.ListN.{length}
use Rattle.page.specs.Bytes.{Bytes}
use Rattle.page.specs.Lines.{content}
use Rattle.page.specs.Order.{Order}
use Rattle.page.specs.Section.{step, order_after, continue, finish, run, outcome, refused, table_in}
use Rattle.page.specs.Records.{Record}
use Rattle.page.specs.File.{any}
use Rattle.page.specs.Grammar.{Denotes}
use Rattle.page.specs.Refusals.{FirstBroken, laws, Leads, Reaches, stay, move, is_ended, Refused, at_line, unfinished, section_numbers, OneOf, SoundOr}
use Rattle.page.specs.declared.Phase.{Phase}
use Rattle.page.specs.declared.Phase.TheVariants as P
use Rattle.page.specs.declared.Outcome.{Outcome}
use Rattle.grammar.proofs.Arranged.{Ordered}
use Rattle.grammar.proofs.Steps.{go_exactly, stop_exactly, leads_go, leads_order, ordered_on}
use Rattle.grammar.proofs.Ranged.{laws_ranged, laws_some}
use Rattle.grammar.proofs.Accepts.{denotes_accepted}
use Rattle.laws.proofs.Numbers.{other_number}

-- refused from a phase on, j lines further
data From (latin : Bool) (p : Phase) (o : Order) (ls : List Bytes) (k v j : ℕ) : Type 0 where
  here : (before after : List Bytes) (l : Bytes) (q : Phase) (x : Order) → ls ≡ before ++ (l ∷ after) → Reaches latin p o before q x → FirstBroken (laws latin q x l) v →
      k ≡ table_in q → j ≡ suc (length before) → From latin p o ls k v j
  nowhere : (q : Phase) (x : Order) → Reaches latin p o ls q x → is_ended q ≡ false → k ≡ table_in q → v ≡ 6 → j ≡ length ls → From latin p o ls k v j

module _ (latin : Bool) where
  finish_six : (p : Phase) (m : ℕ) → is_ended p ≡ false → finish p m ≡ refused (table_in p) 6 m
  unfolding finish is_ended table_in
  finish_six P.Tbl m e = refl
  finish_six (P.Atr t) m e = refl
  finish_six (P.Frm t) m e = refl
  finish_six (P.Rows t w n) m e = refl
  finish_six (P.Ended t n) m e = absurd (false≢true (sym e))

  finish_sound : (p : Phase) (m : ℕ) → is_ended p ≡ true → (finish p m).verdict ≡ 0
  unfolding finish is_ended
  finish_sound P.Tbl m e = absurd (false≢true e)
  finish_sound (P.Atr t) m e = absurd (false≢true e)
  finish_sound (P.Frm t) m e = absurd (false≢true e)
  finish_sound (P.Rows t w n) m e = absurd (false≢true e)
  finish_sound (P.Ended t n) m e = refl

  longer : (p q : Phase) (o y : Order) (l : Bytes) (ls : List Bytes) (k v j : ℕ) → Leads latin l p o q y → From latin q y ls k v j → From latin p o (l ∷ ls) k v (suc j)
  longer p q o y l ls k v j h (here before after z r x e g f a b) = here (l ∷ before) after z r x (ap (λ (z : List Bytes). l ∷ z) e) (move h g) f a (ap suc b)
  longer p q o y l ls k v j h (nowhere r x g c a f b) = nowhere r x (move h g) c a f (ap suc b)

  into : (p : Phase) (o : Order) (m : ℕ) (ls : List Bytes) (k v n : ℕ) → Ordered p o → ¬ (v ≡ 0) → run latin p o m ls ≡ refused k v n →
      (j : ℕ) × (n ≡ j + m) × From latin p o ls k v j
  unfolding run continue
  into p o m [] k v n d z e = by (is_ended p) refl
    where
      by : (b : Bool) → is_ended p ≡ b → (j : ℕ) × (n ≡ j + m) × From latin p o [] k v j
      by true h = absurd (z (sym (ap (λ (y : Outcome). y.verdict) e) ∙ finish_sound p m h))
      by false h =
          let f : refused (table_in p) 6 m ≡ refused k v n = sym (finish_six p m h) ∙ e in (
            0,
            sym (ap (λ (y : Outcome). y.line) f) ∙ sym (zero-add m),
            nowhere p o stay h (sym (ap (λ (y : Outcome). y.table) f)) (sym (ap (λ (y : Outcome). y.verdict) f)) refl,
          )
  into p o m (l ∷ ls) k v n d z e = by (λ q x c. into q x (suc m) ls k v n c z) (step latin p o l) refl e
    where
      by : ((q : Phase) (x : Order) → Ordered q x → run latin q x (suc m) ls ≡ refused k v n → (j : ℕ) × (n ≡ j + suc m) × From latin q x ls k v j) → (s : Result Phase ℕ) →
          step latin p o l ≡ s → continue s (table_in p) (suc m) (λ q. run latin q (order_after p o (content l)) (suc m) ls) ≡ refused k v n →
          (j : ℕ) × (n ≡ j + m) × From latin p o (l ∷ ls) k v j
      by ih (Ok q) f e =
          let g = (go_exactly latin l p o d q).0 f in
          let x = ih q (order_after p o (content l)) (ordered_on g d) e in
          (suc x.0, omega (arith, x.1), longer p q o (order_after p o (content l)) l ls k v x.0 g x.2)
      by ih (Err w) f e =
          let a : w ≡ v = ap (λ (y : Outcome). y.verdict) e in
          let b : suc m ≡ n = ap (λ (y : Outcome). y.line) e in
          (1, omega arith, here [] ls l p o refl stay ((stop_exactly latin l p o d v).0 (f ∙ ap Err a)) (sym (ap (λ (y : Outcome). y.table) e)) refl)

  -- lines that lead from p to q are read so, and leave the order as q asks
  pub reach_run : {p q : Phase} {o x : Order} {ls : List Bytes} (m : ℕ) (ms : List Bytes) → Ordered p o → Reaches latin p o ls q x →
      run latin p o m (ls ++ ms) ≡ run latin q x (length ls + m) ms
  unfolding run continue
  reach_run m ms d stay = rw zero-add
  reach_run m ms d (move {r} {y} {ls} h g) =
      rw (leads_go d h, leads_order h) (reach_run (suc m) ms (ordered_on h d) g ∙ ap (λ (n : ℕ). run latin r y n ms) (omega arith))

  pub reach_ordered : {p q : Phase} {o x : Order} {ls : List Bytes} → Ordered p o → Reaches latin p o ls q x → Ordered q x
  reach_ordered d stay = d
  reach_ordered d (move h g) = reach_ordered (ordered_on h d) g

  from : (ls : List Bytes) (k v n : ℕ) → Refused latin ls k v n → run latin P.Tbl [] 0 ls ≡ refused k v n
  unfolding run continue
  from ls k v n (at_line before after x r o e g f a b) =
      rw (e, reach_run 0 (x ∷ after) tt g, (stop_exactly latin x r o (reach_ordered tt g) v).1 f, a, b) (ap (refused (table_in r) v) (omega arith))
  from ls k v n (unfinished r o g c a f b) =
      let z : run latin P.Tbl [] 0 (ls ++ []) ≡ refused k v n = reach_run 0 [] tt g ∙ finish_six r (length ls + 0) c ∙ rw (a, f, b) (ap (refused (table_in r) 6) (omega arith)) in
      rw append-nil at z

  -- the number of a refusal is a section's
  pub refused_ranged : (ls : List Bytes) (k v n : ℕ) → Refused latin ls k v n → OneOf section_numbers v
  unfolding any
  refused_ranged ls k v n (at_line before after l q o s g f a b) = laws_ranged latin q o l v f
  refused_ranged ls k v n (unfinished q o g c a f b) = rw f

  -- either the verdict is 0, or the outcome is a refusal
  settled : (p : Phase) (o : Order) (m : ℕ) (ls : List Bytes) → Ordered p o →
      ((run latin p o m ls).verdict ≡ 0) ⊎ ((k : ℕ) × (v : ℕ) × (n : ℕ) × (¬ (v ≡ 0)) × (run latin p o m ls ≡ refused k v n))
  unfolding run continue
  settled p o m [] d = by (is_ended p) refl
    where
      by : (b : Bool) → is_ended p ≡ b → ((finish p m).verdict ≡ 0) ⊎ ((k : ℕ) × (v : ℕ) × (n : ℕ) × (¬ (v ≡ 0)) × (finish p m ≡ refused k v n))
      by true h = inl (finish_sound p m h)
      by false h = inr (table_in p, 6, m, (λ e. omega arith), finish_six p m h)
  settled p o m (l ∷ ls) d = by (λ q x. settled q x (suc m) ls) (step latin p o l) refl
    where
      by : ((q : Phase) (x : Order) → Ordered q x → ((run latin q x (suc m) ls).verdict ≡ 0) ⊎ ((k : ℕ) × (v : ℕ) × (n : ℕ) × (¬ (v ≡ 0)) × (run latin q x (suc m) ls ≡ refused k v n))) →
          (s : Result Phase ℕ) → step latin p o l ≡ s → ((continue s (table_in p) (suc m) (λ q. run latin q (order_after p o (content l)) (suc m) ls)).verdict ≡ 0) ⊎
          ((k : ℕ) × (v : ℕ) × (n : ℕ) × (¬ (v ≡ 0)) × (continue s (table_in p) (suc m) (λ q. run latin q (order_after p o (content l)) (suc m) ls) ≡ refused k v n))
      by ih (Ok q) f = ih q (order_after p o (content l)) (ordered_on ((go_exactly latin l p o d q).0 f) d)
      by ih (Err w) f = inr (table_in p, w, suc m, laws_some latin p o l w ((stop_exactly latin l p o d w).0 f), refl)

-- a section has table number k, verdict v (not 0) and line n exactly if it is refused so by the order of refusals
pub refuses_exactly : (latin : Bool) (ls : List Bytes) (k v n : ℕ) → ((outcome latin ls ≡ refused k v n) × ¬ (v ≡ 0)) ↔ Refused latin ls k v n
unfolding outcome any
refuses_exactly latin ls k v n = (there, λ r. (from latin ls k v n r, other_number section_numbers v 0 (refused_ranged latin ls k v n r) refl))
  where
    named : (j : ℕ) → n ≡ j → From latin P.Tbl [] ls k v j → Refused latin ls k v n
    named j e (here before after l q o s g f a b) = at_line before after l q o s g f a (e ∙ b)
    named j e (nowhere q o g c a f b) = unfinished q o g c a f (e ∙ b)

    there : (run latin P.Tbl [] 0 ls ≡ refused k v n) × ¬ (v ≡ 0) → Refused latin ls k v n
    there x = let y = into latin P.Tbl [] 0 ls k v n tt x.1 x.0 in named y.0 (let z = y.1 in omega arith) y.2

-- every section is accepted with verdict 0, or refused
pub section_settled : (latin : Bool) (ls : List Bytes) → ((outcome latin ls).verdict ≡ 0) ⊎ ((k : ℕ) × (v : ℕ) × (n : ℕ) × (outcome latin ls ≡ refused k v n) × Refused latin ls k v n)
unfolding outcome
section_settled latin ls = by (settled latin P.Tbl [] 0 ls tt)
  where
    by : ((run latin P.Tbl [] 0 ls).verdict ≡ 0) ⊎ ((k : ℕ) × (v : ℕ) × (n : ℕ) × (¬ (v ≡ 0)) × (run latin P.Tbl [] 0 ls ≡ refused k v n)) →
        ((run latin P.Tbl [] 0 ls).verdict ≡ 0) ⊎ ((k : ℕ) × (v : ℕ) × (n : ℕ) × (run latin P.Tbl [] 0 ls ≡ refused k v n) × Refused latin ls k v n)
    by (inl e) = inl e
    by (inr x) = inr (x.0, x.1, x.2, x.4, (refuses_exactly latin ls x.0 x.1 x.2).0 (x.4, x.3))

-- a section's verdict is 0 or one of its numbers
pub verdict_ranged : (latin : Bool) (ls : List Bytes) → SoundOr section_numbers (outcome latin ls).verdict
verdict_ranged latin ls = by (section_settled latin ls)
  where
    by : ((outcome latin ls).verdict ≡ 0) ⊎ ((k : ℕ) × (v : ℕ) × (n : ℕ) × (outcome latin ls ≡ refused k v n) × Refused latin ls k v n) →
        SoundOr section_numbers (outcome latin ls).verdict
    by (inl e) = inl e
    by (inr x) = inr (rw x.3 (refused_ranged latin ls x.0 x.1 x.2 x.4))

-- what is refused denotes nothing
pub refused_denotes_nothing : (latin : Bool) (ls : List Bytes) (k v n t : ℕ) (rs : List Record) → Refused latin ls k v n → ¬ Denotes latin ls t rs
refused_denotes_nothing latin ls k v n t rs r d =
    let x = (refuses_exactly latin ls k v n).1 r in
    x.1 (ap (λ (o : Outcome). o.verdict) (sym x.0 ∙ denotes_accepted latin ls t rs d))
