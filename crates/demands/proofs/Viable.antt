-- A section is refused neither too early nor too late: the lines before its place can still become a section, and with the line there they cannot.
use Rattle.std.specs.Prelude.{Err, Ok, Result}
use mathlib.Core.Path.{◌≡◌, refl, ap, sym, ◌∙◌}
use mathlib.Core.Bool.{Bool, true, false≢true}
use mathlib.Core.List.{List, [], ◌∷◌, ◌++◌, append-nil}
use mathlib.Core.Logic.{◌↔◌}
use Prim.Native.Nat.{ℕ, suc, ◌+◌, ◌≤◌, ◌<◌, ◌^◌}
use native.Mathlib.Omega.{arith}
use native.Mathlib.Nat.{zero-add}
use lib.ListN.{length, length-append}
use Rattle.page.specs.Bytes.{Bytes}
use Rattle.page.specs.Lines.{content}
use Rattle.page.specs.Tables.{TABLES, table_at, width}
use Rattle.page.specs.Order.{Order, listed_order, arranged}
use Rattle.page.specs.Section.{step, order_after, continue, run, outcome, table_in, finish}
use Rattle.page.specs.Records.{Record}
use Rattle.page.specs.Form.{line, decimal}
use Rattle.page.specs.Grammar.{Denotes}
use Rattle.page.specs.Refusals.{FirstBroken, laws, Leads, quiet, tbl, atr, frm, mark, record_line, end, Reaches, stay, move, is_ended, Refused, at_line, unfinished}
use Rattle.page.specs.declared.LineEnd.TheVariants as E
use Rattle.page.specs.declared.Phase.{Phase}
use Rattle.page.specs.declared.Phase.TheVariants as P
use Rattle.page.specs.declared.Outcome.{Outcome}
use Rattle.page.proofs.OrderLaws.{listed_arranged}
use Rattle.demands.specs.Viable.{Viable, SectionPlace, breaks, lacks}
use Rattle.grammar.proofs.Arranged.{Ordered}
use Rattle.grammar.proofs.Ranged.{laws_some}
use Rattle.grammar.proofs.Steps.{go_exactly, stop_exactly, leads_go, leads_order, ordered_on}
use Rattle.grammar.proofs.Accepts.{denotes_accepted, accepted_denotes}
use Rattle.grammar.proofs.Refuses.{reach_run, reach_ordered, refused_denotes_nothing}
use Rattle.round.proofs.RoundHeads.{heads, tbl_line, atr_line}
use Rattle.round.proofs.RoundSteps.{end_step_back}
use Rattle.demands.proofs.Samples.{formats_line, formats_step, sample_line, sample_step}

-- what the machine can have met in k lines
abbrev Sane : Phase → ℕ → Type 0
Sane P.Tbl k = Unit
Sane (P.Atr t) k = t < TABLES
Sane (P.Frm t) k = t < TABLES
Sane (P.Rows t m n) k = (t < TABLES) × (n ≤ k)
Sane (P.Ended t n) k = Unit

later : (p : Phase) (k : ℕ) → Sane p k → Sane p (suc k)
later P.Tbl k x = tt
later (P.Atr t) k x = x
later (P.Frm t) k x = x
later (P.Rows t m n) k x = (x.0, (let h = x.1 in omega arith))
later (P.Ended t n) k x = tt

module _ (latin : Bool) where
  sane_on : {l : Bytes} {p q : Phase} {o x : Order} (k : ℕ) → Leads latin l p o q x → Sane p k → Sane q (suc k)
  sane_on k (quiet {p} h) x = later p k x
  sane_on k (tbl h) x = h.known
  sane_on k (atr h) x = x
  sane_on k (frm h) x = (x, omega arith)
  sane_on k (mark h) x = (x.0, (let h = x.1 in omega arith))
  sane_on k (record_line h) x = (x.0, (let h = x.1 in omega arith))
  sane_on k (end h) x = tt

  sane_reach : {p q : Phase} {o x : Order} {ls : List Bytes} (k : ℕ) → Reaches latin p o ls q x → Sane p k → Sane q (length ls + k)
  sane_reach {p} k stay x = rw zero-add x
  sane_reach {q = r} k (move {ls} h g) x = let z : length ls + suc k ≡ suc (length ls) + k = omega arith in rw z at (sane_reach (suc k) g (sane_on k h x))

  reach_join : {p q r : Phase} {o x y : Order} {xs ys : List Bytes} → Reaches latin p o xs q x → Reaches latin q x ys r y → Reaches latin p o (xs ++ ys) r y
  reach_join stay g = g
  reach_join (move h f) g = move h (reach_join f g)

  reach_split : {p r : Phase} {o y : Order} (xs ys : List Bytes) → Reaches latin p o (xs ++ ys) r y → (q : Phase) × (x : Order) × Reaches latin p o xs q x × Reaches latin q x ys r y
  reach_split {p} {o} [] ys g = (p, o, stay, g)
  reach_split (l ∷ xs) ys (move h g) = let z = reach_split xs ys g in (z.0, z.1, move h z.2, z.3)

  reach_once : {p q r : Phase} {o x y : Order} {ls : List Bytes} → Ordered p o → Reaches latin p o ls q x → Reaches latin p o ls r y → (q ≡ r) × (x ≡ y)
  reach_once d stay stay = (refl, refl)
  reach_once d (move {q} {x} h g) (move {q = s} {x = y} i f) =
      let a = leads_go d h in
      let b = leads_go d i in
      let z : s ≡ q = cc in
      let w : y ≡ x = sym (leads_order i) ∙ leads_order h in
      reach_once (ordered_on h d) g (rw (z, w) at f)

  -- what a line leads to, where it leaves the order x
  one_step : {p q : Phase} {o x : Order} (l : Bytes) → Ordered p o → step latin p o l ≡ Ok q → order_after p o (content l) ≡ x → Leads latin l p o q x
  one_step {p} {q} {o} l d e w = rw w at ((go_exactly latin l p o d q).0 e)

  abbrev Ends : Phase → Order → Type 0
  Ends p o = (more : List Bytes) × (t : ℕ) × (n : ℕ) × (x : Order) × Reaches latin p o more (P.Ended t n) x

  first : {l : Bytes} {p q : Phase} {o x : Order} → Leads latin l p o q x → Ends q x → Ends p o
  first {l} h y = (l ∷ y.0, y.1, y.2, y.3, move h y.4)

  rows_end : (t : ℕ) (o : Order) (n : ℕ) → arranged (width t) o ≡ true → n < 10 ^ 18 → Ends (P.Rows t 0 n) o
  unfolding order_after
  rows_end t o n a h = first (one_step (line E.Lf "end" (decimal n ∷ [])) a (end_step_back E.Lf latin t o n h) refl) ([], t, n, o, stay)

  frm_end : (t : ℕ) (o : Order) → t < TABLES → arranged (width t) o ≡ true → Ends (P.Frm t) o
  unfolding order_after
  frm_end t o h a = first (one_step (formats_line t o) a (formats_step latin t o h a) refl) (rows_end t o 0 a (omega arith))

  atr_end : (t : ℕ) (o : Order) → t < TABLES → Ends (P.Atr t) o
  unfolding order_after
  atr_end t o h =
      let s = heads E.Lf latin t h in
      first (one_step (atr_line E.Lf (table_at t)) tt (s.atr o) (rw s.atr_named s.order)) (frm_end t (listed_order t) h (listed_arranged t))

  -- every phase can be ended, in any order
  ending : (p : Phase) (o : Order) (k : ℕ) → Ordered p o → Sane p k → k + 1 < 10 ^ 18 → Ends p o
  unfolding order_after
  ending (P.Ended t n) o k d x h = ([], t, n, o, stay)
  ending (P.Rows t m n) o k d x h =
      first (one_step (sample_line t o) d (sample_step latin t o m n x.0 d) refl) (rows_end t o (suc n) d (let l = x.1 in omega arith))
  ending (P.Frm t) o k d x h = frm_end t o x d
  ending (P.Atr t) o k d x h = atr_end t o x
  ending P.Tbl o k d x h =
      let z : 0 < TABLES = omega arith in
      first (one_step (tbl_line E.Lf (table_at 0)) tt ((heads E.Lf latin 0 z).tbl o) refl) (atr_end 0 o z)

  -- lines that lead to an end denote something
  ended_denotes : (ls : List Bytes) (t n : ℕ) (o : Order) → Reaches latin P.Tbl [] ls (P.Ended t n) o → (u : ℕ) × (rs : List Record) × Denotes latin ls u rs
  unfolding outcome run finish
  ended_denotes ls t n o g =
      let z : run latin P.Tbl [] 0 (ls ++ []) ≡ finish (P.Ended t n) (length ls + 0) = reach_run latin 0 [] tt g in
      accepted_denotes latin ls (ap (λ (y : Outcome). y.verdict) (rw append-nil at z))

  abbrev Reached : Phase → Order → List Bytes → Type 0
  Reached p o ls = (q : Phase) × (x : Order) × Reaches latin p o ls q x

  -- lines of verdict 0 lead somewhere
  sound_reach : (p : Phase) (o : Order) (n : ℕ) (ls more : List Bytes) → Ordered p o → (run latin p o n (ls ++ more)).verdict ≡ 0 → Reached p o ls
  unfolding run continue
  sound_reach p o n [] more d e = (p, o, stay)
  sound_reach p o n (l ∷ ls) more d e = by (λ q x. sound_reach q x (suc n) ls more) (step latin p o l) refl e
    where
      by : ((q : Phase) (x : Order) → Ordered q x → (run latin q x (suc n) (ls ++ more)).verdict ≡ 0 → Reached q x ls) → (s : Result Phase ℕ) → step latin p o l ≡ s →
          (continue s (table_in p) (suc n) (λ q. run latin q (order_after p o (content l)) (suc n) (ls ++ more))).verdict ≡ 0 → Reached p o (l ∷ ls)
      by ih (Ok q) h e =
          let g = (go_exactly latin l p o d q).0 h in
          let y = ih q (order_after p o (content l)) (ordered_on g d) e in
          (y.0, y.1, move g y.2)
      by ih (Err v) h e = absurd (laws_some latin p o l v ((stop_exactly latin l p o d v).0 h) e)

  viable_reach : (ls : List Bytes) → Viable latin ls → Reached P.Tbl [] ls
  unfolding outcome
  viable_reach ls x = sound_reach P.Tbl [] 0 ls x.0 tt (ap (λ (y : Outcome). y.verdict) (denotes_accepted latin (ls ++ x.0) x.1 x.2 x.3))

  reach_viable : (ls : List Bytes) (q : Phase) (o : Order) → length ls + 1 < 10 ^ 18 → Reaches latin P.Tbl [] ls q o → Viable latin ls
  reach_viable ls q o h g =
      let s : Sane q (length ls) = rw (let z : length ls + 0 ≡ length ls = omega arith in z) at (sane_reach 0 g tt) in
      let e = ending q o (length ls) (reach_ordered latin tt g) s h in
      let d = ended_denotes (ls ++ e.0) e.1 e.2 e.3 (reach_join g e.4) in
      (e.0, d.0, d.1, d.2)

  -- where the step stops, the line makes the lines before it lost
  stop_lost : (before : List Bytes) (l : Bytes) (q : Phase) (o : Order) (v : ℕ) → Reaches latin P.Tbl [] before q o → FirstBroken (laws latin q o l) v → ¬ Viable latin (before ++ (l ∷ []))
  stop_lost before l q o v g f x =
      let y = viable_reach (before ++ (l ∷ [])) x in
      let z = reach_split before (l ∷ []) y.2 in
      let e = reach_once tt g z.2 in
      no_lead z.0 y.0 z.1 y.1 e.0 e.1 z.3
    where
      no_lead : (p r : Phase) (x y : Order) → q ≡ p → o ≡ x → Reaches latin p x (l ∷ []) r y → ⊥
      no_lead p r x y e w (move h s) =
          let d : Ordered p x = rw (e, w) at (reach_ordered latin tt g) in
          let a = leads_go d h in
          let b : step latin p x l ≡ Err v = rw (e, w) at ((stop_exactly latin l q o (reach_ordered latin tt g) v).1 f) in
          false≢true (cc)

  shorter : (before after : List Bytes) (l : Bytes) (ls : List Bytes) → ls ≡ before ++ (l ∷ after) → length before + suc (length after) ≡ length ls
  shorter before after l ls e = rw (e, length-append)

  refused_place : (ls : List Bytes) (k v n : ℕ) → length ls + 1 < 10 ^ 18 → Refused latin ls k v n → SectionPlace latin ls n
  refused_place ls k v n h (at_line before after l q o e g f a b) =
      breaks before after l e (reach_viable before q o (let z = shorter before after l ls e in omega arith) g) (stop_lost before l q o v g f) b
  refused_place ls k v n h (unfinished q o g c a f b) =
      lacks (reach_viable ls q o h g) (λ t rs. refused_denotes_nothing latin ls k v n t rs (unfinished q o g c a f b)) b

  -- lines that no `end` closes are refused by 6
  open_end : (ls : List Bytes) (n : ℕ) (q : Phase) (o : Order) → ((t : ℕ) (rs : List Record) → ¬ Denotes latin ls t rs) → n ≡ length ls → Reaches latin P.Tbl [] ls q o →
      (k : ℕ) × (v : ℕ) × Refused latin ls k v n
  unfolding is_ended
  open_end ls n P.Tbl o none b g = (table_in P.Tbl, 6, unfinished P.Tbl o g refl refl refl b)
  open_end ls n (P.Atr t) o none b g = (table_in (P.Atr t), 6, unfinished (P.Atr t) o g refl refl refl b)
  open_end ls n (P.Frm t) o none b g = (table_in (P.Frm t), 6, unfinished (P.Frm t) o g refl refl refl b)
  open_end ls n (P.Rows t m c) o none b g = (table_in (P.Rows t m c), 6, unfinished (P.Rows t m c) o g refl refl refl b)
  open_end ls n (P.Ended t c) o none b g = let d = ended_denotes ls t c o g in absurd (none d.0 d.1 d.2)

  -- the line at which a viable beginning is lost stops the machine
  place_stops : (ls : List Bytes) (n : ℕ) → length ls + 1 < 10 ^ 18 → SectionPlace latin ls n → (k : ℕ) × (v : ℕ) × Refused latin ls k v n
  place_stops ls n h (breaks before after l e x lost b) = by (viable_reach before x)
    where
      by : Reached P.Tbl [] before → (k : ℕ) × (v : ℕ) × Refused latin ls k v n
      by y = on (step latin y.0 y.1 l) refl
        where
          ordered : Ordered y.0 y.1
          ordered = reach_ordered latin tt y.2

          on : (s : Result Phase ℕ) → step latin y.0 y.1 l ≡ s → (k : ℕ) × (v : ℕ) × Refused latin ls k v n
          on (Err v) f = (table_in y.0, v, at_line before after l y.0 y.1 e y.2 ((stop_exactly latin l y.0 y.1 ordered v).0 f) refl b)
          on (Ok r) f =
              let z = shorter before after l ls e in
              let g = (go_exactly latin l y.0 y.1 ordered r).0 f in
              absurd (lost (reach_viable (before ++ (l ∷ [])) r (order_after y.0 y.1 (content l)) (rw length-append (omega arith)) (reach_join y.2 (move g stay))))
  place_stops ls n h (lacks x none b) = let y = viable_reach ls x in open_end ls n y.0 y.1 none b y.2

-- a section of fewer than 10 ^ 18 - 1 lines is refused at line n exactly if that is its place by the grammar: whatever the number, neither too early nor too late
pub place_exactly : (latin : Bool) (ls : List Bytes) (n : ℕ) → length ls + 1 < 10 ^ 18 → ((k : ℕ) × (v : ℕ) × Refused latin ls k v n) ↔ SectionPlace latin ls n
place_exactly latin ls n h = (λ x. refused_place latin ls x.0 x.1 n h x.2, place_stops latin ls n h)
