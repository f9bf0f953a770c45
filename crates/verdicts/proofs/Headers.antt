-- The header: accepted exactly if it keeps the rules, and else refused exactly at the first line that breaks one, or for what is missing.
use Rattle.std.specs.Prelude.{None, Option, Some}
use mathlib.Core.Path.{◌≡◌, refl, ap, sym, ◌∙◌}
use mathlib.Core.Bool.{Bool, true, false, false≢true}
use mathlib.Core.List.{List, [], ◌∷◌, ◌++◌, append-nil}
use mathlib.Core.Logic.{◌⊎◌, inl, inr, ◌↔◌}
use Prim.Native.Nat.{ℕ, suc, ◌+◌, ◌≤◌}
use native.Mathlib.Omega.{arith}
use native.Mathlib.Nat.{zero-add}
use lib.ListN.{length}
use borrow.Author.Tests.{ne_eqb}
use Rattle.page.specs.Bytes.{Bytes, pick}
use Rattle.page.specs.Lines.{content, Src, Chs, Ver, Ifv}
use Rattle.page.specs.Header.{met_before, met_none, head_step, complete, head_end, head_continue, head_run, head_of}
use Rattle.page.specs.Rules.{Every, none_left, one_more, spoken, times, SoundHeader}
use Rattle.page.specs.declared.Met.{Met}
use Rattle.page.specs.declared.Finding.{Finding}
use Rattle.verdicts.specs.Headers.{followers, Begun, Keeps, HeaderFault, at_line, missing}
use Rattle.laws.proofs.Decides.{Decides, holds, fails, fact, tested, when, both}
use Rattle.laws.proofs.Lists.{every_head, every_tail, every_at, every_from}
use Rattle.verdicts.proofs.HeaderLines.{tally, Good, starting, started, Fit, good_go, go_good, good_nil, fit_go, tally_go, mod_go}

abbrev finding : ℕ → ℕ → Finding
finding v n = record { verdict = v; line = n }

-- the machine over lines that it does not refuse
pub data Steps : Met → List Bytes → Met → Type 0 where
  stay : {m : Met} → Steps m [] m
  move : {m q r : Met} {l : Bytes} {ls : List Bytes} → head_step m (content l) ≡ Some q → Steps q ls r → Steps m (l ∷ ls) r

good_steps : {m : Met} (ls : List Bytes) → Good m ls → (q : Met) × Steps m ls q
good_steps {m = m} [] g = (m, stay)
good_steps {m = m} (l ∷ ls) g = let x = good_go l ls g in let y = good_steps {m = x.0} ls x.2 in (y.0, move x.1 y.1)

steps_good : {m q : Met} {ls : List Bytes} → Fit m → Steps m ls q → Good m ls
steps_good f stay = good_nil f
steps_good f (move {l} {ls} e s) = go_good l ls f e (steps_good (fit_go l f e) s)

pub steps_fit : {m q : Met} {ls : List Bytes} → Fit m → Steps m ls q → Fit q
steps_fit f stay = f
steps_fit f (move {l} e s) = steps_fit (fit_go l f e) s

steps_run : {m q : Met} {ls : List Bytes} (n : ℕ) (more : List Bytes) → Steps m ls q → head_run m n (ls ++ more) ≡ head_run q (length ls + n) more
unfolding head_run head_continue
steps_run n more stay = rw zero-add
steps_run n more (move {q} {r} {ls} e s) = rw e (steps_run (suc n) more s ∙ ap (λ (x : ℕ). head_run r x more) (omega arith))

pub steps_split : {m r : Met} (xs ys : List Bytes) → Steps m (xs ++ ys) r → (q : Met) × Steps m xs q × Steps q ys r
steps_split {m} [] ys s = (m, stay, s)
steps_split (x ∷ xs) ys (move e s) = let y = steps_split xs ys s in (y.0, move e y.1, y.2)

pub steps_join : {m q r : Met} {xs ys : List Bytes} → Steps m xs q → Steps q ys r → Steps m (xs ++ ys) r
steps_join stay t = t
steps_join (move e s) t = move e (steps_join s t)

steps_once : {m q r : Met} {ls : List Bytes} → Steps m ls q → Steps m ls r → q ≡ r
steps_once stay stay = refl
steps_once {r = r} (move {q} {l} {ls} e s) (move {q = p} f t) = let z : p ≡ q = cc in steps_once s (rw z at t)

-- where the machine stands in the end
begun_end : {m q : Met} {ls : List Bytes} → ¬ (m.form ≡ 0) → Steps m ls q → (¬ (q.form ≡ 0)) × Every (λ j. tally j q ≡ tally j m + times j (spoken ls)) followers
unfolding spoken times
begun_end n stay = (n, every_from followers (λ j i. omega arith))
begun_end n (move {m} {l} {ls} e s) =
    let x = tally_go m l ls n e in
    let y = begun_end x.0 s in
    (y.0, every_from followers (λ j i. every_at followers y.1 i ∙ every_at followers x.1 i))

abbrev Ending : Met → List Bytes → Type 0
Ending q ls = ((spoken ls ≡ []) × (q ≡ met_none 0)) ⊎ ((first : Bytes) × (others : List Bytes) × (spoken ls ≡ first ∷ others) × (¬ (q.form ≡ 0)) × Every (λ j. tally j q ≡ times j others) followers)

ending : {q : Met} (ls : List Bytes) → Steps (met_none 0) ls q → Ending q ls
unfolding spoken
ending [] stay = inl (refl, refl)
ending {q} (l ∷ ls) (move {q = p} e s) = by (mod_go l ls e) (λ h. ending ls h)
  where
    longer : spoken (l ∷ ls) ≡ spoken ls → Ending q ls → Ending q (l ∷ ls)
    longer h (inl x) = inl (h ∙ x.0, x.1)
    longer h (inr x) = inr (x.0, x.1, h ∙ x.2, x.3, x.4)

    by : ((p ≡ met_none 0) × (spoken (l ∷ ls) ≡ spoken ls)) ⊎ ((¬ (p.form ≡ 0)) × (spoken (l ∷ ls) ≡ l ∷ spoken ls) × Every (λ j. tally j p ≡ 0) followers) →
        (Steps (met_none 0) ls q → Ending q ls) → Ending q (l ∷ ls)
    by (inl x) ih = longer x.1 (ih (rw x.0 at s))
    by (inr x) ih =
        let y = begun_end x.0 s in
        inr (l, spoken ls, x.1, y.0, every_from followers (λ j i. let a = every_at followers y.1 i in let b = every_at followers x.2 i in omega arith))

-- "once each"
one_d : (b : Bool) → Decides (◌≡◌ {A = ℕ} (pick b 1 0) 1) b
one_d true = holds refl
one_d false = fails (λ e. omega arith)

-- the test for what is missing
pub complete_d : (q : Met) → ¬ (q.form ≡ 0) → Decides (Every (λ j. tally j q ≡ 1) (Src ∷ Chs ∷ Ver ∷ Ifv ∷ [])) (complete q)
unfolding complete met_before
complete_d q n =
    rw (ne_eqb q.form 0 n)
    (when (λ p. one_more p.0.0.0 (one_more p.0.0.1 (one_more p.0.1 (one_more p.1 none_left))))
    (λ e. (((every_head e, every_head (every_tail e)), every_head (every_tail (every_tail e))), every_head (every_tail (every_tail (every_tail e)))))
    (both (both (both (one_d q.src) (one_d q.chs)) (one_d q.ver)) (one_d q.ifv)))

-- a header's lines that keep the rules are sound exactly if nothing is missing
sound_complete : (ls : List Bytes) (q : Met) → Steps (met_none 0) ls q → SoundHeader ls → complete q ≡ true
sound_complete ls q s h = by (ending ls s)
  where
    by : Ending q ls → complete q ≡ true
    by (inl x) = let a = h.order in let b = x.0 in absurd (false≢true (cc))
    by (inr x) =
        let a = h.order in
        let b = x.2 in
        let c : h.others ≡ x.1 = cc in
        let o : Every (λ k. times k x.1 ≡ 1) (Src ∷ Chs ∷ Ver ∷ Ifv ∷ []) = rw c at h.once in
        let t = x.4 in
        tested (complete_d q x.3)
        (one_more (every_head t ∙ every_head o) (one_more (every_head (every_tail t) ∙ every_head (every_tail o))
        (one_more (every_head (every_tail (every_tail t)) ∙ every_head (every_tail (every_tail o)))
        (one_more (every_head (every_tail (every_tail (every_tail t))) ∙ every_head (every_tail (every_tail (every_tail o)))) none_left))))

complete_sound : (ls : List Bytes) (q : Met) → Steps (met_none 0) ls q → Keeps ls → complete q ≡ true → SoundHeader ls
unfolding complete
complete_sound ls q s k e = by (ending ls s) k.rules
  where
    by : Ending q ls → (spoken ls ≡ []) ⊎ Begun ls → SoundHeader ls
    by (inl x) r = absurd (false≢true (ap complete (sym x.1) ∙ e))
    by (inr x) (inl r) = let b = x.2 in absurd (false≢true (cc))
    by (inr x) (inr g) =
        let a = g.order in
        let b = x.2 in
        let c : g.others ≡ x.1 = cc in
        let t = x.4 in
        let o = fact (complete_d q x.3) e in
        let m = g.at_most_once in
        record {
          clean = k.clean;
          first = g.first;
          others = g.others;
          order = g.order;
          mode = g.mode;
          form = g.form;
          each = g.each;
          once = rw c (one_more (sym (every_head t) ∙ every_head o) (one_more (sym (every_head (every_tail t)) ∙ every_head (every_tail o))
              (one_more (sym (every_head (every_tail (every_tail t))) ∙ every_head (every_tail (every_tail o)))
              (one_more (sym (every_head (every_tail (every_tail (every_tail t)))) ∙ every_head (every_tail (every_tail (every_tail o)))) none_left))));
          at_most_once = every_tail (every_tail (every_tail (every_tail m)));
        }

-- a sound header keeps the rules
pub sound_keeps : (ls : List Bytes) → SoundHeader ls → Keeps ls
sound_keeps ls h =
    record {
      clean = h.clean;
      rules = inr (record {
        first = h.first;
        others = h.others;
        order = h.order;
        mode = h.mode;
        form = h.form;
        each = h.each;
        at_most_once = let o = h.once in
            one_more (few (every_head o)) (one_more (few (every_head (every_tail o))) (one_more (few (every_head (every_tail (every_tail o))))
            (one_more (few (every_head (every_tail (every_tail (every_tail o))))) h.at_most_once)));
      });
    }
  where
    few : {k : ℕ} → k ≡ 1 → k ≤ 1
    few e = omega arith

-- the machine passes all lines, or stops at one
settle : (m : Met) (ls : List Bytes) →
    ((q : Met) × Steps m ls q) ⊎ ((before : List Bytes) × (after : List Bytes) × (l : Bytes) × (q : Met) × (ls ≡ before ++ (l ∷ after)) × Steps m before q × (head_step q (content l) ≡ None))
settle m [] = inl (m, stay)
settle m (l ∷ ls) = by (head_step m (content l)) refl (λ q. settle q ls)
  where
    by : (h : Option Met) → head_step m (content l) ≡ h →
        ((q : Met) → ((r : Met) × Steps q ls r) ⊎ ((before : List Bytes) × (after : List Bytes) × (x : Bytes) × (r : Met) × (ls ≡ before ++ (x ∷ after)) × Steps q before r × (head_step r (content x) ≡ None))) →
        ((r : Met) × Steps m (l ∷ ls) r) ⊎ ((before : List Bytes) × (after : List Bytes) × (x : Bytes) × (r : Met) × (l ∷ ls ≡ before ++ (x ∷ after)) × Steps m before r × (head_step r (content x) ≡ None))
    by None e ih = inr ([], ls, l, m, refl, stay, e)
    by (Some q) e ih = on (ih q)
      where
        on : ((r : Met) × Steps q ls r) ⊎ ((before : List Bytes) × (after : List Bytes) × (x : Bytes) × (r : Met) × (ls ≡ before ++ (x ∷ after)) × Steps q before r × (head_step r (content x) ≡ None)) →
            ((r : Met) × Steps m (l ∷ ls) r) ⊎ ((before : List Bytes) × (after : List Bytes) × (x : Bytes) × (r : Met) × (l ∷ ls ≡ before ++ (x ∷ after)) × Steps m before r × (head_step r (content x) ≡ None))
        on (inl y) = inl (y.0, move e y.1)
        on (inr y) = inr (l ∷ y.0, y.1, y.2, y.3, ap (λ (z : List Bytes). l ∷ z) y.4, move e y.5, y.6)

-- lines that are passed give what is missing in the end
pub passed : (ls : List Bytes) (q : Met) → Steps (met_none 0) ls q → head_of ls ≡ head_end q (length ls)
unfolding head_of head_run
passed ls q s = let z : head_run (met_none 0) 0 (ls ++ []) ≡ head_end q (length ls + 0) = steps_run 0 [] s in (rw append-nil at z) ∙ ap (head_end q) (omega arith)

stopped : (before after : List Bytes) (l : Bytes) (q : Met) → Steps (met_none 0) before q → head_step q (content l) ≡ None → head_of (before ++ (l ∷ after)) ≡ finding 2 (suc (length before))
unfolding head_of head_run head_continue
stopped before after l q s e = steps_run 0 (l ∷ after) s ∙ rw e (ap (finding 2) (omega arith))

fit : Fit (met_none 0)
fit = inl refl

-- lines that keep the rules are passed
pub keeps_steps : (ls : List Bytes) → Keeps ls → (q : Met) × Steps (met_none 0) ls q
keeps_steps ls k = good_steps ls (starting refl k)

-- and lines that are passed keep the rules
pub steps_keeps : (ls : List Bytes) (q : Met) → Steps (met_none 0) ls q → Keeps ls
steps_keeps ls q s = of (steps_good fit s)
  where
    of : Good (met_none 0) ls → Keeps ls
    of (starting e k) = k
    of (started n f) = absurd (n refl)

-- where the machine stops, the line breaks a rule, and the other way
no_step : (q p r : Met) (l : Bytes) → q ≡ p → head_step q (content l) ≡ None → Steps p (l ∷ []) r → ⊥
no_step q p r l z e (move {q = m} f s) = let g : head_step p (content l) ≡ None = rw z at e in let y : false ≡ true = cc in false≢true y

stop_breaks : (before : List Bytes) (l : Bytes) (q : Met) → Steps (met_none 0) before q → head_step q (content l) ≡ None → ¬ Keeps (before ++ (l ∷ []))
stop_breaks before l q s e k =
    let x = keeps_steps (before ++ (l ∷ [])) k in
    let y = steps_split before (l ∷ []) x.1 in
    no_step q y.0 x.0 l (steps_once s y.1) e y.2

breaks_stop : (before : List Bytes) (l : Bytes) (q : Met) → Steps (met_none 0) before q → ¬ Keeps (before ++ (l ∷ [])) → head_step q (content l) ≡ None
breaks_stop before l q s n = by (head_step q (content l)) refl
  where
    by : (h : Option Met) → head_step q (content l) ≡ h → head_step q (content l) ≡ None
    by None e = e
    by (Some r) e = absurd (n (steps_keeps (before ++ (l ∷ [])) r (steps_join s (move e stay))))

-- a header has verdict 0 exactly if it is sound
pub header_exactly : (ls : List Bytes) → head_of ls ≡ record { verdict = 0; line = 0 } ↔ SoundHeader ls
unfolding head_end
header_exactly ls = (λ e. into e (settle (met_none 0) ls), back)
  where
    back : SoundHeader ls → head_of ls ≡ finding 0 0
    back h = let x = keeps_steps ls (sound_keeps ls h) in passed ls x.0 x.1 ∙ rw (sound_complete ls x.0 x.1 h)

    at_end : (b : Bool) (n : ℕ) → pick b (finding 0 0) (finding 2 n) ≡ finding 0 0 → b ≡ true
    at_end true n e = refl
    at_end false n e = let z = ap (λ (f : Finding). f.verdict) e in absurd (let y : ⊥ = omega arith in y)

    into : head_of ls ≡ finding 0 0 → ((q : Met) × Steps (met_none 0) ls q) ⊎ ((before : List Bytes) × (after : List Bytes) × (l : Bytes) × (q : Met) × (ls ≡ before ++ (l ∷ after)) × Steps (met_none 0) before q × (head_step q (content l) ≡ None)) → SoundHeader ls
    into e (inl x) = complete_sound ls x.0 x.1 (steps_keeps ls x.0 x.1) (at_end (complete x.0) (length ls) (sym (passed ls x.0 x.1) ∙ e))
    into e (inr x) =
        let z = ap (λ (f : Finding). f.verdict) (sym e ∙ ap head_of x.4 ∙ stopped x.0 x.1 x.2 x.3 x.5 x.6) in
        absurd (let y : ⊥ = omega arith in y)

-- a header is refused at line n exactly if that is the first line that breaks a rule, or n is its line count and something is missing
pub header_refused_exactly : (ls : List Bytes) (n : ℕ) → head_of ls ≡ record { verdict = 2; line = n } ↔ HeaderFault ls n
unfolding head_end
header_refused_exactly ls n = (λ e. into e (settle (met_none 0) ls), back)
  where
    at_end : (b : Bool) (k : ℕ) → pick b (finding 0 0) (finding 2 k) ≡ finding 2 n → (b ≡ false) × (n ≡ k)
    at_end true k e = let z = ap (λ (f : Finding). f.verdict) e in absurd (let y : ⊥ = omega arith in y)
    at_end false k e = (refl, sym (ap (λ (f : Finding). f.line) e))

    into : head_of ls ≡ finding 2 n → ((q : Met) × Steps (met_none 0) ls q) ⊎ ((before : List Bytes) × (after : List Bytes) × (l : Bytes) × (q : Met) × (ls ≡ before ++ (l ∷ after)) × Steps (met_none 0) before q × (head_step q (content l) ≡ None)) → HeaderFault ls n
    into e (inl x) =
        let y = at_end (complete x.0) (length ls) (sym (passed ls x.0 x.1) ∙ e) in
        missing (steps_keeps ls x.0 x.1) (λ h. false≢true (sym y.0 ∙ sound_complete ls x.0 x.1 h)) y.1
    into e (inr x) =
        let z = ap (λ (f : Finding). f.line) (sym e ∙ ap head_of x.4 ∙ stopped x.0 x.1 x.2 x.3 x.5 x.6) in
        at_line x.0 x.1 x.2 x.4 (steps_keeps x.0 x.3 x.5) (stop_breaks x.0 x.2 x.3 x.5 x.6) z

    lacking : (c : Bool) → (c ≡ true → SoundHeader ls) → ¬ SoundHeader ls → c ≡ false
    lacking true f n = absurd (n (f refl))
    lacking false f n = refl

    back : HeaderFault ls n → head_of ls ≡ finding 2 n
    back (at_line before after l q k b z) =
        let x = keeps_steps before k in
        rw (q, z) (stopped before after l x.0 x.1 (breaks_stop before l x.0 x.1 b))
    back (missing k b z) = let x = keeps_steps ls k in passed ls x.0 x.1 ∙ rw (lacking (complete x.0) (complete_sound ls x.0 x.1 k) b, z)

-- every header has verdict 0 or 2
pub header_settled : (ls : List Bytes) → (head_of ls ≡ record { verdict = 0; line = 0 }) ⊎ ((n : ℕ) × (head_of ls ≡ record { verdict = 2; line = n }))
unfolding head_end
header_settled ls = by (settle (met_none 0) ls)
  where
    at_end : (b : Bool) → (head_of ls ≡ pick b (finding 0 0) (finding 2 (length ls))) → (head_of ls ≡ finding 0 0) ⊎ ((n : ℕ) × (head_of ls ≡ finding 2 n))
    at_end true e = inl e
    at_end false e = inr (length ls, e)

    by : ((q : Met) × Steps (met_none 0) ls q) ⊎ ((before : List Bytes) × (after : List Bytes) × (l : Bytes) × (q : Met) × (ls ≡ before ++ (l ∷ after)) × Steps (met_none 0) before q × (head_step q (content l) ≡ None)) →
        (head_of ls ≡ finding 0 0) ⊎ ((n : ℕ) × (head_of ls ≡ finding 2 n))
    by (inl x) = at_end (complete x.0) (passed ls x.0 x.1)
    by (inr x) = inr (suc (length x.0), ap head_of x.4 ∙ stopped x.0 x.1 x.2 x.3 x.5 x.6)
