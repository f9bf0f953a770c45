-- One line of a header: the machine goes on exactly if the line keeps the rules, and what may follow then is what may follow.
use Rattle.std.specs.Prelude.{None, Some}
use mathlib.Core.Path.{◌≡◌, refl, ap, sym, ◌∙◌}
use mathlib.Core.Bool.{Bool, true, false, not, ◌&&◌, ◌||◌, false≢true}
use mathlib.Core.List.{List, [], ◌∷◌, Memᴰ}
use mathlib.Core.Logic.{◌⊎◌, inl, inr}
use Prim.Native.Nat.{ℕ, ◌+◌, ◌≤◌}
use native.Mathlib.Omega.{arith}
use lib.Dec.{eqb}
use borrow.Author.Tests.{eqb-true, ne_eqb, eq-eqb}
use Rattle.page.specs.Bytes.{Bytes, pick}
use Rattle.page.specs.Lines.{content, blank, command, rest, clean, Mod, Src, Chs, Ver, Ifv, Dve, Fft, Com}
use Rattle.page.specs.Fields.{fields}
use Rattle.page.specs.Header.{mod_form, holds, met_before, meet, met_none, head_choose, mod_step, other_step, head_step}
use Rattle.page.specs.Grammar.{fields_of}
use Rattle.page.specs.Rules.{Every, none_left, one_more, spoken, times, HeadLine}
use Rattle.page.specs.declared.Met.{Met}
use Rattle.verdicts.specs.Headers.{followers, Begun, Keeps}
use Rattle.laws.proofs.Decides.{Decides, holds as yes-it-holds, fails, equal}
use Rattle.laws.proofs.Lists.{every_head, every_tail, every_at, every_from}

-- how often a command has been met
abbrev pub tally : ℕ → Met → ℕ
tally k m = pick (met_before k m) 1 0

either : (a b : Bool) → (a ≡ true → b ≡ true → ⊥) → pick (a || b) 1 0 ≡ pick a 1 0 + pick b 1 0
either true true n = absurd (n refl refl)
either true false n = refl
either false true n = refl
either false false n = refl

-- meeting k counts k once more
pub tallies : (k : ℕ) (m : Met) → met_before k m ≡ false → Every (λ j. tally j (meet k m) ≡ tally j m + pick (eqb k j) 1 0) followers
unfolding met_before meet
tallies k m e =
    one_more (either m.src (eqb k Src) (clash Src m.src refl)) (one_more (either m.chs (eqb k Chs) (clash Chs m.chs refl))
    (one_more (either m.ver (eqb k Ver) (clash Ver m.ver refl)) (one_more (either m.ifv (eqb k Ifv) (clash Ifv m.ifv refl))
    (one_more (either m.dve (eqb k Dve) (clash Dve m.dve refl)) (one_more (either m.fft (eqb k Fft) (clash Fft m.fft refl)) none_left)))))
  where
    clash : (j : ℕ) (b : Bool) → met_before j m ≡ b → b ≡ true → eqb k j ≡ true → ⊥
    clash j b q h g = false≢true (sym e ∙ ap (λ (x : ℕ). met_before x m) (eqb-true k j g) ∙ q ∙ h)

-- only a follower has not been met
pub follower : (k : ℕ) (m : Met) → met_before k m ≡ false → Memᴰ k followers
unfolding met_before
follower k m e = src (eqb k Src) (equal k Src) e
  where
    fft : (b : Bool) → Decides (k ≡ Fft) b → pick b m.fft true ≡ false → Memᴰ k (Fft ∷ [])
    fft true (yes-it-holds h) e = Memᴰ.head h
    fft false d e = absurd (false≢true (sym e))

    dve : (b : Bool) → Decides (k ≡ Dve) b → pick b m.dve (pick (eqb k Fft) m.fft true) ≡ false → Memᴰ k (Dve ∷ Fft ∷ [])
    dve true (yes-it-holds h) e = Memᴰ.head h
    dve false d e = Memᴰ.tail (fft (eqb k Fft) (equal k Fft) e)

    ifv : (b : Bool) → Decides (k ≡ Ifv) b → pick b m.ifv (pick (eqb k Dve) m.dve (pick (eqb k Fft) m.fft true)) ≡ false → Memᴰ k (Ifv ∷ Dve ∷ Fft ∷ [])
    ifv true (yes-it-holds h) e = Memᴰ.head h
    ifv false d e = Memᴰ.tail (dve (eqb k Dve) (equal k Dve) e)

    ver : (b : Bool) → Decides (k ≡ Ver) b → pick b m.ver (pick (eqb k Ifv) m.ifv (pick (eqb k Dve) m.dve (pick (eqb k Fft) m.fft true))) ≡ false →
        Memᴰ k (Ver ∷ Ifv ∷ Dve ∷ Fft ∷ [])
    ver true (yes-it-holds h) e = Memᴰ.head h
    ver false d e = Memᴰ.tail (ifv (eqb k Ifv) (equal k Ifv) e)

    chs : (b : Bool) → Decides (k ≡ Chs) b →
        pick b m.chs (pick (eqb k Ver) m.ver (pick (eqb k Ifv) m.ifv (pick (eqb k Dve) m.dve (pick (eqb k Fft) m.fft true)))) ≡ false →
        Memᴰ k (Chs ∷ Ver ∷ Ifv ∷ Dve ∷ Fft ∷ [])
    chs true (yes-it-holds h) e = Memᴰ.head h
    chs false d e = Memᴰ.tail (ver (eqb k Ver) (equal k Ver) e)

    src : (b : Bool) → Decides (k ≡ Src) b →
        pick b m.src (pick (eqb k Chs) m.chs (pick (eqb k Ver) m.ver (pick (eqb k Ifv) m.ifv (pick (eqb k Dve) m.dve (pick (eqb k Fft) m.fft true))))) ≡ false →
        Memᴰ k followers
    src true (yes-it-holds h) e = Memᴰ.head h
    src false d e = Memᴰ.tail (chs (eqb k Chs) (equal k Chs) e)

-- lines that may follow where m has been met
pub record Follows (m : Met) (ls : List Bytes) : Type 0 where
  pub clean : Every (λ l. clean false (content l) ≡ true) ls
  pub each : Every (HeadLine m.form) (spoken ls)
  pub once : Every (λ k. tally k m + times k (spoken ls) ≤ 1) followers

-- a line that is not spoken
abbrev pub silent : Bytes → Bool
silent l = blank (content l) || eqb (command (content l)) Com

spoken_not : (l : Bytes) (ls : List Bytes) → silent l ≡ true → spoken (l ∷ ls) ≡ spoken ls
unfolding spoken
spoken_not l ls e = rw e

spoken_so : (l : Bytes) (ls : List Bytes) → silent l ≡ false → spoken (l ∷ ls) ≡ l ∷ spoken ls
unfolding spoken
spoken_so l ls e = rw e

times_more : (k : ℕ) (l : Bytes) (ls : List Bytes) → times k (l ∷ ls) ≡ pick (eqb (command (content l)) k) 1 0 + times k ls
unfolding times
times_more k l ls = refl

silent_step : (m : Met) (l : Bytes) → clean false (content l) ≡ true → silent l ≡ true → head_step m (content l) ≡ Some m
unfolding head_step head_choose
silent_step m l c s = rw (c, s)

pub other_line : (m : Met) (l : Bytes) → ¬ (m.form ≡ 0) → clean false (content l) ≡ true → silent l ≡ false → head_step m (content l) ≡ other_step m (command (content l)) (fields_of l)
unfolding head_step head_choose
other_line m l f c s = rw (c, s, ne_eqb m.form 0 f)

pub first_line : (m : Met) (l : Bytes) → m.form ≡ 0 → clean false (content l) ≡ true → silent l ≡ false → head_step m (content l) ≡ mod_step (command (content l)) (fields_of l)
unfolding head_step head_choose
first_line m l f c s = rw (c, s, f)

pub other_go : (m : Met) (k : ℕ) (fs : List Bytes) → met_before k m ≡ false → holds k m.form fs ≡ true → other_step m k fs ≡ Some (meet k m)
unfolding other_step head_choose
other_go m k fs b h = rw (b, h)

goes_other : (m q : Met) (k : ℕ) (fs : List Bytes) → other_step m k fs ≡ Some q → (met_before k m ≡ false) × (holds k m.form fs ≡ true) × (q ≡ meet k m)
unfolding other_step head_choose
goes_other m q k fs e = by (met_before k m) (holds k m.form fs) refl refl e
  where
    by : (a b : Bool) → met_before k m ≡ a → holds k m.form fs ≡ b → head_choose (not a && b) (Some (meet k m)) None ≡ Some q →
        (met_before k m ≡ false) × (holds k m.form fs ≡ true) × (q ≡ meet k m)
    by true b p r e = absurd (false≢true (cc))
    by false true p r e = (p, r, (cc))
    by false false p r e = absurd (false≢true (cc))

clean_step : (m q : Met) (c : Bytes) → head_step m c ≡ Some q → clean false c ≡ true
unfolding head_step head_choose
clean_step m q c e = by (clean false c) e
  where
    by : (b : Bool) → head_choose b (head_choose (blank c || eqb (command c) Com) (Some m)
        (head_choose (eqb m.form 0) (mod_step (command c) (fields (rest c))) (other_step m (command c) (fields (rest c))))) None ≡ Some q → b ≡ true
    by true e = refl
    by false e = absurd (false≢true (cc))

-- after `mod`: the step goes on exactly if the line may follow, and what may follow it may follow then
module _ (m : Met) (l : Bytes) (ls : List Bytes) (begun : ¬ (m.form ≡ 0)) where
  follows_go : Follows m (l ∷ ls) → (q : Met) × (head_step m (content l) ≡ Some q) × (¬ (q.form ≡ 0)) × Follows q ls
  unfolding meet
  follows_go f = by (silent l) refl
    where
      ok : clean false (content l) ≡ true
      ok = every_head f.clean

      by : (b : Bool) → silent l ≡ b → (q : Met) × (head_step m (content l) ≡ Some q) × (¬ (q.form ≡ 0)) × Follows q ls
      by true s = (m, silent_step m l ok s, begun, record { clean = every_tail f.clean; each = rw (spoken_not l ls s) at f.each; once = rw (spoken_not l ls s) at f.once })
      by false s =
          let x : Every (HeadLine m.form) (l ∷ spoken ls) = rw (spoken_so l ls s) at f.each in
          let o : Every (λ k. tally k m + times k (l ∷ spoken ls) ≤ 1) followers = rw (spoken_so l ls s) at f.once in
          let k = command (content l) in
          let h = every_head x in
          let fresh : met_before (command (content l)) m ≡ false = unmet (met_before (command (content l)) m) (every_at followers o h.named) in (
            meet k m,
            other_line m l begun ok s ∙ other_go m k (fields_of l) fresh h.holds,
            begun,
            record {
              clean = every_tail f.clean;
              each = every_tail x;
              once = every_from followers (λ j i.
                  let a = every_at followers (tallies k m fresh) i in
                  let b = every_at followers o i in
                  let c = times_more j l (spoken ls) in
                  omega arith);
            },
          )
        where
          unmet : (b : Bool) → pick b 1 0 + times (command (content l)) (l ∷ spoken ls) ≤ 1 → b ≡ false
          unmet true g = let c = times_more (command (content l)) l (spoken ls) in let d = eq-eqb (command (content l)) (command (content l)) refl in
              absurd (let z : ⊥ = omega (arith, (rw d at c)) in z)
          unmet false g = refl

  go_follows : (q : Met) → head_step m (content l) ≡ Some q → Follows q ls → Follows m (l ∷ ls)
  unfolding meet
  go_follows q e f = by (silent l) refl
    where
      ok : clean false (content l) ≡ true
      ok = clean_step m q (content l) e

      by : (b : Bool) → silent l ≡ b → Follows m (l ∷ ls)
      by true s =
          let g = silent_step m l ok s in
          let z : q ≡ m = cc in
          let n : Follows m ls = rw z at f in
          record { clean = one_more ok n.clean; each = rw (spoken_not l ls s) n.each; once = rw (spoken_not l ls s) n.once }
      by false s =
          let g = goes_other m q (command (content l)) (fields_of l) (sym (other_line m l begun ok s) ∙ e) in
          let n : Follows (meet (command (content l)) m) ls = rw g.2 at f in
          record {
            clean = one_more ok n.clean;
            each = rw (spoken_so l ls s) (one_more (record { named = follower (command (content l)) m g.0; holds = g.1 }) n.each);
            once = rw (spoken_so l ls s) (every_from followers (λ j i.
                let a = every_at followers (tallies (command (content l)) m g.0) i in
                let b = every_at followers n.once i in
                let c = times_more j l (spoken ls) in
                omega arith));
          }

-- before `mod`: the same
none_met : (f : ℕ) → Every (λ j. tally j (met_none f) ≡ 0) followers
unfolding met_before
none_met f = one_more refl (one_more refl (one_more refl (one_more refl (one_more refl (one_more refl none_left)))))

starts_go : (l : Bytes) (ls : List Bytes) → Keeps (l ∷ ls) → (q : Met) × (head_step (met_none 0) (content l) ≡ Some q) × (((q ≡ met_none 0) × Keeps ls) ⊎ (¬ (q.form ≡ 0) × Follows q ls))
unfolding mod_step head_choose met_before
starts_go l ls k = by (silent l) refl k.rules
  where
    ok : clean false (content l) ≡ true
    ok = every_head k.clean

    by : (b : Bool) → silent l ≡ b → (spoken (l ∷ ls) ≡ []) ⊎ Begun (l ∷ ls) →
        (q : Met) × (head_step (met_none 0) (content l) ≡ Some q) × (((q ≡ met_none 0) × Keeps ls) ⊎ (¬ (q.form ≡ 0) × Follows q ls))
    by true s (inl e) = (met_none 0, silent_step (met_none 0) l ok s, inl (refl, record { clean = every_tail k.clean; rules = inl (sym (spoken_not l ls s) ∙ e) }))
    by true s (inr g) = (
      met_none 0,
      silent_step (met_none 0) l ok s,
      inl (refl, record { clean = every_tail k.clean; rules = inr (record { first = g.first; others = g.others; order = sym (spoken_not l ls s) ∙ g.order; mode = g.mode; form = g.form; each = g.each; at_most_once = g.at_most_once }) }),
    )
    by false s (inl e) = let z = spoken_so l ls s in absurd (false≢true (cc))
    by false s (inr g) =
        let o = g.order in
        let z = spoken_so l ls s in
        let a : g.first ≡ l = cc in
        let b : g.others ≡ spoken ls = cc in
        let c : command (content l) ≡ Mod = rw a at g.mode in
        let d : ¬ (mod_form (fields_of l) ≡ 0) = rw a at g.form in (
          met_none (mod_form (fields_of l)),
          first_line (met_none 0) l refl ok s ∙ rw (c, ne_eqb (mod_form (fields_of l)) 0 d),
          inr (
            d,
            record {
              clean = every_tail k.clean;
              each = rw (a, b) at g.each;
              once = every_from followers (λ j i. let x : Every (λ k. times k (spoken ls) ≤ 1) followers = rw b at g.at_most_once in
                  let y = every_at followers x i in let w = every_at followers (none_met (mod_form (fields_of l))) i in omega arith);
            },
          ),
        )

mod_goes : (q : Met) (k : ℕ) (fs : List Bytes) → mod_step k fs ≡ Some q → (k ≡ Mod) × (¬ (mod_form fs ≡ 0)) × (q ≡ met_none (mod_form fs))
unfolding mod_step head_choose
mod_goes q k fs e = by (eqb k Mod) (eqb (mod_form fs) 0) (equal k Mod) (equal (mod_form fs) 0) e
  where
    by : (a b : Bool) → Decides (k ≡ Mod) a → Decides (mod_form fs ≡ 0) b → head_choose (a && not b) (Some (met_none (mod_form fs))) None ≡ Some q →
        (k ≡ Mod) × (¬ (mod_form fs ≡ 0)) × (q ≡ met_none (mod_form fs))
    by true true d g e = absurd (false≢true (cc))
    by true false (yes-it-holds h) (fails n) e = (h, n, (cc))
    by false b d g e = absurd (false≢true (cc))

go_starts : (l : Bytes) (ls : List Bytes) (q : Met) → head_step (met_none 0) (content l) ≡ Some q → ((q ≡ met_none 0) × Keeps ls) ⊎ (¬ (q.form ≡ 0) × Follows q ls) → Keeps (l ∷ ls)
go_starts l ls q e x = by (silent l) refl x
  where
    ok : clean false (content l) ≡ true
    ok = clean_step (met_none 0) q (content l) e

    still : silent l ≡ true → q ≡ met_none 0
    still s = let g = silent_step (met_none 0) l ok s in cc

    modded : silent l ≡ false → (command (content l) ≡ Mod) × (¬ (mod_form (fields_of l) ≡ 0)) × (q ≡ met_none (mod_form (fields_of l)))
    modded s = mod_goes q (command (content l)) (fields_of l) (sym (first_line (met_none 0) l refl ok s) ∙ e)

    again : silent l ≡ true → (spoken ls ≡ []) ⊎ Begun ls → (spoken (l ∷ ls) ≡ []) ⊎ Begun (l ∷ ls)
    again s (inl h) = inl (spoken_not l ls s ∙ h)
    again s (inr g) = inr (record { first = g.first; others = g.others; order = spoken_not l ls s ∙ g.order; mode = g.mode; form = g.form; each = g.each; at_most_once = g.at_most_once })

    by : (b : Bool) → silent l ≡ b → ((q ≡ met_none 0) × Keeps ls) ⊎ (¬ (q.form ≡ 0) × Follows q ls) → Keeps (l ∷ ls)
    by true s (inl k) = record { clean = one_more ok k.1.clean; rules = again s k.1.rules }
    by true s (inr f) = absurd (f.0 (ap (λ (m : Met). m.form) (still s)))
    by false s (inl k) = let g = modded s in absurd (g.1 (sym (ap (λ (m : Met). m.form) g.2) ∙ ap (λ (m : Met). m.form) k.0))
    by false s (inr f) =
        let g = modded s in
        let n : Follows (met_none (mod_form (fields_of l))) ls = rw g.2 at f.1 in
        record {
          clean = one_more ok n.clean;
          rules = inr (record {
            first = l;
            others = spoken ls;
            order = spoken_so l ls s;
            mode = g.0;
            form = g.1;
            each = n.each;
            at_most_once = every_from followers (λ j i. let a = every_at followers n.once i in let w = every_at followers (none_met (mod_form (fields_of l))) i in omega arith);
          });
        }

-- lines that keep the rules where m has been met
pub data Good : Met → List Bytes → Type 0 where
  starting : {m : Met} {ls : List Bytes} → m ≡ met_none 0 → Keeps ls → Good m ls
  started : {m : Met} {ls : List Bytes} → ¬ (m.form ≡ 0) → Follows m ls → Good m ls

-- what the machine can have met: nothing, or `mod` first
abbrev pub Fit : Met → Type 0
Fit m = (m ≡ met_none 0) ⊎ ¬ (m.form ≡ 0)

good_of : {q : Met} {ls : List Bytes} → ((q ≡ met_none 0) × Keeps ls) ⊎ (¬ (q.form ≡ 0) × Follows q ls) → Good q ls
good_of (inl k) = starting k.0 k.1
good_of (inr f) = started f.0 f.1

of_good : {q : Met} {ls : List Bytes} → Good q ls → ((q ≡ met_none 0) × Keeps ls) ⊎ (¬ (q.form ≡ 0) × Follows q ls)
of_good (starting e k) = inl (e, k)
of_good (started n f) = inr (n, f)

-- a good line leads to where the rest is good
pub good_go : {m : Met} (l : Bytes) (ls : List Bytes) → Good m (l ∷ ls) → (q : Met) × (head_step m (content l) ≡ Some q) × Good q ls
good_go l ls (starting e k) = let x = starts_go l ls k in (x.0, rw e x.1, good_of x.2)
good_go {m} l ls (started n f) = let x = follows_go m l ls n f in (x.0, x.1, started x.2 x.3)

-- what is met stays so
pub fit_go : {m q : Met} (l : Bytes) → Fit m → head_step m (content l) ≡ Some q → Fit q
unfolding meet
fit_go {m} {q} l f e = by (silent l) refl f
  where
    ok : clean false (content l) ≡ true
    ok = clean_step m q (content l) e

    by : (b : Bool) → silent l ≡ b → Fit m → Fit q
    by true s f = let g = silent_step m l ok s in let z : q ≡ m = cc in rw z f
    by false s (inl z) =
        let g = mod_goes q (command (content l)) (fields_of l) (sym (first_line m l (ap (λ (x : Met). x.form) z) ok s) ∙ e) in
        inr (λ h. g.1 (sym (ap (λ (x : Met). x.form) g.2) ∙ h))
    by false s (inr n) =
        let g = goes_other m q (command (content l)) (fields_of l) (sym (other_line m l n ok s) ∙ e) in
        inr (λ h. n (sym (ap (λ (x : Met). x.form) g.2) ∙ h))

-- and the other way
pub go_good : {m q : Met} (l : Bytes) (ls : List Bytes) → Fit m → head_step m (content l) ≡ Some q → Good q ls → Good m (l ∷ ls)
unfolding meet
go_good {q} l ls (inl z) e g = starting z (go_starts l ls q (rw z at e) (of_good g))
go_good {m} {q} l ls (inr n) e (started k f) = started n (go_follows m l ls n q e f)
go_good {m} {q} l ls (inr n) e (starting z k) = absurd (kept (silent l) refl)
  where
    ok : clean false (content l) ≡ true
    ok = clean_step m q (content l) e

    kept : (b : Bool) → silent l ≡ b → ⊥
    kept true s = let g = silent_step m l ok s in let y : m ≡ q = cc in n (ap (λ (x : Met). x.form) (y ∙ z))
    kept false s =
        let g = goes_other m q (command (content l)) (fields_of l) (sym (other_line m l n ok s) ∙ e) in
        n (ap (λ (x : Met). x.form) (sym g.2 ∙ z))

-- nothing follows
pub good_nil : {m : Met} → Fit m → Good m []
unfolding spoken times
good_nil (inl z) = starting z (record { clean = none_left; rules = inl refl })
good_nil {m} (inr n) = started n (record { clean = none_left; each = none_left; once = every_from followers (λ j i. few (met_before j m)) })
  where
    few : (b : Bool) → pick b 1 0 + 0 ≤ 1
    few true = omega arith
    few false = omega arith

-- after `mod`, a line's command is counted
pub tally_go : (m : Met) {q : Met} (l : Bytes) (ls : List Bytes) → ¬ (m.form ≡ 0) → head_step m (content l) ≡ Some q →
    (¬ (q.form ≡ 0)) × Every (λ j. tally j q + times j (spoken ls) ≡ tally j m + times j (spoken (l ∷ ls))) followers
unfolding meet
tally_go m {q} l ls n e = by (silent l) refl
  where
    ok : clean false (content l) ≡ true
    ok = clean_step m q (content l) e

    by : (b : Bool) → silent l ≡ b → (¬ (q.form ≡ 0)) × Every (λ j. tally j q + times j (spoken ls) ≡ tally j m + times j (spoken (l ∷ ls))) followers
    by true s = let g = silent_step m l ok s in let z : q ≡ m = cc in (rw z n, rw (z, spoken_not l ls s) (every_from followers (λ j i. refl)))
    by false s =
        let g = goes_other m q (command (content l)) (fields_of l) (sym (other_line m l n ok s) ∙ e) in (
          (λ h. n (sym (ap (λ (x : Met). x.form) g.2) ∙ h)),
          rw (g.2, spoken_so l ls s) (every_from followers (λ j i.
              let a = every_at followers (tallies (command (content l)) m g.0) i in
              let c = times_more j l (spoken ls) in
              omega arith)),
        )

-- the line `mod` counts nothing yet
pub mod_go : {q : Met} (l : Bytes) (ls : List Bytes) → head_step (met_none 0) (content l) ≡ Some q →
    ((q ≡ met_none 0) × (spoken (l ∷ ls) ≡ spoken ls)) ⊎ ((¬ (q.form ≡ 0)) × (spoken (l ∷ ls) ≡ l ∷ spoken ls) × Every (λ j. tally j q ≡ 0) followers)
mod_go {q} l ls e = by (silent l) refl
  where
    ok : clean false (content l) ≡ true
    ok = clean_step (met_none 0) q (content l) e

    by : (b : Bool) → silent l ≡ b →
        ((q ≡ met_none 0) × (spoken (l ∷ ls) ≡ spoken ls)) ⊎ ((¬ (q.form ≡ 0)) × (spoken (l ∷ ls) ≡ l ∷ spoken ls) × Every (λ j. tally j q ≡ 0) followers)
    by true s = let g = silent_step (met_none 0) l ok s in inl ((cc), spoken_not l ls s)
    by false s =
        let g = mod_goes q (command (content l)) (fields_of l) (sym (first_line (met_none 0) l refl ok s) ∙ e) in
        inr ((λ h. g.1 (sym (ap (λ (x : Met). x.form) g.2) ∙ h)), spoken_so l ls s, rw g.2 (none_met (mod_form (fields_of l))))
