-- The trailer: accepted exactly if it keeps the rules, and else refused exactly at the first line that breaks one.
use mathlib.Core.Path.{◌≡◌, refl, ap, sym, ◌∙◌}
use mathlib.Core.Bool.{Bool, true, false, false≢true}
use mathlib.Core.List.{List, [], ◌∷◌, ◌++◌}
use mathlib.Core.Logic.{◌⊎◌, inl, inr, ◌↔◌}
use Prim.Native.Nat.{ℕ, suc, ◌+◌}
use native.Mathlib.Omega.{arith}
use lib.ListN.{length, get_or}
use Rattle.page.specs.Bytes.{Bytes, pick}
use Rattle.page.specs.Lines.{content, blank, clean}
use Rattle.page.specs.Fields.{number_of}
use Rattle.page.specs.Trailer.{counts, eof_ok, all_blank, trailer_finding}
use Rattle.page.specs.Grammar.{fields_of}
use Rattle.page.specs.Refusals.{One}
use Rattle.page.specs.Rules.{Every, none_left, one_more, SoundTrailer}
use Rattle.page.specs.declared.Number.{Number}
use Rattle.page.specs.declared.Number.TheVariants as N
use Rattle.page.specs.declared.Finding.{Finding}
use Rattle.verdicts.specs.Trailers.{EofLine, TrailerFault, no_eof, bad_eof, not_blank}
use Rattle.laws.proofs.Decides.{Decides, holds, fails, tested, untested, when, both, equal}
use Rattle.laws.proofs.Tests.{is_d, one_d}

abbrev finding : ℕ → ℕ → Finding
finding v n = record { verdict = v; line = n }

counts_d : (n : ℕ) (x : Number) → Decides (x ≡ N.Plus n) (counts n x)
counts_d n (N.Plus m) = when (λ e. ap N.Plus e) (λ e. cc) (equal m n)
counts_d n (N.Minus m) = fails (λ e. absurd (false≢true (cc)))
counts_d n N.Nothing = fails (λ e. absurd (false≢true (cc)))

-- the test of the `eof` line decides the rule
eof_d : (n : ℕ) (l : Bytes) → Decides (EofLine n l) (eof_ok n (content l))
unfolding eof_ok
eof_d n l = when into back (both (both (is_d (clean false (content l))) (one_d (fields_of l))) (counts_d n (number_of (get_or (fields_of l) 0 []))))
  where
    first : (f : Bytes) → fields_of l ≡ f ∷ [] → number_of (get_or (fields_of l) 0 []) ≡ number_of f
    first f e = rw e

    into : ((clean false (content l) ≡ true) × One (fields_of l)) × (number_of (get_or (fields_of l) 0 []) ≡ N.Plus n) → EofLine n l
    into x = record { clean = x.0.0; count = x.0.1.0; alone = x.0.1.1; reads = sym (first x.0.1.0 x.0.1.1) ∙ x.1 }

    back : EofLine n l → ((clean false (content l) ≡ true) × One (fields_of l)) × (number_of (get_or (fields_of l) 0 []) ≡ N.Plus n)
    back h = ((h.clean, (h.count, h.alone)), first h.count h.alone ∙ h.reads)

-- the lines after it
all_blank_sound : (k : ℕ) {ls : List Bytes} → Every (λ y. blank (content y) ≡ true) ls → all_blank k ls ≡ finding 0 0
unfolding all_blank
all_blank_sound k none_left = refl
all_blank_sound k (one_more b e) = rw b (all_blank_sound (suc k) e)

all_blank_stop : (k : ℕ) {before : List Bytes} (x : Bytes) (after : List Bytes) → Every (λ y. blank (content y) ≡ true) before → ¬ (blank (content x) ≡ true) →
    all_blank k (before ++ (x ∷ after)) ≡ finding 3 (suc (length before + k))
unfolding all_blank
all_blank_stop k x after none_left n = rw (untested (is_d (blank (content x))) n) (ap (finding 3) (omega arith))
all_blank_stop k x after (one_more {xs} b e) n = rw b (all_blank_stop (suc k) x after e n ∙ ap (finding 3) (omega arith))

abbrev Stopped : List Bytes → Type 0
Stopped ls = (before : List Bytes) × (x : Bytes) × (after : List Bytes) × (ls ≡ before ++ (x ∷ after)) × Every (λ y. blank (content y) ≡ true) before × ¬ (blank (content x) ≡ true)

blanks : (ls : List Bytes) → Every (λ y. blank (content y) ≡ true) ls ⊎ Stopped ls
blanks [] = inl none_left
blanks (l ∷ ls) = by (blank (content l)) (is_d (blank (content l))) (blanks ls)
  where
    by : (b : Bool) → Decides (blank (content l) ≡ true) b → Every (λ y. blank (content y) ≡ true) ls ⊎ Stopped ls → Every (λ y. blank (content y) ≡ true) (l ∷ ls) ⊎ Stopped (l ∷ ls)
    by true (holds h) (inl e) = inl (one_more h e)
    by true (holds h) (inr x) = inr (l ∷ x.0, x.1, x.2, ap (λ (z : List Bytes). l ∷ z) x.3, one_more h x.4, x.5)
    by false (fails n) r = inr ([], l, ls, refl, none_left, n)

module _ (n : ℕ) where
  -- what the trailer is, and what it then gives
  pub trailer_settled : (ls : List Bytes) →
      (SoundTrailer n ls × (trailer_finding n ls ≡ record { verdict = 0; line = 0 })) ⊎ ((j : ℕ) × TrailerFault n ls j × (trailer_finding n ls ≡ record { verdict = 3; line = j }))
  unfolding trailer_finding
  trailer_settled [] = inr (0, no_eof refl refl, refl)
  trailer_settled (l ∷ ls) = by (eof_ok n (content l)) (eof_d n l) (blanks ls)
    where
      by : (b : Bool) → Decides (EofLine n l) b → Every (λ y. blank (content y) ≡ true) ls ⊎ Stopped ls →
          (SoundTrailer n (l ∷ ls) × (pick b (all_blank 1 ls) (finding 3 1) ≡ finding 0 0)) ⊎ ((j : ℕ) × TrailerFault n (l ∷ ls) j × (pick b (all_blank 1 ls) (finding 3 1) ≡ finding 3 j))
      by false (fails m) r = inr (1, bad_eof l ls refl m refl, refl)
      by true (holds h) (inl e) =
          inl (record { first = l; others = ls; split = refl; clean = h.clean; count = h.count; alone = h.alone; reads = h.reads; silent = e }, all_blank_sound 1 e)
      by true (holds h) (inr x) =
          inr (
            suc (suc (length x.0)),
            not_blank l x.1 x.0 x.2 (ap (λ (z : List Bytes). l ∷ z) x.3) h x.4 x.5 refl,
            rw x.3 (all_blank_stop 1 x.1 x.2 x.4 x.5 ∙ ap (finding 3) (omega arith)),
          )

  sound_gives : (ls : List Bytes) → SoundTrailer n ls → trailer_finding n ls ≡ finding 0 0
  unfolding trailer_finding
  sound_gives ls h =
      rw (h.split, tested (eof_d n h.first) (record { clean = h.clean; count = h.count; alone = h.alone; reads = h.reads })) (all_blank_sound 1 h.silent)

  fault_gives : (ls : List Bytes) (j : ℕ) → TrailerFault n ls j → trailer_finding n ls ≡ finding 3 j
  unfolding trailer_finding
  fault_gives ls j (no_eof e z) = rw (e, z)
  fault_gives ls j (bad_eof l others e m z) = rw (e, untested (eof_d n l) m, z)
  fault_gives ls j (not_blank l x before after e h b m z) = rw (e, tested (eof_d n l) h) (all_blank_stop 1 x after b m ∙ rw z (ap (finding 3) (omega arith)))

  -- a trailer has verdict 0 exactly if it is sound
  pub trailer_exactly : (ls : List Bytes) → trailer_finding n ls ≡ record { verdict = 0; line = 0 } ↔ SoundTrailer n ls
  trailer_exactly ls = (λ e. into e (trailer_settled ls), sound_gives ls)
    where
      into : trailer_finding n ls ≡ finding 0 0 → (SoundTrailer n ls × (trailer_finding n ls ≡ finding 0 0)) ⊎ ((j : ℕ) × TrailerFault n ls j × (trailer_finding n ls ≡ finding 3 j)) → SoundTrailer n ls
      into e (inl x) = x.0
      into e (inr x) = let z = ap (λ (f : Finding). f.verdict) (sym e ∙ x.2) in absurd (let y : ⊥ = omega arith in y)

  -- a trailer is refused at line j exactly if that is the first line that breaks a rule, 0 if no `eof` stands
  pub trailer_refused_exactly : (ls : List Bytes) (j : ℕ) → trailer_finding n ls ≡ record { verdict = 3; line = j } ↔ TrailerFault n ls j
  trailer_refused_exactly ls j = (λ e. into e (trailer_settled ls), fault_gives ls j)
    where
      into : trailer_finding n ls ≡ finding 3 j → (SoundTrailer n ls × (trailer_finding n ls ≡ finding 0 0)) ⊎ ((k : ℕ) × TrailerFault n ls k × (trailer_finding n ls ≡ finding 3 k)) → TrailerFault n ls j
      into e (inl x) = let z = ap (λ (f : Finding). f.verdict) (sym e ∙ x.1) in absurd (let y : ⊥ = omega arith in y)
      into e (inr x) = let z : j ≡ x.0 = ap (λ (f : Finding). f.line) (sym e ∙ x.2) in rw z x.1
