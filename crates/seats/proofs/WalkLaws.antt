-- From section to section, and what soundness tells of each. Assumes nothing.
use mathlib.Core.Path.{◌≡◌, refl, ap, sym, ◌∙◌}
use mathlib.Core.Bool.{Bool, true, false}
use mathlib.Core.List.{List, [], ◌∷◌, map}
use Prim.Native.Nat.{ℕ, zero, suc, ◌+◌, ◌<◌, ◌≤◌}
use native.Mathlib.Numerals.{add-one}
use native.Mathlib.Omega.{arith}
use borrow.Author.Tests.{eq-eqb, ne_eqb, eqb-true}
use lib.Dec.{eqb}
use lib.ListN.{length, get_or, take, drop, length-drop}
use lib.Seq.{length-take-le}
use Rattle.page.specs.Bytes.{Bytes, pick}
use Rattle.page.specs.Cut.{Section, sections}
use Rattle.page.specs.Head.{latin_of}
use Rattle.page.specs.Section.{outcome}
use Rattle.page.specs.Rules.{Every, one_more}
use Rattle.page.specs.Answers.{refusal, sound}
use Rattle.page.specs.File.{row_given, row_of, rows_of, first_unsound}
use Rattle.page.specs.declared.Row.{Row}
use Rattle.page.specs.declared.Refusal.{Refusal}
use Rattle.page.proofs.LineLaws.{joined_lines}
use Rattle.page.proofs.CutLaws.{no_section, sections_from, sections_end}
use Rattle.laws.proofs.Sections.{sections_begin}
use Rattle.cut.specs.Walk.{section_size, section_from, Settled}
use Rattle.cut.proofs.WalkLaws.{section_within, walk_here}
use Rattle.keys.proofs.SoundLaws.{Sound, sound_section}

-- the first unsound section, at a section's place

module _ (s : Bytes) (at i : ℕ) (latin : Bool) (h : at < length s) (z : Settled s at) (row : Row) (q : row ≡ row_of latin (section_from s at)) where
  pub unsound_here : (row.verdict ≡ 0 → ⊥) → first_unsound i (map (row_of latin) (sections_from s at)) ≡ refusal row.verdict i row.line
  unfolding first_unsound
  unsound_here n = rw (walk_here s at h z, sym q, ne_eqb row.verdict 0 n)

  pub unsound_more : row.verdict ≡ 0 → (e : ℕ) → e ≡ at + section_size (drop at s)
      → first_unsound i (map (row_of latin) (sections_from s at)) ≡ first_unsound (i + 1) (map (row_of latin) (sections_from s e))
  unfolding first_unsound
  unsound_more n e x = rw (walk_here s at h z, sym q, eq-eqb row.verdict 0 n, x, add-one)

pub unsound_end : (s : Bytes) (at i : ℕ) (latin : Bool) → length s ≤ at → first_unsound i (map (row_of latin) (sections_from s at)) ≡ sound
unfolding first_unsound
unsound_end s at i latin h = rw (sections_end s at h)

-- a row tells where its section ends
pub row_end : (latin : Bool) (s : Bytes) (at : ℕ) (row : Row) → at < length s → row ≡ row_of latin (section_from s at)
    → (at + row.length ≡ at + section_size (drop at s)) × (at < at + row.length) × (at + row.length ≤ length s)
unfolding row_of row_given section_from
row_end latin s at row h q =
    let w = section_within s at h in
    let n : section_size (drop at s) ≤ length (drop at s) = omega (arith, length-drop at s) in
    let l : row.length ≡ section_size (drop at s) =
    ap (λ (r : Row). r.length) q
    ∙ rw (joined_lines (take (section_size (drop at s)) (drop at s))) (length-take-le (section_size (drop at s)) (drop at s) n) in
    (omega arith, omega arith, omega arith)

-- where none is unsound, each is sound

all_verdicts : (latin : Bool) (i : ℕ) (xs : List Section) → first_unsound i (map (row_of latin) xs) ≡ sound → (k : ℕ) → k < length xs
    → (outcome latin (get_or xs k no_section).lines).verdict ≡ 0
unfolding first_unsound row_of row_given
all_verdicts latin i [] e k h = absurd (omega arith)
all_verdicts latin i (x ∷ xs) e k h = by (eqb (outcome latin x.lines).verdict 0) refl e k h (all_verdicts latin (suc i) xs)
  where
    by : (b : Bool) → eqb (outcome latin x.lines).verdict 0 ≡ b
        → pick b (first_unsound (suc i) (map (row_of latin) xs)) (refusal (outcome latin x.lines).verdict i (outcome latin x.lines).line) ≡ sound
        → (k : ℕ) → k < suc (length xs)
        → (first_unsound (suc i) (map (row_of latin) xs) ≡ sound → (k : ℕ) → k < length xs → (outcome latin (get_or xs k no_section).lines).verdict ≡ 0)
        → (outcome latin (get_or (x ∷ xs) k no_section).lines).verdict ≡ 0
    by true q e zero h ih = eqb-true (outcome latin x.lines).verdict 0 q
    by true q e (suc k) h ih = ih e k (omega arith)
    by false q e zero h ih = ap (λ (r : Refusal). r.number) e
    by false q e (suc k) h ih = absurd (let n : (outcome latin x.lines).verdict ≡ 0 = ap (λ (r : Refusal). r.number) e in let z : ◌≡◌ {A = Bool} true false = sym (eq-eqb (outcome latin x.lines).verdict 0 n) ∙ q in let y : ◌≡◌ {A = ℕ} 0 1 = cc in omega arith)

every_at : {A : Type 0} {P : A → Type 0} (d : A) (xs : List A) → Every P xs → (k : ℕ) → k < length xs → P (get_or xs k d)
every_at d [] h k l = absurd (omega arith)
every_at d (x ∷ xs) (one_more p h) zero l = p
every_at d (x ∷ xs) (one_more p h) (suc k) l = every_at d xs h k (omega arith)

pub sound_here : (s : Bytes) → first_unsound 1 (rows_of s) ≡ sound → (k : ℕ) → k < length (sections s) → Sound (latin_of s) (get_or (sections s) k no_section).lines
unfolding rows_of
sound_here s e k h =
    sound_section (latin_of s) (get_or (sections s) k no_section).lines (every_at no_section (sections s) (sections_begin s) k h)
    (all_verdicts (latin_of s) 1 (sections s) e k h)

-- the section at a place, among all

drop_head : {A : Type 0} (d : A) (xs : List A) (n : ℕ) (y : A) (ys : List A) → y ∷ ys ≡ drop n xs → (n < length xs) × (get_or xs n d ≡ y) × (ys ≡ drop (n + 1) xs)
drop_head d [] n y ys e = absurd (go n e)
  where
    go : (n : ℕ) → y ∷ ys ≡ drop n [] → ⊥
    go zero e = let z : ◌≡◌ {A = ℕ} 0 1 = cc in omega arith
    go (suc n) e = let z : ◌≡◌ {A = ℕ} 0 1 = cc in omega arith
drop_head d (x ∷ xs) zero y ys e = (omega arith, cc, cc)
drop_head d (x ∷ xs) (suc n) y ys e =
    let r = drop_head d xs n y ys e in
    let m : suc n + 1 ≡ suc (n + 1) = omega arith in
    (omega (arith, r.0), r.1, rw m r.2)

pub record Among (s : Bytes) (at n : ℕ) : Type 0 where
  pub within : n < length (sections s)
  pub is : get_or (sections s) n no_section ≡ section_from s at
  pub rest : sections_from s (at + section_size (drop at s)) ≡ drop (n + 1) (sections s)

module _ (s : Bytes) (at : ℕ) (h : at < length s) (z : Settled s at) where
  pub among : (n : ℕ) → sections_from s at ≡ drop n (sections s) → Among s at n
  among n e =
      let r = drop_head no_section (sections s) n (section_from s at) (sections_from s (at + section_size (drop at s))) (sym (walk_here s at h z) ∙ e) in
      record { within = r.0; is = r.1; rest = r.2 }
