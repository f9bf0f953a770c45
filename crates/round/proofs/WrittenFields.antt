-- Fields that stand by themselves: a written line falls into its fields again. Assumes nothing.
use mathlib.Core.Path.{◌≡◌, refl, ◌∙◌}
use mathlib.Core.Bool.{Bool, true, false, not, ◌&&◌}
use mathlib.Core.List.{List, [], ◌∷◌, ◌++◌, append-nil, map}
use Prim.Native.Nat.{ℕ, suc, ◌-◌, ◌<◌}
use native.Mathlib.Omega.{arith}
use lib.Dec.{eqb}
use lib.ListN.{length, length-append}
use lib.Seq.{take-length}
use Rattle.page.specs.Bytes.{Bytes, bytes, all, until, keep, space, trim}
use Rattle.page.specs.Fields.{parts_here, inside_after, into, split, fields, digit}
use Rattle.page.specs.Form.{separated, decimal, doubled, quoted}
use Rattle.page.proofs.ScanLaws.{keep_snoc}
use Rattle.laws.proofs.WrittenScans.{all_mono, differ}
use Rattle.round.proofs.WrittenNumbers.{decimal_all, decimal_some}
use Rattle.round.proofs.WrittenTexts.{graft, Closed, into_graft, closed_quoted}
use Rattle.page.proofs.TestLaws.{and_left, and_right}

-- a byte that is neither a space nor a quote nor a semicolon
unfoldable pub solid : ℕ → Bool
solid b = not (eqb b 32) && not (eqb b 34) && not (eqb b 59)

-- trimmed at the right end, and beginning with no space: one space in front goes
pub trim_one : (b : ℕ) (w : Bytes) → eqb b 32 ≡ false → keep space (b ∷ w) ≡ length (b ∷ w) → trim (32 ∷ b ∷ w) ≡ b ∷ w
unfolding trim keep until
trim_one b w e h = let z : suc (suc (length w)) - 1 ≡ suc (length w) = omega arith in rw (h, e, z) (take-length (b ∷ w))

keep_end : (w : Bytes) (b : ℕ) → eqb b 32 ≡ false → keep space (w ++ b ∷ []) ≡ length (w ++ b ∷ [])
keep_end w b e = keep_snoc space w b ∙ rw (e, length-append) (omega arith)

keep_solid : (w : Bytes) → all solid w ≡ true → keep space w ≡ length w
unfolding keep all solid
keep_solid [] h = refl
keep_solid (b ∷ w) h = rw (differ solid b 32 (and_left (solid b) (all solid w) h) refl, keep_solid w (and_right (solid b) (all solid w) h))

-- a field that stands by itself: closed, and trimmed as it is
pub record Field (f : Bytes) : Type 0 where
  pub shut : Closed false f
  pub kept : trim (32 ∷ f) ≡ f

pub data Fields : List Bytes → Type 0 where
  no_field : Fields []
  a_field : {f : Bytes} {fs : List Bytes} → Field f → Fields fs → Fields (f ∷ fs)

split_separated : {fs : List Bytes} → Fields fs → split false (separated fs) ≡ [] ∷ map (λ (f : Bytes). 32 ∷ f) fs
unfolding split separated graft bytes
split_separated no_field = refl
split_separated (a_field {f} {fs} a r) = rw (a.shut (separated fs), split_separated r, append-nil)

trimmed : {fs : List Bytes} → Fields fs → map trim (map (λ (f : Bytes). 32 ∷ f) fs) ≡ fs
trimmed no_field = refl
trimmed (a_field a r) = rw (a.kept, trimmed r)

-- what stands behind the first semicolon falls into the fields
pub fields_again : {f : Bytes} {fs : List Bytes} → Fields (f ∷ fs) → fields (32 ∷ f ++ separated fs) ≡ f ∷ fs
unfolding fields split graft
fields_again (a_field {f} {fs} a r) = rw (a.shut (separated fs), split_separated r, append-nil, a.kept, trimmed r)

graft_into : (s : Bool) (b : ℕ) (fs : List Bytes) → into s b fs ≡ graft [] (into s b fs)
unfolding graft
graft_into true b fs = refl
graft_into false b [] = refl
graft_into false b (f ∷ fs) = refl

graft_split : (q : Bool) (r : Bytes) → split q r ≡ graft [] (split q r)
unfolding split graft
graft_split q [] = refl
graft_split q (b ∷ r) = graft_into (parts_here q b) b (split (inside_after q b) r)

solid_closed : (w : Bytes) → all solid w ≡ true → Closed false w
unfolding split all solid
solid_closed [] h r = graft_split false r
solid_closed (b ∷ w) h r =
    let d : solid b ≡ true = and_left (solid b) (all solid w) h in
    simp (differ solid b 59 d refl, differ solid b 34 d refl, solid_closed w (and_right (solid b) (all solid w) h) r, into_graft)

-- a missing number
pub empty_field : Field []
unfolding trim keep until
empty_field = record { shut = graft_split false; kept = refl }

-- names, formats, numbers
pub solid_field : (w : Bytes) → 0 < length w → all solid w ≡ true → Field w
unfolding all solid
solid_field [] p h = absurd (omega arith)
solid_field (b ∷ w) p h =
    record { shut = solid_closed (b ∷ w) h; kept = trim_one b w (differ solid b 32 (and_left (solid b) (all solid w) h) refl) (keep_solid (b ∷ w) h) }

pub quoted_field : (t : Bytes) → Field (quoted t)
unfolding quoted
quoted_field t = record { shut = closed_quoted t; kept = trim_one 34 (doubled t ++ 34 ∷ []) refl (keep_end (34 ∷ doubled t) 34 refl) }

pub digit_solid : (b : ℕ) → digit b ≡ true → solid b ≡ true
unfolding solid digit
digit_solid b h = rw (differ digit b 32 h refl, differ digit b 34 h refl, differ digit b 59 h refl)

pub decimal_field : (n : ℕ) → Field (decimal n)
decimal_field n = solid_field (decimal n) (decimal_some n) (all_mono digit solid digit_solid (decimal n) (decimal_all n))
