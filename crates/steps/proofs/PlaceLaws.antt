-- Where the sections from a place on begin. Assumes nothing.
use mathlib.Core.Path.{◌≡◌, refl, ap, sym, ◌∙◌}
use mathlib.Core.Bool.{Bool, true, false}
use Prim.Native.Nat.{ℕ, ◌+◌, ◌-◌, ◌≤◌}
use native.Mathlib.Omega.{arith}
use borrow.Author.Tests.{ltb-true, ltb-false}
use lib.Dec.{ltb}
use lib.ListN.{length, drop}
use Rattle.page.specs.Bytes.{Bytes}
use Rattle.page.proofs.LineLaws.{line_size}
use Rattle.page.proofs.CutLaws.{sections_from, sections_end}
use Rattle.cut.specs.Walk.{section_from, Settled, Next}
use Rattle.cut.proofs.WalkLaws.{next_stop, walk_here}
use Rattle.steps.specs.Steps.{Begins, first_place}

pub begins_settled : (s : Bytes) (at : ℕ) → Begins s at → Settled s at
begins_settled s at b =
    let e = at + line_size (drop at s) in
    let k : line_size (drop at s) ≡ e - at = omega arith in
    next_stop s at e b.within refl (rw k at b.table)

section_place : (s : Bytes) (at : ℕ) → (section_from s at).place ≡ at
unfolding section_from
section_place s at = refl

-- a place that is a section's, or the end, is where the sections from it on begin
first_settled : (s : Bytes) (at : ℕ) → at ≤ length s → Settled s at → first_place s (sections_from s at) ≡ at
first_settled s at h z = by (ltb at (length s)) refl
  where
    by : (b : Bool) → ltb at (length s) ≡ b → first_place s (sections_from s at) ≡ at
    by true x = ap (first_place s) (walk_here s at (ltb-true at (length s) x) z) ∙ section_place s at
    by false x =
        let l = ltb-false at (length s) x in
        rw (sections_end s at l) (omega arith)

pub first_next : (s : Bytes) (at r : ℕ) → Next s at r → r ≡ first_place s (sections_from s at)
first_next s at r x = sym (first_settled s r x.within x.settled) ∙ ap (first_place s) x.same
