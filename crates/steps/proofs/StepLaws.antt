-- A section's row and the place of the next are the step of the pass. Assumes nothing.
use mathlib.Core.Path.{◌≡◌}
use mathlib.Core.Bool.{Bool}
use Prim.Native.Nat.{ℕ, ◌+◌, ◌≤◌}
use native.Mathlib.Omega.{arith}
use lib.ListN.{length, drop}
use Rattle.page.specs.Bytes.{Bytes}
use Rattle.page.specs.declared.Row.{Row}
use Rattle.page.proofs.CutLaws.{sections_from}
use Rattle.cut.specs.Walk.{section_size, Next}
use Rattle.cut.proofs.WalkLaws.{section_within, walk_here}
use Rattle.steps.specs.Steps.{Begins, first_place, stays, step_by}
use Rattle.steps.proofs.PlaceLaws.{begins_settled, first_next}

module _ (s : Bytes) (at : ℕ) (b : Begins s at) (row : Row) (q : row.length ≡ section_size (drop at s)) where
  pub row_within : at + row.length ≤ length s
  row_within = omega (arith, q, section_within s at b.within)

  pub step_is : (next : ℕ) → Next s (at + row.length) next → (before sound : Bool) → sound ≡ stays before row.verdict
      → record { row = row; next = next; sound = sound } ≡ step_by s at row before
  unfolding step_by
  step_is next x before sound y =
      let n : next ≡ first_place s (sections_from s (at + section_size (drop at s))) = rw q at (first_next s (at + row.length) next x) in
      rw (walk_here s at b.within (begins_settled s at b), n, y)
