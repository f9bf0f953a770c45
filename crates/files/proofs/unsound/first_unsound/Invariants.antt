use Rattle.cut.specs.Walk.{Settled}
use Rattle.page.proofs.CutLaws.{sections_from}
use Rattle.page.specs.File.{row_of, first_unsound}
use Rattle.page.specs.Cut.{sections}
use mathlib.Core.List.{map}
use Prim.Native.Nat.{◌+◌, ◌-◌, ◌≤◌}
use mathlib.Core.Path.{◌≡◌}
use lib.ListN.{length}
use Rattle.files.proofs.unsound.first_unsound.Given as goal

abbrev pub invariant-loop-at : goal.invariant-loop-at
invariant-loop-at l =
    (l.at ≤ length l.s) × (l.i ≤ l.at + 1) × Settled l.s l.at × (first_unsound l.i (map (row_of l.latin) (sections_from l.s l.at)) ≡ first_unsound 1 (map (row_of l.latin) (sections l.s)))

abbrev pub decreases-loop-at : goal.decreases-loop-at
decreases-loop-at l =
    length l.s - l.at
