use Rattle.std.proofs.Common.{◌≡◌, ◌≤◌, length, drop}
use Rattle.page.specs.Cut.{sections}
use Rattle.page.proofs.CutLaws.{sections_from}
use Rattle.cut.specs.Walk.{Settled}
use Rattle.cut.proofs.seek.find_nth.Given as goal

abbrev pub invariant-loop : goal.invariant-loop
invariant-loop l = (l.at ≤ length l.s) × Settled l.s l.at × (drop l.counter (sections l.s) ≡ sections_from l.s l.at)
