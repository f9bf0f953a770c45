use Rattle.std.proofs.Common.{◌≡◌, ◌+◌, ◌≤◌, length, drop}
use Rattle.page.specs.Lines.{lines}
use Rattle.page.proofs.CutLaws.{sections_from}
use Rattle.cut.specs.Walk.{next_table}
use Rattle.cut.proofs.seek.find_section.Given as goal

abbrev pub invariant-loop-line : goal.invariant-loop-line
invariant-loop-line l =
    let at = l.line-iterator.at in
    (l.line-iterator.bytes.now ≡ l.s) × (l.at ≤ at) × (at ≤ length l.s) × (at + next_table (lines (drop at l.s)) ≡ l.at + next_table (lines (drop l.at l.s))) × (sections_from l.s at ≡ sections_from l.s l.at)
