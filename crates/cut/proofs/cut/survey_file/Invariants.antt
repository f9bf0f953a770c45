use Rattle.std.proofs.Common.{◌≡◌, ◌+◌, ◌≤◌, length, drop}
use Rattle.page.specs.Lines.{lines}
use Rattle.page.specs.Cut.{sections, from_end, trailer_lines}
use Rattle.page.proofs.CutLaws.{sections_from}
use Rattle.cut.proofs.cut.survey_file.Given as goal

abbrev pub invariant-loop-line : goal.invariant-loop-line
invariant-loop-line l =
    let at = l.line-iterator.at in
    (l.line-iterator.bytes.now ≡ l.s) × (at ≤ length l.s) × (l.n ≤ at) × (l.n + length (sections_from l.s at) ≡ length (sections l.s)) × (from_end (lines (drop at l.s)) ≡ trailer_lines l.s)
