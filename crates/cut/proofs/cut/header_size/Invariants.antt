use Rattle.std.proofs.Common.{◌≡◌, ◌+◌, ◌≤◌, length, drop}
use Rattle.page.specs.Lines.{joined}
use Rattle.page.specs.Cut.{header_lines}
use Rattle.page.proofs.CutLaws.{front_size}
use Rattle.cut.proofs.cut.header_size.Given as goal

abbrev pub invariant-loop-line : goal.invariant-loop-line
invariant-loop-line l =
    let at = l.line-iterator.at in
    (l.line-iterator.bytes.now ≡ l.s) × (at ≤ length l.s) × (at + front_size (drop at l.s) ≡ length (joined (header_lines l.s)))
