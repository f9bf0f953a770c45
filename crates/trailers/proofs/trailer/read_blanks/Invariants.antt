use Rattle.std.proofs.Common.{◌≡◌, ◌≤◌, length, drop}
use Rattle.page.specs.Lines.{lines}
use Rattle.page.specs.Trailer.{all_blank}
use Rattle.trailers.proofs.trailer.read_blanks.Given as goal

abbrev pub invariant-loop-line : goal.invariant-loop-line
invariant-loop-line l =
    let at = l.line-iterator.at in
    (l.line-iterator.bytes.now ≡ l.s) × (at ≤ length l.s) × (l.n ≤ at) × (all_blank l.n (lines (drop at l.s)) ≡ all_blank 1 (lines (drop l.from l.s)))
