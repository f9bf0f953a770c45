use Rattle.std.proofs.Common.{◌≡◌, ◌≤◌, length, drop}
use Rattle.page.specs.Lines.{lines}
use Rattle.page.specs.Places.{record_at}
use Rattle.places.proofs.find_record.Given as goal

abbrev pub invariant-loop-line : goal.invariant-loop-line
invariant-loop-line l =
    let at = l.line-iterator.at in
    (l.line-iterator.bytes.now ≡ l.s) × (at ≤ length l.s) × (record_at l.k l.m at (lines (drop at l.s)) ≡ record_at l.r 0 l.from (lines (drop l.from l.s)))
