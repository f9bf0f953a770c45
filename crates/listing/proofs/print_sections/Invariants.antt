use Rattle.std.proofs.Common.{◌≡◌, ◌+◌, ◌≤◌, length}
use Rattle.listing.proofs.print_sections.Given as goal

abbrev pub invariant-loop-section : goal.invariant-loop-section
invariant-loop-section g l =
    let at = l.section-iterator.at in
    (l.section-iterator.bytes.now ≡ l.s) × (at ≤ length l.s) × (l.i ≤ at + 1)
