use Rattle.std.proofs.Common.{◌≡◌, ◌≤◌, length, drop}
use Rattle.page.specs.Lines.{lines}
use Rattle.page.specs.Places.{line_of}
use Rattle.commands.specs.Commands.{code}
use Rattle.headers.proofs.find.find_line.Given as goal

abbrev pub invariant-loop-line : goal.invariant-loop-line
invariant-loop-line l =
    let at = l.line-iterator.at in
    (l.line-iterator.bytes.now ≡ l.h) × (at ≤ length l.h) × (line_of (code l.k) at (lines (drop at l.h)) ≡ line_of (code l.k) 0 (lines l.h))
