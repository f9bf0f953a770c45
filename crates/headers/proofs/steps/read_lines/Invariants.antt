use Rattle.std.proofs.Common.{◌≡◌, ◌≤◌, length, drop}
use Rattle.page.specs.Lines.{lines}
use Rattle.page.specs.Header.{head_run, head_of}
use Rattle.headers.proofs.steps.read_lines.Given as goal

abbrev pub invariant-loop-line : goal.invariant-loop-line
invariant-loop-line l =
    let at = l.line-iterator.at in
    (l.line-iterator.bytes.now ≡ l.s) × (at ≤ length l.s) × (l.n ≤ at) × (head_run l.m l.n (lines (drop at l.s)) ≡ head_of (lines l.s))
