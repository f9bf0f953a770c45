use Rattle.scans.specs.Scan.{bears}
use Rattle.page.specs.File.{any}
use Rattle.page.specs.Lines.{lines}
use mathlib.Core.Path.{◌≡◌}
use lib.ListN.{drop}
use Rattle.scans.proofs.scan.find_key.Given as goal

abbrev pub invariant-loop-line : goal.invariant-loop-line
invariant-loop-line l =
    (l.line-iterator.bytes.now ≡ l.w) × (any (bears l.choice l.key.k) (lines (drop l.line-iterator.at l.w)) ≡ any (bears l.choice l.key.k) (lines l.w))
