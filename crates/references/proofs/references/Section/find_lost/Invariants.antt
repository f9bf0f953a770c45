use mathlib.Core.List.{[]}
use Prim.Native.Nat.{◌≤◌}
use mathlib.Core.Path.{◌≡◌}
use lib.ListN.{take, drop}
use Rattle.page.specs.Lines.{lines}
use Rattle.scans.specs.Scan.{Starts, first_line}
use Rattle.aims.specs.Aims.{lacks_any}
use Rattle.references.specs.Recently.{Recently}
use Rattle.references.proofs.references.Section.find_lost.Given as goal

abbrev pub invariant-loop-i : goal.invariant-loop-i
invariant-loop-i l =
    let w = l.self.bytes.now in
    let at = l.i-iterator.iter.at in
    (l.i-iterator.iter.bytes.now ≡ w) × (l.i-iterator.count ≤ at) × Starts w at
    × (first_line (lacks_any l.self.aims l.self.table) (lines (take at w)) l.i-iterator.count (lines (drop at w)) ≡ first_line (lacks_any l.self.aims l.self.table) [] 0 (lines w))
    × Recently l.self.aims l.seen.recent
