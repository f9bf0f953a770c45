use Prim.Native.Nat.{◌-◌}
use mathlib.Core.Path.{◌≡◌}
use Rattle.page.specs.Fields.{fields}
use Rattle.scans.specs.Scan.{some}
use Rattle.aims.specs.Aims.{lacks}
use Rattle.references.specs.Recently.{Recently}
use Rattle.references.proofs.references.Section.read_line.Given as goal

abbrev pub invariant-loop-r : goal.invariant-loop-r
invariant-loop-r l =
    (some (lacks l.self.aims (fields l.f)) l.r (l.n - l.r) ≡ some (lacks l.self.aims (fields l.f)) 0 l.n) × Recently l.self.aims l.recent
