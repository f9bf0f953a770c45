use mathlib.Core.Path.{◌≡◌}
use Prim.Native.Nat.{◌+◌, ◌≤◌}
use lib.ListN.{length}
use Rattle.page.specs.Tables.{WIDEST}
use Rattle.page.specs.Places.{field_place}
use Rattle.starts.proofs.StartLaws.{Starts}
use Rattle.starts.proofs.find_starts.Given as goal

abbrev pub invariant-loop-k : goal.invariant-loop-k
invariant-loop-k l =
    (l.at ≤ length l.w + l.k) × (l.at ≡ field_place l.k 0 l.w) × (length l.starts ≡ WIDEST) × Starts l.w l.k l.starts
