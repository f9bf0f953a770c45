use Rattle.rounds.proofs.NumberLaws.{Stands}
use Rattle.rounds.proofs.RoundLaws.{Told}
use Rattle.page.specs.Lines.{lines}
use Prim.Native.Nat.{◌≤◌}
use mathlib.Core.Path.{◌≡◌}
use lib.ListN.{length}
use Rattle.rounds.proofs.settle_doubts.Given as goal

abbrev pub invariant-loop-i : goal.invariant-loop-i
invariant-loop-i l =
    (l.i-iterator.iter.bytes.now ≡ l.w) × (l.i-iterator.count ≤ l.last) × (length l.t ≡ length l.initial.t)
    × Stands l.w l.i-iterator.iter.at l.i-iterator.count × Told l.choice (lines l.w) (length l.doubts) l.doubts (length l.initial.t) l.t l.i-iterator.count
