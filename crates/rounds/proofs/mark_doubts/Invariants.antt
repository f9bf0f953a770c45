use Rattle.rounds.proofs.NumberLaws.{Stands}
use Rattle.rounds.proofs.RoundLaws.{Marked}
use Rattle.page.specs.Lines.{lines}
use Prim.Native.Nat.{◌≤◌}
use mathlib.Core.Path.{◌≡◌}
use lib.ListN.{length}
use Rattle.rounds.proofs.mark_doubts.Given as goal

abbrev pub invariant-loop-i : goal.invariant-loop-i
invariant-loop-i l =
    (l.i-iterator.iter.bytes.now ≡ l.w) × (l.i-iterator.count ≤ l.pass.last) × (length l.t ≡ length l.initial.t) × (length l.doubts ≡ length l.initial.doubts)
    × Stands l.w l.i-iterator.iter.at l.i-iterator.count × Marked l.pass.choice (lines l.w) l.pass.lane l.pass.lanes (length l.initial.t) l.t (length l.initial.doubts) l.doubts l.some l.i-iterator.count
