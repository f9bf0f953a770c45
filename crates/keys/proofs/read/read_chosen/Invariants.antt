use mathlib.Core.Path.{◌≡◌}
use Prim.Native.Nat.{◌+◌, ◌≤◌}
use lib.ListN.{length, replicate}
use Rattle.page.specs.Fields.{fields}
use Rattle.page.proofs.FieldLaws.{from}
use Rattle.keys.specs.Numbers.{gather}
use Rattle.keys.proofs.read.read_chosen.Given as goal

abbrev pub invariant-loop-rest : goal.invariant-loop-rest
invariant-loop-rest l =
    (l.at ≤ length l.w + 1) × (length l.k ≡ 7) × (gather l.rest l.slots (from l.w l.at) l.k ≡ gather l.initial.rest l.initial.slots (fields l.w) (replicate 7 0))

abbrev pub decreases-loop-rest : goal.decreases-loop-rest
decreases-loop-rest l = l.rest
