use Prim.Native.Nat.{◌≤◌}
use Rattle.references.proofs.children.note_record.Given as goal

abbrev pub invariant-loop-r : goal.invariant-loop-r
invariant-loop-r l = l.new ≤ l.r
