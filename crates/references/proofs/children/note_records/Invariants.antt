use Prim.Native.Nat.{◌+◌, ◌≤◌}
use Rattle.references.proofs.children.note_records.Given as goal

abbrev pub invariant-loop-line : goal.invariant-loop-line
invariant-loop-line l = l.count ≤ l.most + 2
