use Rattle.std.proofs.Common.{◌+◌, drop}
use Rattle.output.proofs.PutLaws.{Todo}
use Rattle.output.proofs.bytes.copy_clipped.Given as goal

abbrev pub invariant-loop-i : goal.invariant-loop-i
invariant-loop-i l = Todo l.initial.room l.at l.s l.room (l.at + l.i) (drop l.i l.s)
