use Rattle.digits.specs.Runs.{Run}
use Rattle.digits.proofs.walk.digits_at.Given as goal

abbrev pub invariant-loop-to : goal.invariant-loop-to
invariant-loop-to l = Run l.w l.from l.to l.value
