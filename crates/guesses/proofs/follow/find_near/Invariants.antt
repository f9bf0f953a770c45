use Rattle.scans.specs.Scan.{Starts}
use Rattle.guesses.proofs.follow.find_near.Given as goal

abbrev pub invariant-loop : goal.invariant-loop
invariant-loop l = Starts l.w l.from
