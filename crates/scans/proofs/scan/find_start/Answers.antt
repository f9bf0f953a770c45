use native.Mathlib.Omega.{arith}
use Rattle.scans.proofs.ScanLaws.{starts_first, starts_after}
use Rattle.scans.proofs.scan.find_start.Goals as goal

pub returns-then-at-eq0 : goal.returns-then-at-eq0
returns-then-at-eq0 c = starts_first c.args.w.now

pub returns : goal.returns
returns c = starts_after c.args.w.now c.args.at c.if-at-eq0.false (omega arith) c.if-w-at-ne10.false
