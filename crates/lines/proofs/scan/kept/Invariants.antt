use Rattle.std.proofs.Common.{◌≡◌, take}
use Rattle.page.specs.Bytes.{keep, space}
use Rattle.lines.proofs.scan.kept.Given as goal

abbrev pub invariant-loop-i : goal.invariant-loop-i
invariant-loop-i l = keep space l.s ≡ keep space (take l.i l.s)
