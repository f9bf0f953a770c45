use Prim.Native.Nat.{◌+◌}
use mathlib.Core.Path.{◌≡◌}
use lib.ListN.{drop}
use Rattle.page.specs.Bytes.{until}
use Rattle.page.specs.Section.{no_digit}
use Rattle.names.proofs.formats.count_digits.Given as goal

abbrev pub invariant-loop-i : goal.invariant-loop-i
invariant-loop-i l = l.i + until no_digit (drop l.i l.w) ≡ until no_digit l.w
