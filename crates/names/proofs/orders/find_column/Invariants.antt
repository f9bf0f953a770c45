use mathlib.Core.Path.{◌≡◌}
use lib.ListN.{drop}
use Rattle.page.specs.Lines.{find}
use Rattle.names.specs.Told.{column_named}
use Rattle.names.proofs.ToldLaws.{names}
use Rattle.names.proofs.orders.find_column.Given as goal

abbrev pub invariant-loop-i : goal.invariant-loop-i
invariant-loop-i l = find l.i (drop l.i (names l.t)) l.f ≡ column_named l.t l.f
