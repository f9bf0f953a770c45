use mathlib.Core.Path.{◌≡◌}
use lib.ListN.{drop}
use Rattle.page.specs.Lines.{find}
use Rattle.page.specs.Tables.{table_named}
use Rattle.names.proofs.ToldLaws.{titles}
use Rattle.names.proofs.find_table.Given as goal

abbrev pub invariant-loop-t : goal.invariant-loop-t
invariant-loop-t l = find l.t (drop l.t titles) l.w ≡ table_named l.w
