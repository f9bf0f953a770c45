use mathlib.Core.Path.{refl}
use native.Mathlib.Omega.{arith}
use Prim.Native.Nat.{◌≤◌}
use lib.ListN.{length, get_or-eq_default}
use Rattle.page.specs.Tables.{table_at}
use Rattle.tables.specs.Keys.{no_reference, reference_at}
use Rattle.tables.specs.Rows.{told_columns, given_columns}
use Rattle.tables.proofs.RowLaws.{read_alike, row_references}
use Rattle.tables.proofs.references.list_columns.Goals as goal

pub returns-then-r-references : goal.returns-then-r-references
unfolding reference_at
returns-then-r-references c =
    let x = c.find_table in
    read_alike told_columns given_columns x.result.now.references.now (table_at c.args.t).references _ no_reference c.args.r x.ensures.references refl

pub returns-else-r-references : goal.returns-else-r-references
unfolding reference_at
returns-else-r-references c =
    let h : length (table_at c.args.t).references ≤ c.args.r = omega (arith, row_references c.find_table.ensures) in
    rw (get_or-eq_default (table_at c.args.t).references no_reference h)
