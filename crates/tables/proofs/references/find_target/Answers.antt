use native.Mathlib.Omega.{arith}
use Prim.Native.Nat.{◌≤◌}
use lib.ListN.{length, get_or-eq_default}
use Rattle.page.specs.Bytes.{bytes, same}
use Rattle.page.specs.Lines.{find}
use Rattle.page.specs.Tables.{all_tables, table_at, table_named}
use Rattle.tables.specs.Keys.{no_reference, reference_at, target_at}
use Rattle.tables.specs.Rows.{told_target, given_target}
use Rattle.tables.proofs.RowLaws.{read_told, row_references}
use Rattle.tables.proofs.references.find_target.Goals as goal

pub returns-then-r-references : goal.returns-then-r-references
unfolding target_at reference_at
returns-then-r-references c =
    let x = c.find_table in
    read_told told_target given_target x.result.now.references.now (table_at c.args.t).references _ no_reference c.args.r x.ensures.targets c.if-r-references.true

pub returns-else-r-references : goal.returns-else-r-references
unfolding target_at reference_at table_named find same bytes all_tables
returns-else-r-references c =
    let h : length (table_at c.args.t).references ≤ c.args.r = omega (arith, row_references c.find_table.ensures) in
    rw (get_or-eq_default (table_at c.args.t).references no_reference h)
