use mathlib.Core.Path.{refl}
use Rattle.page.specs.Bytes.{bytes}
use Rattle.page.proofs.TableLaws.{past_tables}
use Rattle.tables.proofs.RowLaws.{says_at, rows_counted}
use Rattle.tables.proofs.rows.find_table.Goals as goal
use native.Mathlib.Omega.{arith}

pub returns-then-t-tables : goal.returns-then-t-tables
unfolding bytes
returns-then-t-tables c =
    let x = c.list_tables-tables in
    says_at x.result.now _ c.args.t x.ensures
    (record { number = refl; name = refl; names = refl; columns = refl; references = refl; targets = refl; rules = refl })

pub returns-else-t-tables : goal.returns-else-t-tables
unfolding bytes
returns-else-t-tables c =
    let x = c.list_tables-tables in
    rw (past_tables c.args.t (omega (arith, rows_counted x.result.now x.ensures)))
    (record { number = refl; name = refl; names = refl; columns = refl; references = refl; targets = refl; rules = refl })
