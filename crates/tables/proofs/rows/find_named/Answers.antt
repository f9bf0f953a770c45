use mathlib.Core.Path.{◌≡◌, refl}
use native.Mathlib.Omega.{arith}
use lib.ListN.{get_or, get_or-eq_default}
use Rattle.page.specs.Bytes.{bytes}
use Rattle.page.specs.Tables.{columns, no_column}
use Rattle.tables.specs.Rows.{told_name, given_name, told_column, given_column}
use Rattle.tables.proofs.RowLaws.{read_alike, row_width}
use Rattle.tables.proofs.rows.find_named.Goals as goal

pub returns-then-k-columns : goal.returns-then-k-columns
unfolding bytes columns
returns-then-k-columns c =
    let a = c.args in
    let x = c.find_table in
    record {
      name = read_alike told_name given_name x.result.now.columns.now (columns a.t) _ no_column a.k x.ensures.names refl;
      column = read_alike told_column given_column x.result.now.columns.now (columns a.t) _ no_column a.k x.ensures.columns refl;
    }

pub returns-else-k-columns : goal.returns-else-k-columns
unfolding bytes columns
returns-else-k-columns c =
    let a = c.args in
    let e : get_or (columns a.t) a.k no_column ≡ no_column = get_or-eq_default (columns a.t) no_column (omega (arith, row_width c.find_table.ensures)) in
    rw e (record { name = refl; column = refl })
