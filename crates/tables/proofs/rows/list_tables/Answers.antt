use mathlib.Core.Path.{refl}
use Rattle.page.specs.Bytes.{bytes, same}
use Rattle.page.specs.Lines.{find}
use Rattle.page.specs.Tables.{all_tables, table_named}
use Rattle.tables.proofs.rows.list_tables.Goals as goal

pub returns : goal.returns
unfolding all_tables bytes table_named find same
returns c = record { number = refl; name = refl; names = refl; columns = refl; references = refl; targets = refl; rules = refl }
