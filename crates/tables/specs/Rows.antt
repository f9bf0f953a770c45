-- What the rows of the code's tables say, by the one list of tables.
use Rattle.std.specs.Prelude.{◌≡◌, List, [], ◌∷◌, map, ℕ, Option, Some, None}
use Rattle.page.specs.Bytes.{Bytes, bytes}
use Rattle.page.specs.Tables as Page
use Rattle.page.specs.declared.Column.{Column}
use Rattle.tables.specs.declared.rows.Named.{Named}
use Rattle.tables.specs.declared.rows.Reference.{Reference}
use Rattle.tables.specs.declared.rows.Rule.{Rule}
use Rattle.tables.specs.declared.rows.Rule.TheVariants.{Points, Feeder}
use Rattle.tables.specs.declared.rows.Table.{Table}

-- a column's row
pub record Tells (row : Named) (c : Page.Named) : Type 0 where
  pub name : row.name.now ≡ bytes c.name
  pub column : row.column ≡ c.column

abbrev pub told_name : Named → Bytes
told_name c = c.name.now

abbrev pub given_name : Page.Named → Bytes
given_name c = bytes c.name

abbrev pub told_column : Named → Column
told_column c = c.column

abbrev pub given_column : Page.Named → Column
given_column c = c.column

-- the columns of a reference, and the table that it goes to
abbrev pub told_columns : Reference → List ℕ
told_columns r = r.columns.now

abbrev pub given_columns : Page.Reference → List ℕ
given_columns r = r.columns

abbrev pub told_target : Reference → ℕ
told_target r = r.target

abbrev pub given_target : Page.Reference → ℕ
given_target r = Page.table_named (bytes r.target)

abbrev pub rules_of : Option Rule → List Page.Rule
rules_of None = []
rules_of (Some (Points p)) = Page.points_differ p ∷ []
rules_of (Some (Feeder c x)) = Page.feeder_combined c x ∷ []

-- a table's row
pub record Says (row : Table) (x : Page.Table) : Type 0 where
  pub number : row.number ≡ x.number
  pub name : row.name.now ≡ bytes x.name
  pub names : map told_name row.columns.now ≡ map given_name x.columns
  pub columns : map told_column row.columns.now ≡ map given_column x.columns
  pub references : map told_columns row.references.now ≡ map given_columns x.references
  pub targets : map told_target row.references.now ≡ map given_target x.references
  pub rules : rules_of row.rule ≡ x.rules

-- the rows of all tables
pub record AllSay (rows : List Table) : Type 0 where
  pub number : map (λ (r : Table). r.number) rows ≡ map (λ (x : Page.Table). x.number) Page.all_tables
  pub name : map (λ (r : Table). r.name.now) rows ≡ map (λ (x : Page.Table). bytes x.name) Page.all_tables
  pub names : map (λ (r : Table). map told_name r.columns.now) rows ≡ map (λ (x : Page.Table). map given_name x.columns) Page.all_tables
  pub columns : map (λ (r : Table). map told_column r.columns.now) rows ≡ map (λ (x : Page.Table). map given_column x.columns) Page.all_tables
  pub references : map (λ (r : Table). map told_columns r.references.now) rows ≡ map (λ (x : Page.Table). map given_columns x.references) Page.all_tables
  pub targets : map (λ (r : Table). map told_target r.references.now) rows ≡ map (λ (x : Page.Table). map given_target x.references) Page.all_tables
  pub rules : map (λ (r : Table). rules_of r.rule) rows ≡ map (λ (x : Page.Table). x.rules) Page.all_tables
