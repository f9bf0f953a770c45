-- The columns of all tables, one after the other, and the names in one row of bytes.
use Rattle.std.specs.Prelude.{◌≡◌, List, [], ◌∷◌, ◌++◌, map, ℕ, zero, suc, ◌+◌, ◌≤◌, length, get_or}
use Prim.Native.String.{String}
use Rattle.page.specs.Bytes.{Bytes, bytes, part}
use Rattle.page.specs.Lines.{joined}
use Rattle.page.specs.Tables.{Named, Table, all_tables}
use Rattle.page.specs.declared.Span.{Span}

-- what f says of the columns of each table, one after the other
unfoldable pub flat : {A : Type 0} → (Table → List A) → List Table → List A
flat f [] = []
flat f (x ∷ xs) = f x ++ flat f xs

unfoldable pub row_given : {A : Type 0} → (Named → A) → List A
row_given f = flat (λ (x : Table). map f x.columns) all_tables

-- how long such a row is; that it is so is computed in FlatLaws
abbrev pub COLUMNS : ℕ
COLUMNS = 62

-- where the columns of table t begin in it: the widths of the tables before added up
unfoldable pub columns_before : ℕ → List Table → ℕ
columns_before zero xs = 0
columns_before (suc t) [] = 0
columns_before (suc t) (x ∷ xs) = length x.columns + columns_before t xs

unfoldable pub first_column : ℕ → ℕ
first_column t = columns_before t all_tables

-- a name of no bytes, the columns' names, the tables' names
unfoldable pub words : List String
words = "" ∷ (row_given (λ (c : Named). c.name) ++ map (λ (x : Table). x.name) all_tables)

unfoldable pub word : ℕ → String
word n = get_or words n ""

unfoldable pub row : Bytes
row = joined (map bytes words)

-- a span of the row that reads s
pub record Reads (sp : Span) (s : String) : Type 0 where
  pub ordered : sp.from ≤ sp.to
  pub within : sp.to ≤ length row
  pub is : part sp row ≡ bytes s
