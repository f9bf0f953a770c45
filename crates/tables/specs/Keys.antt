-- What the code asks of a table's keys and references.
use Rattle.std.specs.Prelude.{Bool, true, false, List, [], ◌∷◌, map, ℕ, zero, suc, eqb, get_or}
use Rattle.page.specs.Bytes.{bytes}
use Rattle.page.specs.Tables.{Named, Reference, WIDEST, columns, table_at, table_named, to}
use Rattle.page.specs.File.{any, by_primary, by_second}
use Rattle.page.specs.declared.Column.{Column}
use Rattle.tables.specs.Arrays.{fill}

-- the primary key, or the second one
abbrev pub by_key : Bool → Column → Bool
by_key true = by_second
by_key false = by_primary

-- the columns of a key
unfoldable pub key_columns : (Column → Bool) → ℕ → List Bool
key_columns p t = fill WIDEST false (map (λ (c : Named). p c.column) (columns t))

-- the columns of reference r of table t, from 0
abbrev pub no_reference : Reference
no_reference = to [] ""

unfoldable pub reference_at : ℕ → ℕ → Reference
reference_at t r = get_or (table_at t).references r no_reference

unfoldable pub target_at : ℕ → ℕ → ℕ
target_at t r = table_named (bytes (reference_at t r).target)

-- whether each of n places from i on is one of ks
unfoldable pub flags : ℕ → ℕ → List ℕ → List Bool
flags zero i ks = []
flags (suc n) i ks = any (eqb i) ks ∷ flags n (suc i) ks

unfoldable pub refer_columns : ℕ → ℕ → List Bool
refer_columns t r = flags WIDEST 0 (reference_at t r).columns
