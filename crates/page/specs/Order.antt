-- Which column stands where in a section's lines: a column and its place are two things.
use Rattle.std.specs.Prelude.{Bool, ◌&&◌, List, [], ◌∷◌, map, ℕ, zero, suc, ◌+◌, eqb, length, get_or}
use Rattle.page.specs.Bytes.{Bytes, pick, all}
use Rattle.page.specs.Lines.{find}
use Rattle.page.specs.Tables.{Named, no_column, columns, width}

-- the column, from 0, at each place, from the left
abbrev pub Order : Type 0
Order = List ℕ

unfoldable pub upto : ℕ → ℕ → Order
upto i zero = []
upto i (suc n) = i ∷ upto (suc i) n

-- document 01's own: "The written file uses 452's order"
unfoldable pub listed_order : ℕ → Order
listed_order t = upto 0 (width t)

-- "The reading of `atr` must now say which column stands where": the columns that its fields name, one past the last for a field that names none
unfoldable pub order_of : ℕ → List Bytes → Order
order_of t fs = map (find 0 (map (λ (c : Named). c.name) (columns t))) fs

-- how often a column stands there
unfoldable pub often : ℕ → Order → ℕ
often c [] = 0
often c (x ∷ o) = pick (eqb x c) 1 0 + often c o

-- "any arrangement of a table's columns, each once": n columns
unfoldable pub arranged : ℕ → Order → Bool
arranged n o = eqb (length o) n && all (λ c. eqb (often c o) 1) (upto 0 n)

-- the columns of table t as they stand: what `frm` and the fields of a record are read against, from the left
unfoldable pub standing : ℕ → Order → List Named
standing t o = map (λ (c : ℕ). get_or (columns t) c no_column) o

-- the place, from 0, of a column
unfoldable pub place : ℕ → Order → ℕ
place c [] = 0
place c (x ∷ o) = pick (eqb x c) 0 (suc (place c o))

-- a record's fields by column
unfoldable pub by_column : Order → List Bytes → List Bytes
by_column o fs = map (λ (c : ℕ). get_or fs (place c o) []) (upto 0 (length o))

-- the column, from 1, of field m, from 1; 0: none
unfoldable pub column_in : Order → ℕ → ℕ
column_in o zero = 0
column_in o (suc m) = suc (get_or o m m)
