-- A section's records: their values, whose the texts are, and the lines where they stand.
use Rattle.std.specs.Prelude.{Bool, List, [], ◌∷◌, map, ℕ, suc, eqb, get_or, None, Option, Some}
use Rattle.page.specs.Bytes.{Bytes, pick}
use Rattle.page.specs.Lines.{content, command, rest, Atr, Rec, Com}
use Rattle.page.specs.Fields.{fields, number_of}
use Rattle.page.specs.Tables.{Named, columns, table_named}
use Rattle.page.specs.Order.{Order, order_of, by_column, column_in}
use Rattle.page.specs.Marks.{remark_of, owner_of}
use Rattle.page.specs.Section.{record_text, left_out, amount, outcome}
use Rattle.page.specs.declared.Owner.{Owner}
use Rattle.page.specs.declared.Remark.{Remark}
use Rattle.page.specs.declared.Remark.TheVariants as R
use Rattle.page.specs.declared.Column.{Column}

-- "a record's value is from now on a number, a missing number or a text with its owner"
pub data Datum : Type 0 where
  number : ℕ → Datum
  missing : Datum
  words : Owner → Bytes → Datum

abbrev pub Record : Type 0
Record = List Datum

-- a record and its line within the section, from 1
pub record Entry : Type 0 where
  pub line : ℕ
  pub values : Record

abbrev pub own_bytes : Option Bytes → Bytes
own_bytes None = []
own_bytes (Some t) = t

unfoldable pub datum_of : Owner → Column → Bytes → Datum
datum_of o c f =
    pick c.text (words o (own_bytes (record_text f))) (pick (left_out c.optional f) missing (number (amount (number_of f))))

-- the values of a record's fields, by column, the first counted as i, where a mark of column m waits
unfoldable pub values_of : ℕ → ℕ → List Named → List Bytes → Record
values_of m i [] fs = []
values_of m i (c ∷ cs) [] = []
values_of m i (c ∷ cs) (f ∷ fs) = datum_of (owner_of m i) c.column f ∷ values_of m (suc i) cs fs

-- the mark that waits after a `com` line: "It speaks of the next `rec`."
abbrev pub waiting : ℕ → Remark → ℕ
waiting m R.Comment = m
waiting m R.Unreadable = m
waiting m (R.Mark i) = i

unfoldable pub waits : ℕ → Bytes → ℕ
waits m c = pick (eqb (command c) Com) (waiting m (remark_of (rest c))) m

unfoldable pub record_in : ℕ → Order → ℕ → Bytes → Record
record_in t o m c = values_of (column_in o m) 1 (columns t) (by_column o (fields (rest c)))

-- the records of a sound section's lines; n lines have been read, and a mark of field m waits
unfoldable pub entries : ℕ → Order → ℕ → ℕ → List Bytes → List Entry
entries t o m n [] = []
entries t o m n (l ∷ ls) =
    pick (eqb (command (content l)) Rec) (record { line = suc n; values = record_in t o m (content l) } ∷ entries t o 0 (suc n) ls)
    (entries t o (waits m (content l)) (suc n) ls)

-- the table that a section's first line names, by its place in the list of tables
unfoldable pub table_index : List Bytes → ℕ
table_index [] = table_named []
table_index (l ∷ ls) = table_named (get_or (fields (rest (content l))) 0 [])

-- which column stands where in a sound section's lines, by what follows the first `;` of its `atr` line
unfoldable pub atr_in : List Bytes → Bytes
atr_in [] = []
atr_in (l ∷ ls) = pick (eqb (command (content l)) Atr) (rest (content l)) (atr_in ls)

unfoldable pub order_in : List Bytes → Order
order_in ls = order_of (table_index ls) (fields (atr_in ls))

-- "A refused section hands out no records."
unfoldable pub entries_of : Bool → List Bytes → List Entry
entries_of latin ls = pick (eqb (outcome latin ls).verdict 0) (entries (table_index ls) (order_in ls) 0 0 ls) []

unfoldable pub records_of : Bool → List Bytes → List Record
records_of latin ls = map (λ (e : Entry). e.values) (entries_of latin ls)
