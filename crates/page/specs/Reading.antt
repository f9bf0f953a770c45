-- What a call hands out of a file: the header's values, one row, all rows, one value.
use Rattle.std.specs.Prelude.{Bool, ◌||◌, List, [], ◌++◌, ℕ, suc, ◌-◌, eqb, ltb, length, get_or, drop, Result}
use Rattle.page.specs.declared.Header.{Header}
use Rattle.page.specs.Bytes.{Bytes, pick, moved}
use Rattle.page.specs.Fields.{fields}
use Rattle.page.specs.Tables.{column_at, width}
use Rattle.page.specs.Order.{Order, place}
use Rattle.page.specs.Cut.{Section, sections, header_lines}
use Rattle.page.specs.Head.{header_values, latin_of}
use Rattle.page.specs.Marks.{owner_of}
use Rattle.page.specs.Section.{field_of}
use Rattle.page.specs.Records.{table_index, order_in}
use Rattle.page.specs.Places.{Standing, field_span, record_at}
use Rattle.page.specs.Answers.{refusal, sound, earlier, refuse_if, answered}
use Rattle.page.specs.File.{header_refusal, row_of, rows_of, file_refusal}
use Rattle.page.specs.declared.Column.{Column}
use Rattle.page.specs.declared.Field.{Field}
use Rattle.page.specs.declared.Field.TheVariants as F
use Rattle.page.specs.declared.Owner.{Owner}
use Rattle.page.specs.declared.Value.{Value}
use Rattle.page.specs.declared.Value.TheVariants as Va
use Rattle.page.specs.declared.Row.{Row}
use Rattle.page.specs.declared.Refusal.{Refusal}

-- the header's values, or 1 or 2
unfoldable pub header_of : Bytes → Result Header Refusal
header_of s = answered (header_refusal s) (header_values (header_lines s))

-- i is none of n, counted from 1
unfoldable pub outside : ℕ → ℕ → Bool
outside i n = eqb i 0 || ltb n i

abbrev pub no_section : Section
no_section = record { place = 0; lines = [] }

unfoldable pub section_at : Bytes → ℕ → Section
section_at s i = get_or (sections s) (i - 1) no_section

unfoldable pub row_at : Bytes → ℕ → Row
row_at s i = row_of (latin_of s) (section_at s i)

-- "the first of 1, 2, 24 for the section"
unfoldable pub find_refusal : Bytes → ℕ → Refusal
find_refusal s i = earlier (header_refusal s) (refuse_if (outside i (length (sections s))) 24)

-- one row by value
unfoldable pub section_of : Bytes → ℕ → Result Row Refusal
section_of s i = answered (find_refusal s i) (row_at s i)

-- "Too few rows is 21, after 1 and 2."
unfoldable pub list_refusal : Bytes → ℕ → Refusal
list_refusal s room = earlier (header_refusal s) (refuse_if (ltb room (length (sections s))) 21)

-- "Listing is refused by 1, 2 and 21 only and then writes no row; other verdicts go into the rows and the file's answer."
unfoldable pub list_of : Bytes → ℕ → Result (Unit {0}) Refusal
list_of s room = answered (earlier (list_refusal s room) (file_refusal s)) tt

-- "Spare rows keep their values."
unfoldable pub rows_after : Bytes → List Row → List Row
rows_after s rows = pick (eqb (list_refusal s (length rows)).number 0) (rows_of s ++ drop (length (sections s)) rows) rows

-- the section's verdict, with its place
unfoldable pub verdict_of : ℕ → Row → Refusal
verdict_of i r = pick (eqb r.verdict 0) sound (refusal r.verdict i r.line)

-- "Reading one record gives the first of 1, 2, 24 for the section, the section's verdict, 24 for the record or field."
unfoldable pub value_refusal : Bytes → ℕ → ℕ → ℕ → Refusal
value_refusal s i r f =
    earlier (find_refusal s i)
    (earlier (verdict_of i (row_at s i))
    (refuse_if (outside r (row_at s i).records || outside f (width (table_index (section_at s i).lines))) 24))

-- a field that stands k bytes later
abbrev pub later_field : ℕ → Field → Field
later_field k (F.Text sp) = F.Text (moved k sp)
later_field k (F.Number n) = F.Number n
later_field k F.Missing = F.Missing
later_field k (F.Refused v) = F.Refused v

-- the field at place p, from 0, of what follows a line's first `;`
unfoldable pub field_at : Column → Bytes → ℕ → Field
field_at c w p = later_field (field_span w p).from (field_of c (get_or (fields w) p []))

-- what a field is handed out as: no field of a sound record is refused
abbrev pub valued : Owner → Field → Value
valued o (F.Text sp) = Va.Words (record { from = sp.from; to = sp.to; owner = o })
valued o (F.Number n) = Va.Number n
valued o F.Missing = Va.Missing
valued o (F.Refused v) = Va.Number 0

-- column f (from 1) of a record of table t that stands so
unfoldable pub value_in : ℕ → Order → Standing → ℕ → Value
value_in t o x f =
    valued (owner_of x.mark (suc (place (f - 1) o)))
    (later_field x.at (field_at (column_at t (f - 1)) x.rest (place (f - 1) o)))

-- record r (from 1) of a section
unfoldable pub record_of : Section → ℕ → Standing
record_of x r = record_at (r - 1) 0 x.place x.lines

unfoldable pub value_at : Section → ℕ → ℕ → Value
value_at x r f = value_in (table_index x.lines) (order_in x.lines) (record_of x r) f

unfoldable pub value_of : Bytes → ℕ → ℕ → ℕ → Result Value Refusal
value_of s i r f = answered (value_refusal s i r f) (value_at (section_at s i) r f)
