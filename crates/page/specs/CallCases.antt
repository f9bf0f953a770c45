-- What each call answers and leaves in what is lent to it, and what a record and a mark are judged as: inputs for the computed lists beside `Case`.
use Rattle.std.specs.Prelude.{Bool, true, List, ℕ, length, Result}
use Rattle.page.specs.declared.Refusal.{Refusal}
use Rattle.page.specs.declared.Header.{Header}
use Rattle.page.specs.declared.Copied.{Copied}
use Prim.Native.String.{String}
use Rattle.page.specs.Bytes.{Bytes, bytes}
use Rattle.page.specs.Lines.{lines}
use Rattle.page.specs.Fields.{fields}
use Rattle.page.specs.Tables.{table_named}
use Rattle.page.specs.Order.{listed_order}
use Rattle.page.specs.Marks.{may_mark}
use Rattle.page.specs.Section.{rec_verdict}
use Rattle.page.specs.Records.{Entry, entries_of}
use Rattle.page.specs.Reading.{header_of, section_of, list_of, rows_after}
use Rattle.page.specs.Writing.{write_of, write_after, strip_of, strip_after, fill_of, fill_after}
use Rattle.page.specs.Listing.{listing}
use Rattle.page.specs.Handing.{text_refusal, place_of, own_text, text_owner, text_out, text_after, cell_of, record_cells, cells_in, cells_of, table_refusal, cells_refusal, table_of, cells_after}
use Rattle.page.specs.Answers.{answered}
use Rattle.page.specs.Open.{open_all}
use Rattle.page.specs.declared.Row.{Row}

pub data Call : Type 0 where
  -- the fields of a record of the named table, and a field to mark, in its own order; the records of a section under ISO8859-1
  record_case : String → String → Call
  mark_case : String → ℕ → Call
  entries_case : Bytes → Call
  -- a header's values, what `lister` prints, a section's row
  headed_case lister_case : Bytes → Call
  row_case : Bytes → (i : ℕ) → Call
  -- with the rows, numbers or bytes that are lent: all rows, a table's values, a text, the written form, the stripped one, a fill
  list_case : Bytes → List Row → Call
  table_case : Bytes → (i : ℕ) → List ℕ → Call
  text_case : Bytes → (i r f : ℕ) → Bytes → Call
  write_case strip_case : Bytes → Bytes → Call
  filled_case : Bytes → (i r f : ℕ) → Bytes → Bytes → Call

pub data Reply : Type 0 where
  a_verdict : ℕ → Reply
  a_mark : Bool → Reply
  a_entries : List Entry → Reply
  a_headed : Result Header Refusal → Reply
  a_listing : Bytes → Reply
  a_row : Result Row Refusal → Reply
  -- the answer, and what was lent afterwards
  a_list : Result (Unit {0}) Refusal → List Row → Reply
  a_table : Result ℕ Refusal → List ℕ → Reply
  a_handed : Result Copied Refusal → Bytes → Reply
  a_written : Result ℕ Refusal → Bytes → Reply

abbrev pub markable : ℕ → ℕ → Bool
markable t i = may_mark t (listed_order t) i

abbrev pub verdict_in : ℕ → Bytes → ℕ
verdict_in t w = rec_verdict t (listed_order t) 0 (fields w)

unfoldable pub reply : Call → Reply
reply (record_case name w) = a_verdict (verdict_in (table_named (bytes name)) (bytes w))
reply (mark_case name i) = a_mark (markable (table_named (bytes name)) i)
reply (entries_case s) = a_entries (entries_of true (lines s))
reply (headed_case s) = a_headed (header_of s)
reply (lister_case s) = a_listing (listing s)
reply (row_case s i) = a_row (section_of s i)
reply (list_case s rows) = a_list (list_of s (length rows)) (rows_after s rows)
reply (table_case s i cells) = a_table (table_of s i (length cells)) (cells_after s i cells)
reply (text_case s i r f out) = a_handed (text_out s i r f (length out)) (text_after s i r f out)
reply (write_case s out) = a_written (write_of s (length out)) (write_after s out)
reply (strip_case s out) = a_written (strip_of s (length out)) (strip_after s out)
reply (filled_case s i r f t out) = a_written (fill_of s i r f t (length out)) (fill_after s i r f t out)

pub record Exchange : Type 0 where
  pub input : Call
  pub output : Reply

abbrev pub ◌replies◌ : Call → Reply → Exchange
◌replies◌ i o = record { input = i; output = o }

infix 5 ◌replies◌
-- the definitions that these cases open, beside those of `open_all`
unfoldable pub open_calls : Unit {0}
unfolding open_all reply answered text_refusal place_of own_text text_owner text_out text_after cell_of record_cells cells_in cells_of table_refusal cells_refusal table_of cells_after
open_calls = tt
