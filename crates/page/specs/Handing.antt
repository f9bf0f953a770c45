-- What a call hands out into lent room: a text's own bytes with its owner, and all values of one table as numbers.
use Rattle.std.specs.Prelude.{not, List, [], ◌∷◌, ◌++◌, ℕ, zero, suc, ◌+◌, ◌-◌, eqb, ltb, length, get_or, drop, Result}
use Rattle.page.specs.Bytes.{Bytes, pick}
use Rattle.page.specs.Lines.{content, command, Rec}
use Rattle.page.specs.Fields.{fields}
use Rattle.page.specs.Tables.{column_at, width}
use Rattle.page.specs.Order.{Order, place}
use Rattle.page.specs.Marks.{owner_of}
use Rattle.page.specs.Cut.{Section}
use Rattle.page.specs.Section.{record_text}
use Rattle.page.specs.Records.{own_bytes, waits, table_index, order_in}
use Rattle.page.specs.Places.{Standing, stands}
use Rattle.page.specs.Answers.{earlier, refuse_if, answered}
use Rattle.page.specs.Reading.{section_at, row_at, find_refusal, verdict_of, value_refusal, record_of, value_in}
use Rattle.page.specs.Writing.{put_refusal, put_after}
use Rattle.page.specs.declared.Owner.TheVariants as O
use Rattle.page.specs.declared.Owner.{Owner}
use Rattle.page.specs.declared.Value.{Value}
use Rattle.page.specs.declared.Value.TheVariants as Va
use Rattle.page.specs.declared.Refusal.{Refusal}
use Rattle.page.specs.declared.Copied.{Copied}

-- a text's own bytes, doubled quotes undone: refused as reading its value is, then 11 if it is a number, then 21
unfoldable pub text_refusal : Bytes → ℕ → ℕ → ℕ → Refusal
text_refusal s i r f =
    earlier (value_refusal s i r f) (refuse_if (not (column_at (table_index (section_at s i).lines) (f - 1)).text) 11)

-- where column f (from 1) of a section stands, from 0
unfoldable pub place_of : Bytes → ℕ → ℕ → ℕ
place_of s i f = place (f - 1) (order_in (section_at s i).lines)

unfoldable pub own_text : Bytes → ℕ → ℕ → ℕ → Bytes
own_text s i r f = own_bytes (record_text (get_or (fields (record_of (section_at s i) r).rest) (place_of s i f) []))

-- "Each text handed out says whose it is": its owner is the one that its value has
unfoldable pub text_owner : Bytes → ℕ → ℕ → ℕ → Owner
text_owner s i r f = owner_of (record_of (section_at s i) r).mark (suc (place_of s i f))

abbrev pub copied : Bytes → Owner → Copied
copied t o = record { length = length t; owner = o }

unfoldable pub text_out : Bytes → ℕ → ℕ → ℕ → ℕ → Result Copied Refusal
text_out s i r f room =
    answered (put_refusal (text_refusal s i r f) (own_text s i r f) room) (copied (own_text s i r f) (text_owner s i r f))

unfoldable pub text_after : Bytes → ℕ → ℕ → ℕ → Bytes → Bytes
text_after s i r f out = put_after (text_refusal s i r f) (own_text s i r f) out

-- a value as three numbers: 0, the number, 0; 3, 0, 0 for a missing number; or 1 for the operator's text and 2 for a suggestion, and its span
abbrev pub owner_cell : Owner → ℕ
owner_cell O.Operator = 1
owner_cell O.Suggestion = 2

unfoldable pub cell_of : Value → List ℕ
cell_of (Va.Number n) = 0 ∷ n ∷ 0 ∷ []
cell_of Va.Missing = 3 ∷ 0 ∷ 0 ∷ []
cell_of (Va.Words x) = owner_cell x.owner ∷ x.from ∷ x.to ∷ []

-- the values of n columns of a record, the first counted as f
unfoldable pub record_cells : ℕ → Order → Standing → ℕ → ℕ → List ℕ
record_cells t o x f zero = []
record_cells t o x f (suc n) = cell_of (value_in t o x f) ++ record_cells t o x (suc f) n

-- all records of a section's lines, which begin at a place, where a mark of field m waits
unfoldable pub cells_in : ℕ → Order → ℕ → ℕ → List Bytes → List ℕ
cells_in t o m at [] = []
cells_in t o m at (l ∷ ls) =
    pick (eqb (command (content l)) Rec) (record_cells t o (stands at l m) 1 (width t) ++ cells_in t o 0 (at + length l) ls)
    (cells_in t o (waits m (content l)) (at + length l) ls)

unfoldable pub cells_of : Section → List ℕ
cells_of x = cells_in (table_index x.lines) (order_in x.lines) 0 x.place x.lines

-- "the first of 1, 2, 24 for the section, the section's verdict", then 21 for too little room
unfoldable pub table_refusal : Bytes → ℕ → Refusal
table_refusal s i = earlier (find_refusal s i) (verdict_of i (row_at s i))

unfoldable pub cells_refusal : Bytes → ℕ → ℕ → Refusal
cells_refusal s i room = earlier (table_refusal s i) (refuse_if (ltb room (length (cells_of (section_at s i)))) 21)

unfoldable pub table_of : Bytes → ℕ → ℕ → Result ℕ Refusal
table_of s i room = answered (cells_refusal s i room) (length (cells_of (section_at s i)))

unfoldable pub cells_after : Bytes → ℕ → List ℕ → List ℕ
cells_after s i cells =
    pick (eqb (cells_refusal s i (length cells)).number 0)
    (cells_of (section_at s i) ++ drop (length (cells_of (section_at s i))) cells) cells
