-- 18, 19 and 20 of one section, by its first line at fault.
use Rattle.std.specs.Prelude.{◌≡◌, Bool, true, false, not, List, [], ℕ, ◌-◌, ◌<◌, Result, Ok, Err, eqb, length, get_or, take, drop}
use Rattle.page.specs.Bytes.{Bytes, pick}
use Rattle.page.specs.Lines.{lines, content, rest}
use Rattle.page.specs.Fields.{fields}
use Rattle.page.specs.Tables.{table_at, columns}
use Rattle.page.specs.Order.{Order, by_column}
use Rattle.page.specs.Records.{values_of}
use Rattle.page.specs.File.{any, by_primary, lost, first_record, filed_of}
use Rattle.page.specs.declared.Refusal.{Refusal}
use Rattle.choices.specs.declared.Choice.{Choice}
use Rattle.tables.specs.Keys.{by_key, reference_at, target_at}
use Rattle.choices.specs.Choices.{key_choice}
use Rattle.keys.specs.Numbers.{refer_numbers}
use Rattle.scans.specs.Scan.{is_record, bears, again, first_line, some}
use Rattle.seats.specs.Seating.{seat_at, seat_lines, seat_order}
use Rattle.seats.specs.declared.seating.Seat.{Seat}
use Rattle.seats.specs.declared.seating.Seats.{Seats}

-- 18, 19
unfoldable pub repeat_number : Bool → ℕ
repeat_number true = 19
repeat_number false = 18

-- the fields of the primary key of the section at a seat, or of its second one
unfoldable pub seat_key : Bytes → Bool → Seat → Choice
seat_key s second a = key_choice (by_key second) a.table (seat_order s a)

-- a table without the key has nothing to repeat
unfoldable pub scan_end : Seat → Choice → ℕ
scan_end a q = pick (eqb q.kinds 0) a.from a.to

-- the first line whose key stands before it
unfoldable pub repeat_line : Bytes → Seat → Choice → ℕ
repeat_line s a q = first_line (again q) [] 0 (lines (take (scan_end a q - a.from) (drop a.from s)))

-- where the target of reference k of table t stands, if it has a section
abbrev pub target_seat : Seats → ℕ → ℕ → Seat
target_seat r t k = seat_at r (get_or r.place (target_at t k) 0 - 1)

-- 20: a record of table t, with the fields fs as its columns stand in o, finds the record that its reference k names
unfoldable pub reaches : Bytes → Seats → ℕ → Order → List Bytes → ℕ → Bool
reaches s r t o fs k =
    pick (eqb (get_or r.place (target_at t k) 0) 0) false
    (any (bears (key_choice by_primary (target_at t k) (seat_order s (target_seat r t k))) (refer_numbers (reference_at t k).columns (values_of 0 1 (columns t) (by_column o fs))))
    (seat_lines s (target_seat r t k)))

unfoldable pub misses : Bytes → Seats → ℕ → Order → List Bytes → ℕ → Bool
misses s r t o fs k = not (reaches s r t o fs k)

unfoldable pub loses : Bytes → Seats → ℕ → Order → Bytes → Bool
loses s r t o l = pick (is_record l) (some (misses s r t o (fields (rest (content l)))) 0 (length (table_at t).references)) false

abbrev pub loses_any : Bytes → Seats → ℕ → Order → List Bytes → Bytes → Bool
loses_any s r t o before l = loses s r t o l

unfoldable pub lost_line : Bytes → Seats → Seat → ℕ
lost_line s r a = first_line (loses_any s r a.table (seat_order s a)) [] 0 (seat_lines s a)

-- what is found among the first n sections: nothing, or the file's answer
abbrev pub Looked : Bytes → Seats → ℕ → Result (Unit {0}) Refusal → Type 0
Looked s seats n (Ok x) = (m : ℕ) → m < n → lost_line s seats (seat_at seats m) ≡ 0
Looked s seats n (Err e) = (e ≡ first_record 20 (λ before. lost (filed_of s)) [] (filed_of s)) × (e.number ≡ 20)
