-- Where each table of a file stands.
use Rattle.std.specs.Prelude.{◌≡◌, List, [], ℕ, suc, ◌-◌, ◌<◌, ◌≤◌, Result, Ok, Err, length, get_or, take, drop}
use Rattle.page.specs.Bytes.{Bytes}
use Rattle.page.specs.Lines.{lines}
use Rattle.page.specs.Fields.{fields}
use Rattle.page.specs.Tables.{TABLES}
use Rattle.page.specs.Order.{Order}
use Rattle.page.specs.Cut.{Section, sections}
use Rattle.page.specs.Records.{table_index, atr_in, order_in}
use Rattle.page.specs.Answers.{sound}
use Rattle.page.specs.File.{rows_of, first_unsound, first_again}
use Rattle.page.specs.declared.Refusal.{Refusal}
use Rattle.arrangement.specs.Orders.{held, Stands}
use Rattle.names.specs.Told.{Told}
use Rattle.page.proofs.CutLaws.{no_section}
use Rattle.seats.specs.declared.seating.Seat.{Seat}
use Rattle.seats.specs.declared.seating.Seats.{Seats}

abbrev pub no_seat : Seat
no_seat = record { table = 0; from = 0; to = 0; order = [] }

unfoldable pub seat_at : Seats → ℕ → Seat
seat_at r i = get_or r.seats i no_seat

-- the lines at a seat, and which column stands where in them
abbrev pub seat_lines : Bytes → Seat → List Bytes
seat_lines s a = lines (take (a.to - a.from) (drop a.from s))

unfoldable pub seat_order : Bytes → Seat → Order
seat_order s a = order_in (seat_lines s a)

-- a section stands at a seat
pub record Sits (s : Bytes) (x : Section) (a : Seat) : Type 0 where
  pub low : a.from ≤ a.to
  pub high : a.to ≤ length s
  pub lines : x.lines ≡ seat_lines s a
  pub table : a.table ≡ table_index x.lines
  pub known : a.table < TABLES

-- each of the first n sections stands at its seat, and at the place of its table
pub record Seated (s : Bytes) (n : ℕ) (seats : List Seat) (place : List ℕ) : Type 0 where
  pub sits : (i : ℕ) → i < n → Sits s (get_or (sections s) i no_section) (get_or seats i no_seat)
  pub placed : (i : ℕ) → i < n → get_or place (get_or seats i no_seat).table 0 ≡ suc i
  pub taken : (t k : ℕ) → get_or place t 0 ≡ suc k → (k < n) × ((get_or seats k no_seat).table ≡ t)

-- the columns of each of the first n sections stand as its `atr` line states
pub record Stating (s : Bytes) (n : ℕ) (seats : List Seat) : Type 0 where
  pub each : (i : ℕ) → i < n → Told (get_or seats i no_seat).table (fields (atr_in (seat_lines s (get_or seats i no_seat)))) (get_or seats i no_seat).order

-- a file of sound sections with each table at most once
pub record Ready (s : Bytes) (r : Seats) : Type 0 where
  pub sound : first_unsound 1 (rows_of s) ≡ sound
  pub count : r.count ≡ length (sections s)
  pub few : r.count ≤ TABLES
  pub seated : Seated s r.count r.seats r.place
  pub stating : Stating s r.count r.seats

-- an array holds the order of the columns at a seat
pub record Ordered (s : Bytes) (a : Seat) (o : List ℕ) : Type 0 where
  pub stands : Stands a.table o
  pub is : held a.table o ≡ seat_order s a

-- 17: "the second table's line 1"; or where each table stands
abbrev pub Seating : Bytes → Result Seats Refusal → Type 0
Seating s (Ok r) = (first_again [] 1 (rows_of s) ≡ sound) × Ready s r
Seating s (Err e) = (first_again [] 1 (rows_of s) ≡ e) × (e.number ≡ 0 → ⊥)
