-- Demand 3: replacing whole lines after the first table line changes no table outside the run. The two files, their tables by the bytes where they
-- stand, and what answers are the same but for the place.
use Rattle.std.specs.Prelude.{◌≡◌, Bool, List, [], ◌++◌, ℕ, ◌+◌, ◌-◌, ◌*◌, ◌<◌, ◌≤◌, length, get_or, take, drop, Err, Ok, Result}
use Rattle.page.specs.Bytes.{Bytes}
use Rattle.page.specs.Lines.{lines}
use Rattle.page.specs.Tables.{number_at, width}
use Rattle.page.specs.Cut.{cut, sections}
use Rattle.page.specs.Records.{Datum, number, Record}
use Rattle.page.specs.Grammar.{Denotes}
use Rattle.page.specs.Answers.{refusal}
use Rattle.page.specs.File.{too_long}
use Rattle.page.specs.Reading.{row_at, section_of}
use Rattle.page.specs.Handing.{cell_of}
use Rattle.page.specs.declared.Row.{Row}
use Rattle.page.specs.declared.Text.{Text}
use Rattle.page.specs.declared.Value.{Value}
use Rattle.page.specs.declared.Value.TheVariants as Va
use Rattle.page.specs.declared.Refusal.{Refusal}
use Rattle.page.specs.declared.Copied.{Copied}
use Rattle.page.proofs.LineLaws.{Whole}
use Rattle.round.specs.Local.{Run}
use Rattle.calls.specs.Turns.{Within}
use Rattle.calls.specs.Handed.{StandsFor, CellAt}

-- a file: a, then the run m, then b
abbrev pub file : Bytes → Bytes → Bytes → Bytes
file a m b = a ++ (m ++ b)

-- n in place of m, after the first table line: a's lines have the first `tbl` line, or an `eof` line, with which the header is over as well. Both
-- files are within the limit, or neither is.
pub record Replaced (a m n b : Bytes) : Type 0 where
  pub whole : Whole a
  pub begun : 0 < length (cut (lines a)).pieces
  pub old : Run m b
  pub new : Run n b
  pub limit : too_long (file a m b) ≡ too_long (file a n b)

-- section i, from 1, of the file s, in which the run stands between a and the rest

-- before the run: the section ends before a does, so that the `tbl` or `eof` line that closes it stands in a
pub record Before (a s : Bytes) (i : ℕ) : Type 0 where
  pub there : Within i (length (sections s))
  pub ends : (row_at s i).place + (row_at s i).length < length a

-- after it: the section begins where a and the run m are over
pub record After (a m s : Bytes) (i : ℕ) : Type 0 where
  pub there : Within i (length (sections s))
  pub begins : length a + length m ≤ (row_at s i).place

-- what lies between
pub record Between (a m s : Bytes) (i : ℕ) : Type 0 where
  pub there : Within i (length (sections s))
  pub ends : length a ≤ (row_at s i).place + (row_at s i).length
  pub begins : (row_at s i).place < length a + length m

-- where x stands in a file after a run of k bytes, y stands in one with l bytes in their stead: as much further on as the run is longer
abbrev pub Shifted : ℕ → ℕ → ℕ → ℕ → Type 0
Shifted k l x y = x + l ≡ y + k

-- section i of the one file and section j of the other are one section after the run, by where they begin
pub record Moved (a m n b : Bytes) (i j : ℕ) : Type 0 where
  pub one : After a m (file a m b) i
  pub other : After a n (file a n b) j
  pub place : Shifted (length m) (length n) (row_at (file a m b) i).place (row_at (file a n b) j).place

-- rows, values and cells that are the same but for the place
pub record SameRow (k l : ℕ) (r q : Row) : Type 0 where
  pub place : Shifted k l r.place q.place
  pub table : r.table ≡ q.table
  pub length : r.length ≡ q.length
  pub records : r.records ≡ q.records
  pub verdict : r.verdict ≡ q.verdict
  pub line : r.line ≡ q.line

pub data SameValue (k l : ℕ) : Value → Value → Type 0 where
  same_number : {n : ℕ} → SameValue k l (Va.Number n) (Va.Number n)
  same_missing : SameValue k l Va.Missing Va.Missing
  same_words : {x y : Text} → Shifted k l x.from y.from → Shifted k l x.to y.to → x.owner ≡ y.owner → SameValue k l (Va.Words x) (Va.Words y)

pub data SameCells (k l : ℕ) : List ℕ → List ℕ → Type 0 where
  no_cells : SameCells k l [] []
  more_cells : {v w : Value} {xs ys : List ℕ} → SameValue k l v w → SameCells k l xs ys → SameCells k l (cell_of v ++ xs) (cell_of w ++ ys)

-- refusals of section i and of section j: one number and one line; the header's has no section, nor have 1, 11, 21 and 24
pub data SameRefusal (i j : ℕ) : Refusal → Refusal → Type 0 where
  of_none : {v n : ℕ} → SameRefusal i j (refusal v 0 n) (refusal v 0 n)
  of_section : {v n : ℕ} → SameRefusal i j (refusal v i n) (refusal v j n)

-- the answers of `section`, `value` and `text`
pub data SameListed (k l i j : ℕ) : Result Row Refusal → Result Row Refusal → Type 0 where
  a_row : {r q : Row} → SameRow k l r q → SameListed k l i j (Ok r) (Ok q)
  no_row : {x y : Refusal} → SameRefusal i j x y → SameListed k l i j (Err x) (Err y)

pub data SameGot (k l i j : ℕ) : Result Value Refusal → Result Value Refusal → Type 0 where
  a_value : {v w : Value} → SameValue k l v w → SameGot k l i j (Ok v) (Ok w)
  no_value : {x y : Refusal} → SameRefusal i j x y → SameGot k l i j (Err x) (Err y)

pub data SameHanded (i j : ℕ) : Result Copied Refusal → Result Copied Refusal → Type 0 where
  a_text : {x : Copied} → SameHanded i j (Ok x) (Ok x)
  no_text : {x y : Refusal} → SameRefusal i j x y → SameHanded i j (Err x) (Err y)

-- the answers of `table`, each with what the lent cells then hold
pub data SameTable (k l i j : ℕ) (lent : List ℕ) : Result ℕ Refusal → List ℕ → Result ℕ Refusal → List ℕ → Type 0 where
  a_table : {c : ℕ} {xs ys : List ℕ} → length xs ≡ c → length ys ≡ c → SameCells k l xs ys →
      SameTable k l i j lent (Ok c) (xs ++ drop c lent) (Ok c) (ys ++ drop c lent)
  no_table : {x y : Refusal} → SameRefusal i j x y → SameTable k l i j lent (Err x) lent (Err y) lent

-- of what lies between, a table is handed out only if its own bytes meet the rules: section i is listed, and the bytes that its row names denote table
-- t with the records rs
pub record OwnTable (latin : Bool) (s : Bytes) (i t : ℕ) (rs : List Record) : Type 0 where
  pub row : Row
  pub listed : section_of s i ≡ Ok row
  pub denotes : Denotes latin (lines (take row.length (drop row.place s))) t rs
  pub table : row.table ≡ number_at t
  pub records : row.records ≡ length rs

-- column f of record r, both from 1
abbrev pub datum_in : List Record → ℕ → ℕ → Datum
datum_in rs r f = get_or (get_or rs (r - 1) []) (f - 1) (number 0)

-- record r and column f of section i as its own bytes denote them: the value d
pub record OwnDatum (latin : Bool) (s : Bytes) (i r f : ℕ) (d : Datum) : Type 0 where
  pub table : ℕ
  pub records : List Record
  pub own : OwnTable latin s i table records
  pub record_there : Within r (length records)
  pub field_there : Within f (width table)
  pub datum : datum_in records r f ≡ d

-- cells that hold the records rs of table t first: three for each value
pub record HoldsTable (s : Bytes) (t : ℕ) (rs : List Record) (cells : List ℕ) : Type 0 where
  pub value : ℕ → ℕ → Value
  pub says : (r f : ℕ) → Within r (length rs) → Within f (width t) → StandsFor s (value r f) (datum_in rs r f)
  pub stands : (r f : ℕ) → Within r (length rs) → Within f (width t) → CellAt cells ((r - 1) * (width t * 3) + (f - 1) * 3) (value r f)
