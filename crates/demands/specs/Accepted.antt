-- What is handed out of an accepted file: its header, and each value that it says.
use Rattle.std.specs.Prelude.{◌≡◌, [], ℕ, ◌-◌, length, get_or, Ok}
use Rattle.page.specs.Bytes.{Bytes}
use Rattle.page.specs.Tables.{width}
use Rattle.page.specs.Head.{Head}
use Rattle.page.specs.Records.{Datum}
use Rattle.page.specs.Model.{Content, Model}
use Rattle.page.specs.Reading.{header_of, value_of}
use Rattle.page.specs.declared.Header.{Header}
use Rattle.page.specs.declared.Value.{Value}
use Rattle.calls.specs.Turns.{Within}
use Rattle.calls.specs.Handed.{StandsFor}
use Rattle.calls.specs.HandedHeader.{HeaderStandsFor}

-- what stands past the last table
abbrev pub no_table : Content
no_table = record { table = 0; records = [] }

-- table i has a record r, and its table a column f, all from 1
pub record SaysValue (m : Model) (i r f : ℕ) : Type 0 where
  pub table_there : Within i (length m.tables)
  pub record_there : Within r (length (get_or m.tables (i - 1) no_table).records)
  pub column_there : Within f (width (get_or m.tables (i - 1) no_table).table)

-- `header` is not refused, and what it hands out stands for h
pub record HandsHeader (s : Bytes) (h : Head) : Type 0 where
  pub header : Header
  pub handed : header_of s ≡ Ok header
  pub stands : HeaderStandsFor s header h

-- `value` is not refused there, and what it hands out stands for d
pub record HandsValue (s : Bytes) (i r f : ℕ) (d : Datum) : Type 0 where
  pub value : Value
  pub handed : value_of s i r f ≡ Ok value
  pub stands : StandsFor s value d
