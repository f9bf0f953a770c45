-- What the values that are handed out stand for.
use Rattle.std.specs.Prelude.{◌≡◌, List, [], ◌++◌, ℕ, zero, suc, ◌-◌, length, take, drop}
use Rattle.page.specs.Bytes.{Bytes}
use Rattle.page.specs.Tables.{width}
use Rattle.page.specs.Cut.{Section}
use Rattle.page.specs.Records.{Datum, number, missing, words, table_index}
use Rattle.page.specs.Form.{doubled}
use Rattle.page.specs.Reading.{value_at}
use Rattle.page.specs.Handing.{cell_of}
use Rattle.page.specs.declared.Text.{Text}
use Rattle.page.specs.declared.Value.{Value}
use Rattle.page.specs.declared.Value.TheVariants as Va

-- a value handed out of the bytes s, and the file's value: the number itself, or that it is missing; of a text its owner, and the bytes of
-- its span, in which "a doubled quote inside stands for one"
pub data StandsFor (s : Bytes) : Value → Datum → Type 0 where
  a_number : {n : ℕ} → StandsFor s (Va.Number n) (number n)
  no_number : StandsFor s Va.Missing missing
  a_text : {x : Text} {u : Bytes} → take (x.to - x.from) (drop x.from s) ≡ doubled u → StandsFor s (Va.Words x) (words x.owner u)

-- the values of n columns of record r, from column f, as cells; and those of n records, from record r
unfoldable pub row_cells : Section → ℕ → ℕ → ℕ → List ℕ
row_cells x r f zero = []
row_cells x r f (suc n) = cell_of (value_at x r f) ++ row_cells x r (suc f) n

unfoldable pub table_cells : Section → ℕ → ℕ → List ℕ
table_cells x r zero = []
table_cells x r (suc n) = row_cells x r 1 (width (table_index x.lines)) ++ table_cells x (suc r) n

-- at this place in the cells stand the three numbers of value v
pub record CellAt (cells : List ℕ) (place : ℕ) (v : Value) : Type 0 where
  pub before : List ℕ
  pub after : List ℕ
  pub split : cells ≡ before ++ (cell_of v ++ after)
  pub placed : length before ≡ place
