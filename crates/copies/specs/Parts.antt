-- The marks and the fields of one changed record, column by column; i counts the columns from 1.
use Rattle.std.specs.Prelude.{◌≡◌, Bool, true, false, not, ◌&&◌, ◌||◌, List, [], ◌∷◌, ◌++◌, ℕ, suc, ◌+◌, ◌-◌, eqb, length, get_or, take, drop}
use Rattle.page.specs.Bytes.{Bytes, bytes, pick, trim}
use Rattle.page.specs.Fields.{field_size, fields}
use Rattle.page.specs.Tables.{Named}
use Rattle.page.specs.Marks.{owner_of}
use Rattle.page.specs.Records.{Datum, datum_of}
use Rattle.page.specs.Form.{separated, datum_text, mark_line}
use Rattle.page.specs.declared.LineEnd.{LineEnd}
use Rattle.page.specs.declared.Column.{Column}
use Rattle.copies.specs.Changed.{changed_datum}

-- is column i marked in what is written, where a mark of column m waits and column f is filled?
unfoldable pub marked_by : Bool → ℕ → ℕ → ℕ → Column → Bool
marked_by strip f m i c = eqb f i || (not strip && (eqb m i && c.text))

unfoldable pub mark_by : LineEnd → Bool → ℕ → ℕ → ℕ → Column → Bytes
mark_by ends strip f m i c = pick (marked_by strip f m i c) (mark_line ends i) []

unfoldable pub marks_form : LineEnd → Bool → ℕ → ℕ → ℕ → List Named → Bytes
marks_form ends strip f m i [] = []
marks_form ends strip f m i (c ∷ cs) = mark_by ends strip f m i c.column ++ marks_form ends strip f m (suc i) cs

-- the value of column i, whose field is w
unfoldable pub datum_by : Bool → ℕ → Bytes → ℕ → ℕ → Column → Bytes → Datum
datum_by strip f t m i c w = changed_datum (eqb f i) strip t (datum_of (owner_of m i) c w)

unfoldable pub fields_form : Bool → ℕ → Bytes → ℕ → ℕ → List Named → List Bytes → Bytes
fields_form strip f t m i [] ws = []
fields_form strip f t m i (c ∷ cs) [] = []
fields_form strip f t m i (c ∷ cs) (w ∷ ws) =
    (bytes "; " ++ datum_text (datum_by strip f t m i c.column w)) ++ fields_form strip f t m (suc i) cs ws

-- does a field that passed its column's rules stand as it is written? A text does that has no space before its closing quote, and a number
-- without a minus or a leading zero
unfoldable pub stands : Bytes → Bool
stands w =
    pick (eqb (get_or w 0 0) 45) false
    (pick (eqb (get_or w 0 0) 48) (eqb (length w) 1) (pick (eqb (get_or w 0 0) 34) (not (eqb (get_or w (length w - 2) 0) 32)) true))

unfoldable pub all_stand : List Bytes → Bool
all_stand [] = true
all_stand (w ∷ ws) = stands w && all_stand ws

-- one space, and a field that stands as it is written
pub record Spaced (g : Bytes) : Type 0 where
  pub is : g ≡ 32 ∷ trim g
  pub field : stands (trim g) ≡ true

-- the field at p, outside texts, ends at e and is such a field
pub record Ends (w : Bytes) (p e : ℕ) : Type 0 where
  pub size : e ≡ p + field_size false (drop p w)
  pub spaced : Spaced (take (e - p) (drop p w))

-- all that stands after a record's first `;` stands as it is written
pub record Whole (w : Bytes) : Type 0 where
  pub is : separated (fields w) ≡ 59 ∷ w
  pub each : all_stand (fields w) ≡ true
