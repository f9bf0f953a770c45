-- What one walk over a record's fields finds.
use Rattle.std.specs.Prelude.{◌≡◌, Bool, true, List, [], ℕ, ◌-◌, ◌<◌, length, get_or}
use Rattle.page.specs.Bytes.{Bytes}
use Rattle.page.specs.Tables.{width, column_at}
use Rattle.page.specs.Order.{Order, standing, by_column}
use Rattle.page.specs.Section.{first_wrong}
use Rattle.page.specs.declared.Field.{Field}
use Rattle.page.specs.declared.Field.TheVariants as F
use Rattle.rules.specs.Broken.{Kept, Columns}

-- the number that is kept of a field: a number's value, and how many bytes of a text stand between its quotes; 0 for a missing number
unfoldable pub judged_number : Field → ℕ
judged_number (F.Text sp) = sp.to - sp.from
judged_number (F.Number n) = n
judged_number F.Missing = 0
judged_number (F.Refused v) = 0

-- those of the fields that stand at the first k places of the array a, by column
abbrev pub Numbers : ℕ → List ℕ → List Bytes → ℕ → List ℕ → Type 0
Numbers t a fs k ns = (p : ℕ) → p < k → Kept (column_at t (get_or a p 0)) (get_or fs p []) (get_or ns (get_or a p 0) 0)

-- the first wrong field's number, whether the fields are known to be as many as the columns, and the numbers
pub record Judged (t : ℕ) (o : Order) (fs : List Bytes) (wrong : ℕ) (whole : Bool) (ns : List ℕ) : Type 0 where
  pub first : wrong ≡ first_wrong (standing t o) fs
  pub ends : whole ≡ true → length fs ≡ width t
  pub numbers : wrong ≡ 0 → length fs ≡ width t → Columns t (by_column o fs) ns
