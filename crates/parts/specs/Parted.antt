-- Where the fields of a record stand that are copied.
use Rattle.std.specs.Prelude.{◌≡◌, List, ℕ, ◌<◌, get_or}
use Rattle.page.specs.Bytes.{Bytes}
use Rattle.page.specs.Tables.{width}
use Rattle.page.specs.Order.{Order, place}
use Rattle.page.specs.Places.{field_place}
use Rattle.page.specs.declared.Span.{Span}
use Rattle.copies.specs.Parts.{Ends}

-- the field at place p of w begins at a, ends at e, and stands as it is written
pub record Part (w : Bytes) (p a e : ℕ) : Type 0 where
  pub begins : a ≡ field_place p 0 w
  pub ends : Ends w a e

-- the part of column c, of the parts by column
abbrev pub part_at : List Span → ℕ → Span
part_at parts c = get_or parts c (record { from = 0; to = 0 })

-- those of all columns of table t, by column
abbrev pub Parted : ℕ → Order → Bytes → List Span → Type 0
Parted t o w parts = (c : ℕ) → c < width t → Part w (place c o) (part_at parts c).from (part_at parts c).to
