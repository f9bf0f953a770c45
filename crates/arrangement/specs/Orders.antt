-- The order of a table's columns as the code holds it: as many places as the widest table has columns, of which the table's own count.
use Rattle.std.specs.Prelude.{◌≡◌, true, List, ℕ, ◌<◌, length, get_or, take}
use Rattle.page.specs.Tables.{WIDEST, width}
use Rattle.page.specs.Order.{Order, arranged}

abbrev pub held : ℕ → List ℕ → Order
held t a = take (width t) a

-- no place names a column past the widest table's
pub record Orderly (a : List ℕ) : Type 0 where
  pub long : length a ≡ WIDEST
  pub small : (p : ℕ) → get_or a p 0 < WIDEST

pub record Stands (t : ℕ) (a : List ℕ) : Type 0 where
  pub orderly : Orderly a
  pub arranged : arranged (width t) (held t a) ≡ true
