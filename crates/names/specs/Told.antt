-- What an `atr` line says of the order, as the code holds it.
use Rattle.std.specs.Prelude.{◌≡◌, true, false, List, map, ℕ, Result, Ok, Err}
use Rattle.page.specs.Bytes.{Bytes}
use Rattle.page.specs.Lines.{find}
use Rattle.page.specs.Tables.{Named, columns, width}
use Rattle.page.specs.Order.{order_of, arranged}
use Rattle.arrangement.specs.Orders.{held, Stands}

-- the column of table t that a field names; one past the last, if it names none
abbrev pub column_named : ℕ → Bytes → ℕ
column_named t = find 0 (map (λ (c : Named). c.name) (columns t))

-- the order a is the one that the fields fs name, if they arrange the columns of table t; and it is always some arrangement
pub record Told (t : ℕ) (fs : List Bytes) (a : List ℕ) : Type 0 where
  pub stands : Stands t a
  pub is : arranged (width t) (order_of t fs) ≡ true → held t a ≡ order_of t fs

-- and whether it is stated: the order is of an `Err`, exactly if they do not arrange the columns
abbrev pub Arranges : ℕ → List Bytes → Result (List ℕ) (List ℕ) → Type 0
Arranges t fs (Ok a) = (arranged (width t) (order_of t fs) ≡ true) × Told t fs a
Arranges t fs (Err a) = (arranged (width t) (order_of t fs) ≡ false) × Told t fs a
