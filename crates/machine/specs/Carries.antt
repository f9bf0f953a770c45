-- What a section's reading carries from line to line: the records that it has counted, and which column stands where.
use Rattle.std.specs.Prelude.{◌≡◌, Bool, List, [], ℕ}
use Rattle.page.specs.Bytes.{Bytes}
use Rattle.page.specs.Fields.{fields}
use Rattle.page.specs.Tables.{width}
use Rattle.page.specs.Order.{Order, order_of, arranged}
use Rattle.page.specs.Section.{order_after}
use Rattle.page.specs.declared.Phase.{Phase}
use Rattle.page.specs.declared.Phase.TheVariants as P
use Rattle.arrangement.specs.Orders.{held, Stands}

unfoldable pub records_in : Phase → ℕ
records_in P.Tbl = 0
records_in (P.Atr t) = 0
records_in (P.Frm t) = 0
records_in (P.Rows t m n) = n
records_in (P.Ended t n) = n

-- the order that the array a holds: none, before the `atr` line has stated it
unfoldable pub order_at : Phase → List ℕ → Order
order_at P.Tbl a = []
order_at (P.Atr t) a = []
order_at (P.Frm t) a = held t a
order_at (P.Rows t m n) a = held t a
order_at (P.Ended t n) a = held t a

-- once it is stated, it is an arrangement of the table's columns
unfoldable pub Carries : Phase → List ℕ → Type 0
Carries P.Tbl a = Unit
Carries (P.Atr t) a = Unit
Carries (P.Frm t) a = Stands t a
Carries (P.Rows t m n) a = Stands t a
Carries (P.Ended t n) a = Stands t a

-- where the `atr` line is due: b says whether w, which stands after the line's first `;`, names an arrangement of the columns
unfoldable pub Found : Phase → Bytes → Bool → Type 0
Found P.Tbl w b = Unit
Found (P.Atr t) w b = b ≡ arranged (width t) (order_of t (fields w))
Found (P.Frm t) w b = Unit
Found (P.Rows t m n) w b = Unit
Found (P.Ended t n) w b = Unit

-- after a line of content c that led from p to q, the array a holds what the order is then
pub record Carried (p q : Phase) (o : Order) (c : Bytes) (a : List ℕ) : Type 0 where
  pub is : order_after p o c ≡ order_at q a
  pub carries : Carries q a
