-- Marks.
use Rattle.std.specs.Prelude.{Bool, not, ◌&&◌, ℕ, ◌-◌, eqb, leb, get_or, take, drop, None, Option, Some}
use Rattle.page.specs.Bytes.{Bytes, bytes, pick, same, trim}
use Rattle.page.specs.Fields.{text_of, digits, value}
use Rattle.page.specs.Tables.{no_column}
use Rattle.page.specs.Order.{Order, standing}
use Rattle.page.specs.declared.Owner.{Owner}
use Rattle.page.specs.declared.Owner.TheVariants as O
use Rattle.page.specs.declared.Remark.{Remark}
use Rattle.page.specs.declared.Remark.TheVariants as R

-- "After that word and its one space come the field number, without leading zeros, and nothing more."
unfoldable pub mark_number : Bytes → Remark
mark_number w = pick (digits w && not (eqb (get_or w 0 0) 48)) (R.Mark (value 0 w)) R.Unreadable

-- "A `com` line whose trimmed rest is one closed text beginning `SUGGESTED ` is a mark; any other is an ordinary comment."
unfoldable pub mark_text : Bytes → Remark
mark_text t = pick (same (take 10 t) (bytes "SUGGESTED ")) (mark_number (drop 10 t)) R.Comment

abbrev pub mark_in : Option Bytes → Remark
mark_in None = R.Comment
mark_in (Some t) = mark_text t

-- w is what stands after the first `;`
unfoldable pub remark_of : Bytes → Remark
remark_of w = mark_in (text_of (trim w))

-- "Only these may be marked": field i, from 1, of a section of table t
unfoldable pub may_mark : ℕ → Order → ℕ → Bool
may_mark t o i = leb 1 i && (get_or (standing t o) (i - 1) no_column).column.fillable

-- whose the text of field i is, where a mark of field m waits (0: none)
unfoldable pub owner_of : ℕ → ℕ → Owner
owner_of m i = pick (eqb m i) O.Suggestion O.Operator
