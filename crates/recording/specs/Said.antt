-- What a section's lines say, with no question whether they are sound.
use Rattle.std.specs.Prelude.{◌≡◌, Bool, true, ◌&&◌, List, [], ◌∷◌, ℕ, eqb}
use Rattle.page.specs.Bytes.{Bytes, pick}
use Rattle.page.specs.Lines.{content, command, rest, Rec}
use Rattle.page.specs.Fields.{fields}
use Rattle.page.specs.Cut.{Section, sections}
use Rattle.page.specs.Tables.{width}
use Rattle.page.specs.Order.{Order, arranged}
use Rattle.page.specs.Section.{rec_verdict}
use Rattle.page.specs.Records.{Record, waits, record_in, table_index, order_in}
use Rattle.page.specs.Model.{Content}
use Rattle.page.specs.Rules.{Every}

-- the records of these lines, in the order o, where a mark of field m waits
unfoldable pub rows_of : ℕ → Order → ℕ → List Bytes → List Record
rows_of t o m [] = []
rows_of t o m (l ∷ ls) =
    pick (eqb (command (content l)) Rec) (record_in t o m (content l) ∷ rows_of t o 0 ls) (rows_of t o (waits m (content l)) ls)

-- does each of them pass its rules?
unfoldable pub passes : ℕ → Order → ℕ → List Bytes → Bool
passes t o m [] = true
passes t o m (l ∷ ls) =
    pick (eqb (command (content l)) Rec) (eqb (rec_verdict t o m (fields (rest (content l)))) 0 && passes t o 0 ls)
    (passes t o (waits m (content l)) ls)

unfoldable pub said : List Bytes → Content
said ls = record { table = table_index ls; records = rows_of (table_index ls) (order_in ls) 0 ls }

unfoldable pub said_in : Section → Content
said_in x = said x.lines

-- each column of a section's table stands once, and each of its records passes
unfoldable pub passing : List Bytes → Bool
passing ls = arranged (width (table_index ls)) (order_in ls) && passes (table_index ls) (order_in ls) 0 ls

unfoldable pub passes_in : Section → Bool
passes_in x = passing x.lines

-- every section passes
abbrev pub PassingIn : List Section → Type 0
PassingIn xs = Every (λ (x : Section). passes_in x ≡ true) xs

abbrev pub Passing : Bytes → Type 0
Passing s = PassingIn (sections s)
