-- The numbers that are kept of a record's fields, and the rule that they break.
use Rattle.std.specs.Prelude.{◌≡◌, Bool, true, false, not, ◌&&◌, List, [], ◌∷◌, ℕ, ◌+◌, ◌<◌, eqb, get_or}
use Rattle.page.specs.Bytes.{Bytes, pick}
use Rattle.page.specs.Fields.{number_of}
use Rattle.page.specs.Tables.{Rule, points_differ, feeder_combined, rule_number, width, column_at}
use Rattle.page.specs.Section.{record_text, amount, no_bytes}
use Rattle.page.specs.declared.Column.{Column}

-- the number that is kept of the field f of column c: a number's value, and of a text whether it is empty
pub record Kept (c : Column) (f : Bytes) (n : ℕ) : Type 0 where
  pub worth : c.text ≡ false → n ≡ amount (number_of f)
  pub empty : c.text ≡ true → eqb n 0 ≡ no_bytes (record_text f)

-- those of all columns, from the fields by column
abbrev pub Columns : ℕ → List Bytes → List ℕ → Type 0
Columns t fs ns = (c : ℕ) → c < width t → Kept (column_at t c) (get_or fs c []) (get_or ns c 0)

-- whether a record with these numbers breaks a rule, and the number of the first that it breaks
abbrev pub nought : List ℕ → ℕ → Bool
nought ns k = eqb (get_or ns k 0) 0

unfoldable pub own_by : ℕ → ℕ → List ℕ → Bool
own_by c x ns = (nought ns x && (nought ns (x + 1) && nought ns (x + 2))) && (not (nought ns (c + 1)) && not (nought ns (c + 3)))

unfoldable pub foreign_by : ℕ → ℕ → List ℕ → Bool
foreign_by c x ns =
    (not (nought ns x) && (not (nought ns (x + 1)) && not (nought ns (x + 2))))
    && (nought ns (c + 1) && (nought ns (c + 2) && nought ns (c + 3)))

unfoldable pub breaks : Rule → List ℕ → Bool
breaks (points_differ p) ns = eqb (get_or ns p 0) (get_or ns (p + 2) 0) && eqb (get_or ns (p + 1) 0) (get_or ns (p + 3) 0)
breaks (feeder_combined c x) ns = not (pick (nought ns c) (own_by c x ns) (foreign_by c x ns))

unfoldable pub broken_by : List Rule → List ℕ → ℕ
broken_by [] ns = 0
broken_by (r ∷ rs) ns = pick (breaks r ns) (rule_number r) (broken_by rs ns)
