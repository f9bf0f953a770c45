-- Where a field stands, and which line a record stands in: places are lengths of what stands before.
use Rattle.std.specs.Prelude.{false, List, [], ◌∷◌, ℕ, zero, suc, ◌+◌, ◌-◌, eqb, length, take, drop}
use Rattle.page.specs.Bytes.{Bytes, pick, until, moved, trim_of}
use Rattle.page.specs.Lines.{content, command, rest, semicolon, Rec}
use Rattle.page.specs.Fields.{field_size}
use Rattle.page.specs.Records.{waits}
use Rattle.page.specs.declared.Span.{Span}

-- where the field k fields after the one that begins at `at` begins
unfoldable pub field_place : ℕ → ℕ → Bytes → ℕ
field_place zero at w = at
field_place (suc k) at w = field_place k (at + field_size false (drop at w) + 1) w

-- field k of what follows the first `;`, without the spaces around it
unfoldable pub span_from : Bytes → ℕ → Span
span_from w at = moved at (trim_of (take (field_size false (drop at w)) (drop at w)))

unfoldable pub field_span : Bytes → ℕ → Span
field_span w k = span_from w (field_place k 0 w)

-- what stands between a text's quotes
abbrev pub unquoted : Span → Span
unquoted sp = record { from = sp.from + 1; to = sp.to - 1 }

-- a line's fields: what follows its first `;`, where that begins in the file, and the mark that waits
pub record Standing : Type 0 where
  pub at : ℕ
  pub rest : Bytes
  pub mark : ℕ

-- in a line that begins at a place
unfoldable pub stands : ℕ → Bytes → ℕ → Standing
stands at l m = record { at = at + until semicolon (content l) + 1; rest = rest (content l); mark = m }

abbrev pub nowhere : Standing
nowhere = record { at = 0; rest = []; mark = 0 }

-- the first line of command k
unfoldable pub line_of : ℕ → ℕ → List Bytes → Standing
line_of k at [] = nowhere
line_of k at (l ∷ ls) = pick (eqb (command (content l)) k) (stands at l 0) (line_of k (at + length l) ls)

abbrev pub this_or : ℕ → Standing → (ℕ → Standing) → Standing
this_or zero here further = here
this_or (suc r) here further = further r

-- the record after r others, where a mark of field m waits
unfoldable pub record_at : ℕ → ℕ → ℕ → List Bytes → Standing
record_at r m at [] = nowhere
record_at r m at (l ∷ ls) =
    pick (eqb (command (content l)) Rec) (this_or r (stands at l m) (λ q. record_at q 0 (at + length l) ls))
    (record_at r (waits m (content l)) (at + length l) ls)
