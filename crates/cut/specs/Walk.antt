-- Sections met from the left: where one ends, and where the next begins.
use Rattle.std.specs.Prelude.{◌≡◌, List, [], ◌∷◌, ℕ, ◌+◌, ◌≤◌, ltb, length, get_or, take, drop}
use Rattle.page.specs.Bytes.{Bytes, pick}
use Rattle.page.specs.Lines.{lines}
use Rattle.page.specs.Cut.{Section, sections, begins_table}
use Rattle.page.specs.Reading.{no_section}
use Rattle.page.proofs.LineLaws.{line_size}
use Rattle.page.proofs.CutLaws.{front_size, sections_from}

-- how many bytes the section at the front has: its first line, and the lines before the next `tbl` or `eof` line
unfoldable pub section_size : Bytes → ℕ
section_size w = line_size w + front_size (drop (line_size w) w)

-- the section that begins at a place
unfoldable pub section_from : Bytes → ℕ → Section
section_from s at = record { place = at; lines = lines (take (section_size (drop at s)) (drop at s)) }

-- how many bytes stand before the next `tbl` line: all of them, if there is none
unfoldable pub next_table : List Bytes → ℕ
next_table [] = 0
next_table (l ∷ ls) = pick (begins_table l) 0 (length l + next_table ls)

-- a place is a section's, or the end
unfoldable pub Settled : Bytes → ℕ → Type 0
Settled s at = next_table (lines (drop at s)) ≡ 0

-- r is the place of the next section at or after a line's place, or the end
pub record Next (s : Bytes) (at r : ℕ) : Type 0 where
  pub is : r ≡ at + next_table (lines (drop at s))
  pub after : at ≤ r
  pub within : r ≤ length s
  pub settled : Settled s r
  pub same : sections_from s r ≡ sections_from s at

-- r is the place of the section after k others, or the end
pub record Reached (s : Bytes) (k r : ℕ) : Type 0 where
  pub is : r ≡ pick (ltb k (length (sections s))) (get_or (sections s) k no_section).place (length s)
  pub within : r ≤ length s
  pub settled : Settled s r
  pub left : drop k (sections s) ≡ sections_from s r
