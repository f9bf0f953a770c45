-- The line at a place.
use Rattle.std.specs.Prelude.{◌≡◌, Bool, not, ◌∷◌, ℕ, ◌+◌, ◌-◌, ◌<◌, ◌≤◌, Option, None, Some, eqb, ltb, length, take, drop}
use Rattle.page.specs.Bytes.{Bytes, pick}
use Rattle.page.specs.Lines.{lines}
use Rattle.page.proofs.LineLaws.{line_size}
use Rattle.lines.specs.declared.cursor.Walked.{Walked}
use Rattle.lines.specs.declared.iter.Line.{Line}
use Rattle.lines.specs.declared.iter.Lines.{Lines}

-- a place past the end is the end
abbrev pub within : Bytes → ℕ → ℕ
within s at = pick (ltb at (length s)) at (length s)

-- "A whole line includes its end": from a place to after the next LF, and to the end if there is none
abbrev pub line_to : ℕ → ℕ → Walked
line_to at e = record { span = record { from = at; to = e }; next = record { at = e } }

unfoldable pub line_at : Bytes → ℕ → Walked
line_at s at = line_to (within s at) (within s at + line_size (drop (within s at) s))

abbrev pub lf : ℕ → Bool
lf b = eqb b 10

abbrev pub no_lf : ℕ → Bool
no_lf b = not (lf b)

-- a place in the line at another place, with no end between them
pub record Onward (s : Bytes) (at r : ℕ) : Type 0 where
  pub within : r ≤ length s
  pub size : at + line_size (drop at s) ≡ r + line_size (drop r s)

-- the line of s at a place, and the place behind it
pub record LineAt (s : Bytes) (i : ℕ) (l : Line) (to : ℕ) : Type 0 where
  pub before : i < length s
  pub at : l.at ≡ i
  pub bytes : l.bytes.now ≡ take (to - i) (drop i s)
  pub size : to ≡ i + line_size (drop i s)
  pub some : i < to
  pub within : to ≤ length s
  pub long : i + length l.bytes.now ≡ to
  pub cut : lines (drop i s) ≡ l.bytes.now ∷ lines (drop to s)

-- a call gave the line at the place that the iterator had come to, or found none there
abbrev pub GivesLine : Lines → Option Line → Lines → Type 0
GivesLine x None y = (y.bytes.now ≡ x.bytes.now) × (y.at ≡ x.at) × (length x.bytes.now ≤ x.at)
GivesLine x (Some l) y = (y.bytes.now ≡ x.bytes.now) × LineAt x.bytes.now x.at l y.at
