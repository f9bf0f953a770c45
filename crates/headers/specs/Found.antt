-- A line of a header, found in the header's bytes.
use Rattle.std.specs.Prelude.{◌≡◌, ℕ, ◌≤◌, length}
use Rattle.page.specs.Bytes.{Bytes, part}
use Rattle.page.specs.Lines.{lines}
use Rattle.page.specs.Places.{line_of}
use Rattle.page.specs.declared.Span.{Span}

-- r is what follows the first `;` of the first line of command k, up to the line's end; nothing, if no line has that command
pub record Found (k : ℕ) (h : Bytes) (r : Span) : Type 0 where
  pub order : r.from ≤ r.to
  pub within : r.to ≤ length h
  pub at : r.from ≡ (line_of k 0 (lines h)).at
  pub rest : part r h ≡ (line_of k 0 (lines h)).rest
