-- A text's place in the longest file.
use Rattle.std.specs.Prelude.{ℕ, ◌+◌, ◌≤◌}
use Rattle.page.specs.File.{limit}
use Rattle.page.specs.declared.Field.{Field}
use Rattle.page.specs.declared.Field.TheVariants as F

-- a text of bytes that stand at a place ends within the longest file
abbrev pub Fits : ℕ → Field → Type 0
Fits at (F.Text sp) = (sp.from ≤ sp.to) × (at + sp.to ≤ limit)
Fits at (F.Number n) = Unit {0}
Fits at F.Missing = Unit {0}
Fits at (F.Refused v) = Unit {0}
