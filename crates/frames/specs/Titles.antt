-- The three lines that begin a section.
use Rattle.std.specs.Prelude.{Bool, List, [], ◌∷◌, map, ℕ, get_or}
use Rattle.page.specs.Bytes.{Bytes, bytes, pick}
use Rattle.page.specs.Tables.{Named, no_column, table_at, columns}
use Rattle.page.specs.Form.{line, format_text}
use Rattle.page.specs.declared.LineEnd.{LineEnd}

unfoldable pub tbl_line : LineEnd → ℕ → Bytes
tbl_line e t = line e "tbl" (bytes (table_at t).name ∷ [])

-- what the lines of columns say of one: its format, or its name
abbrev pub title_of : Bool → Named → Bytes
title_of formats c = pick formats (format_text c.column) (bytes c.name)

unfoldable pub title_at : Bool → ℕ → ℕ → Bytes
title_at formats t k = title_of formats (get_or (columns t) k no_column)

unfoldable pub titles : Bool → ℕ → List Bytes
titles formats t = map (title_of formats) (columns t)
