-- Lines as the cut hands them out for a section.
use Rattle.std.specs.Prelude.{Bool, false, List, [], ◌∷◌}
use Rattle.page.specs.Bytes.{Bytes}
use Rattle.page.specs.Cut.{begins_table}

-- "A section begins at each `tbl` line": the first line is one
unfoldable pub begins : List Bytes → Bool
begins [] = false
begins (l ∷ ls) = begins_table l
