-- Lines that belong to no section.
use Rattle.std.specs.Prelude.{◌≡◌, List, ◌∷◌, ◌++◌, ℕ, ◌+◌, ◌≤◌, length}
use Rattle.page.specs.Bytes.{Bytes}
use Rattle.page.specs.Lines.{lines, joined}
use Rattle.page.specs.Cut.{Section}
use Rattle.page.specs.Rules.{Every}
use Rattle.page.specs.Parts.{TableLine, TrailerLine}

-- Lines after an `eof` and before a further `tbl`, and that `eof` line: those of a file that stand behind `before`
pub record AfterEof (s : Bytes) (before : List Bytes) (eof : Bytes) (between : List Bytes) : Type 0 where
  pub rest : List Bytes
  pub whole : lines s ≡ before ++ (eof ∷ (between ++ rest))
  pub begins : TrailerLine eof
  pub no_table : Every (λ l. ¬ TableLine l) between

-- they belong to no section: each ends where these bytes begin or before, or begins where they end or later
pub data Outside (from to : ℕ) (x : Section) : Type 0 where
  ends_before : x.place + length (joined x.lines) ≤ from → Outside from to x
  begins_after : to ≤ x.place → Outside from to x
