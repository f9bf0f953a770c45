-- The parts of a file, with no algorithm: header, sections and trailer, by the lines that begin them.
use Rattle.std.specs.Prelude.{◌≡◌, ◌⊎◌, ◌<◌, length}
use mathlib.Core.List.{List, [], ◌∷◌, ◌++◌, Memᴰ}
use Rattle.page.specs.Bytes.{Bytes}
use Rattle.page.specs.Lines.{lines, joined, content, command, Tbl, Eof}
use Rattle.page.specs.Cut.{Section}
use Rattle.page.specs.Rules.{Every}

-- a `tbl` line, an `eof` line, one of the two
abbrev pub TableLine : Bytes → Type 0
TableLine l = command (content l) ≡ Tbl

abbrev pub TrailerLine : Bytes → Type 0
TrailerLine l = command (content l) ≡ Eof

abbrev pub PartLine : Bytes → Type 0
PartLine l = TableLine l ⊎ TrailerLine l

-- lines the first of which is such a line, unless there is none
pub data BeginsWith (P : Bytes → Type 0) : List Bytes → Type 0 where
  no_line : BeginsWith P []
  this_line : {l : Bytes} {ls : List Bytes} → P l → BeginsWith P (l ∷ ls)

-- the first such line stands right behind `before`: none is in it, and one begins the rest, unless nothing is left
pub record FirstAfter (P : Bytes → Type 0) (before rest ls : List Bytes) : Type 0 where
  pub whole : ls ≡ before ++ rest
  pub none_before : Every (λ l. ¬ P l) before
  pub begins : BeginsWith P rest

-- The header is every line before the first `tbl` or `eof` line.
pub record HeaderOf (s : Bytes) (header : List Bytes) : Type 0 where
  pub rest : List Bytes
  pub first : FirstAfter PartLine header rest (lines s)

-- It starts at the first `eof` line: that line and all after it
pub record TrailerOf (s : Bytes) (trailer : List Bytes) : Type 0 where
  pub before : List Bytes
  pub first : FirstAfter TrailerLine before trailer (lines s)

-- A section begins at each `tbl` line and runs up to the next `tbl` or `eof` line or the end of the bytes; place is the section's first byte, from 0
pub record SectionOf (s : Bytes) (x : Section) : Type 0 where
  pub before : List Bytes
  pub first : Bytes
  pub others : List Bytes
  pub after : List Bytes
  pub rest : List Bytes
  pub whole : lines s ≡ before ++ (first ∷ after)
  pub begins : TableLine first
  pub runs : FirstAfter PartLine others rest after
  pub lines : x.lines ≡ first ∷ others
  pub place : x.place ≡ length (joined before)

-- sections in the order of the file: each stands before all that follow it
pub data InOrder : List Section → Type 0 where
  no_section : InOrder []
  before_all : {x : Section} {xs : List Section} → Every (λ y. x.place < y.place) xs → InOrder xs → InOrder (x ∷ xs)

-- all sections of a file, and nothing else, in its order
pub record SectionsOf (s : Bytes) (xs : List Section) : Type 0 where
  pub each : Every (SectionOf s) xs
  pub all : (x : Section) → SectionOf s x → Memᴰ x xs
  pub order : InOrder xs
