-- The cut of a file into header, sections and trailer.
use Rattle.std.specs.Prelude.{Bool, true, false, List, [], ◌∷◌, ℕ, ◌+◌, eqb, length}
use Rattle.page.specs.Bytes.{Bytes, pick}
use Rattle.page.specs.Lines.{lines, joined, content, command, Tbl, Eof}

-- what a line begins: "A section begins at each `tbl` line and runs up to the next `tbl` or `eof` line"
unfoldable pub begins_table : Bytes → Bool
begins_table l = eqb (command (content l)) Tbl

unfoldable pub begins_end : Bytes → Bool
begins_end l = eqb (command (content l)) Eof

-- the lines that begin at a `tbl` or at an `eof` line
pub data Piece : Type 0 where
  a_table a_trailer : List Bytes → Piece

-- "The header is every line before the first `tbl` or `eof` line."
pub record Cut : Type 0 where
  pub front : List Bytes
  pub pieces : List Piece

unfoldable pub put : Bool → Bool → Bytes → Cut → Cut
put true e l c = record { front = []; pieces = a_table (l ∷ c.front) ∷ c.pieces }
put false true l c = record { front = []; pieces = a_trailer (l ∷ c.front) ∷ c.pieces }
put false false l c = record { front = l ∷ c.front; pieces = c.pieces }

unfoldable pub cut : List Bytes → Cut
cut [] = record { front = []; pieces = [] }
cut (l ∷ ls) = put (begins_table l) (begins_end l) l (cut ls)

-- a section: its lines, and where its first byte stands ("place is the section's first byte, from 0")
pub record Section : Type 0 where
  pub place : ℕ
  pub lines : List Bytes

-- the sections among pieces that begin at a place; "lines after an `eof` and before a further `tbl` belong to no section"
abbrev pub placed_piece : ℕ → Piece → List Section → List Section
placed_piece at (a_table ls) ss = record { place = at; lines = ls } ∷ ss
placed_piece at (a_trailer ls) ss = ss

abbrev pub piece_lines : Piece → List Bytes
piece_lines (a_table ls) = ls
piece_lines (a_trailer ls) = ls

unfoldable pub placed : ℕ → List Piece → List Section
placed at [] = []
placed at (p ∷ ps) = placed_piece at p (placed (at + length (joined (piece_lines p))) ps)

unfoldable pub header_lines : Bytes → List Bytes
header_lines s = (cut (lines s)).front

unfoldable pub sections : Bytes → List Section
sections s = placed (length (joined (header_lines s))) (cut (lines s)).pieces

-- "It starts at the first `eof` line": that line and all after it
unfoldable pub from_end : List Bytes → List Bytes
from_end [] = []
from_end (l ∷ ls) = pick (begins_end l) (l ∷ ls) (from_end ls)

unfoldable pub trailer_lines : Bytes → List Bytes
trailer_lines s = from_end (lines s)
