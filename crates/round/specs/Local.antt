-- The parts of a file a ++ (m ++ b) around a run m of whole lines.
use Rattle.std.specs.Prelude.{◌≡◌, List, [], ◌∷◌, ◌++◌, map, ℕ, ◌+◌, length}
use Rattle.page.specs.Bytes.{Bytes}
use Rattle.page.specs.Lines.{lines, joined}
use Rattle.page.specs.Cut.{Piece, Section, cut, placed, header_lines}
use Rattle.page.specs.Head.{latin_of}
use Rattle.page.specs.File.{row_of}
use Rattle.page.specs.Section.{outcome}
use Rattle.page.specs.Records.{entries_of, records_of}
use Rattle.page.specs.Model.{content_of}
use Rattle.page.specs.declared.Row.{Row}
use Rattle.page.specs.declared.Value.{Value}
use Rattle.page.specs.declared.Value.TheVariants as Va
use Rattle.page.proofs.LineLaws.{Whole}
use Rattle.page.proofs.CutLaws.{longer, extend, flat}

-- a run of whole lines in front of b: "only a file's last line may lack LF"
pub data Run : Bytes → Bytes → Type 0 where
  whole : {m : Bytes} (b : Bytes) → Whole m → Run m b
  last : (m : Bytes) → Run m []

-- all pieces but the last: each is followed by a `tbl` or `eof` line
unfoldable pub settled : List Piece → List Piece
settled [] = []
settled (p ∷ []) = []
settled (p ∷ q ∷ ps) = p ∷ settled (q ∷ ps)

-- the last piece, with more lines
unfoldable pub final : List Piece → List Bytes → List Piece
final [] ms = []
final (p ∷ []) ms = longer p ms ∷ []
final (p ∷ q ∷ ps) ms = final (q ∷ ps) ms

-- the sections of a that another `tbl` or `eof` line closes
unfoldable pub closed : Bytes → List Section
closed a = placed (length (joined (header_lines a))) (settled (cut (lines a)).pieces)

-- a section k bytes further on
unfoldable pub later : ℕ → Section → Section
later k x = record { place = k + x.place; lines = x.lines }

-- a section's row k bytes further on: only its place differs
unfoldable pub later_row : ℕ → Row → Row
later_row k r =
    record { table = r.table; place = k + r.place; length = r.length; records = r.records; verdict = r.verdict; line = r.line }

-- the pieces that the run reaches: a's last with the lines that follow it, and those that begin in the run
unfoldable pub reached_pieces : Bytes → Bytes → Bytes → List Piece
reached_pieces a m b = final (cut (lines a)).pieces (cut (lines m ++ lines b)).front ++ extend (cut (lines m)).pieces (cut (lines b)).front

unfoldable pub reached : Bytes → Bytes → Bytes → List Section
reached a m b = placed (length (joined (header_lines a)) + length (joined (flat (settled (cut (lines a)).pieces)))) (reached_pieces a m b)

-- the rows of sections, read under a's character set
unfoldable pub rows_under : Bytes → List Section → List Row
rows_under a xs = map (row_of (latin_of a)) xs

-- two sections of two files that say the same: same lines, hence the same outcome and the same records in the same lines
pub record SaysSame (s : Bytes) (x : Section) (u : Bytes) (y : Section) : Type 0 where
  pub lines : x.lines ≡ y.lines
  pub outcome : outcome (latin_of s) x.lines ≡ outcome (latin_of u) y.lines
  pub entries : entries_of (latin_of s) x.lines ≡ entries_of (latin_of u) y.lines
  pub records : records_of (latin_of s) x.lines ≡ records_of (latin_of u) y.lines
  pub content : content_of (latin_of s) x ≡ content_of (latin_of u) y

-- a value whose text stands k bytes further on
unfoldable pub later_value : ℕ → Value → Value
later_value k (Va.Number n) = Va.Number n
later_value k Va.Missing = Va.Missing
later_value k (Va.Words t) = Va.Words (record { from = k + t.from; to = k + t.to; owner = t.owner })
