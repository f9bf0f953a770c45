-- How document 01's open points are settled (docs/DECISIONS.md), computed as one list: a short input for each point.
use Rattle.std.specs.Prelude.{◌≡◌, refl, true, List, [], ◌∷◌, ◌++◌, map, None}
use Rattle.page.specs.Bytes.{bytes}
use Rattle.page.specs.Lines.{Unknown, Missing}
use Rattle.page.specs.Open.{open_all}
use Rattle.page.specs.Cases.{Case, content_case, field_case, header_case, section_case, file_case, Answer, a_command, a_text, answer, says, heads, files, versions, day_types, point_types, links, head}

pub record Pair : Type 0 where
  pub input : Case
  pub output : Answer

abbrev pub ◌gives◌ : Case → Answer → Pair
◌gives◌ i o = record { input = i; output = o }

infix 5 ◌gives◌
-- lines and bytes
unfoldable pub line_points : List Pair
line_points =
    -- a CR at the very end of the bytes is content; of CR CR LF one CR is
    (section_case true (versions "end; 0\r") gives says 485 0 4 4) ∷
    (section_case true (versions "end; 0\r\r\n") gives says 485 0 4 4) ∷
    (section_case true (versions "end; 0\r\n") gives says 485 0 0 0) ∷
    -- a space is byte 32 and nothing else
    (section_case true (versions "\t\nend; 0\n") gives says 485 0 4 4) ∷
    -- a `tbl` line with a bad byte still begins its section, and then fails by that byte
    (file_case (head ++ bytes "tbl; \u{7f}\neof; 1\n") gives files 4 1 1) ∷
    -- the command ends at the first `;`, also within quotes; an empty command is unknown
    (content_case (bytes "\"a;b\"") gives a_command Unknown) ∷
    (content_case (bytes ";x") gives a_command Unknown) ∷
    (content_case (bytes "tbl") gives a_command Missing) ∷
    -- a `rec` line out of order may hold 161..255: 6, not 4; elsewhere than in a text such a byte makes 12
    (section_case true (bytes "tbl; MENGE_TAGESART\nrec; ü\n") gives says 290 0 6 2) ∷
    (section_case true (day_types "rec; 7; ü; \"\"\n") gives says 290 0 12 4) ∷
    -- known commands are byte-exact
    (content_case (bytes "REC;") gives a_command Unknown) ∷
    (section_case true (day_types "REC; 7; 1; \"ü\"\n") gives says 290 0 4 4) ∷
    -- a bad byte in the header is 2, in comments too; in the trailer 3
    (header_case (bytes "com; ü\n") gives heads 2 1) ∷
    (file_case (head ++ bytes "eof; 0\n\u{1}\n") gives files 3 0 2) ∷
    []

-- fields
unfoldable pub field_points : List Pair
field_points =
    -- k separating `;` make k fields
    (section_case true (bytes "tbl;\n") gives says 0 0 7 1) ∷
    (section_case true (versions "end;\n") gives says 485 0 12 4) ∷
    (section_case true (versions "end;0;\n") gives says 485 0 10 4) ∷
    (section_case true (day_types "rec;7;1;\n") gives says 290 0 11 4) ∷
    -- names, formats and keywords match byte for byte
    (section_case true (bytes "tbl; \"MENGE_TAGESART\"\n") gives says 0 0 7 1) ∷
    (section_case true (bytes "tbl; MENGE_BASIS_VERSIONEN\natr; BASIS_VERSION; BASIS_VERSION_TEXT\nfrm; num[ 9.0 ]; char[40]\n") gives says 485 0 9 3) ∷
    -- a missing quote swallows the separators after it
    (section_case true (versions "rec; \"7; 1\n") gives says 485 0 10 4) ∷
    (section_case true (versions "rec; 7; \"x\n") gives says 485 0 11 4) ∷
    -- 19 digits are not a number; `-0` is 0 in `end` too; a negative count is 16
    (section_case true (versions "rec; 0000000000000000007; \"\"\n") gives says 485 0 12 4) ∷
    (section_case true (versions "end; -0\n") gives says 485 0 0 0) ∷
    (section_case true (versions "end; -1\n") gives says 485 0 16 4) ∷
    -- an empty field is neither a text nor a number
    (field_case [] gives a_text None) ∷
    []

-- header and trailer
unfoldable pub edge_points : List Pair
edge_points =
    -- the first other line is not `mod`; a second `mod`; missing lines give the line count
    (header_case (bytes "\nver; \"1\"\n") gives heads 2 2) ∷
    (header_case (bytes "mod; DD.MM.YYYY; HH:MM:SS; free\nmod; DD.MM.YYYY; HH:MM:SS; free\n") gives heads 2 2) ∷
    (header_case (head ++ bytes "ver; \"1\"\n") gives heads 2 6) ∷
    (header_case (bytes "com;\nmod; YYYY/MM/DD; HH:MM:SS; aligned\n\n") gives heads 2 3) ∷
    -- no `tbl` and no `eof`: every line is header; a file that begins with one has a header of 0 lines
    (file_case head gives files 3 0 0) ∷
    (file_case (bytes "eof; 0\n") gives files 2 0 0) ∷
    -- dates are real, and in the form that `mod` states
    (header_case (bytes "mod; YYYY/MM/DD; HH:MM:SS; free\nsrc; \"\"; \"2023/02/29\"; \"00:00:00\"\n") gives heads 2 2) ∷
    (header_case (bytes "mod; DD.MM.YY; HH:MM:SS; free\n") gives heads 2 1) ∷
    -- `eof; n` takes any number as defined; only blank lines follow; no table at all is sound
    (file_case (head ++ bytes "eof; -0\n  \n") gives files 0 0 0) ∷
    (file_case (head ++ bytes "eof; 0\ncom; x\n") gives files 3 0 2) ∷
    -- a table after the `eof` is a section and counts, and the file gives 3 at its line
    (file_case (head ++ (bytes "eof; 1\n" ++ versions "end; 0\n")) gives files 3 0 2) ∷
    []

-- sections and marks
unfoldable pub section_points : List Pair
section_points =
    -- a `rec` after `end` is 6; blank lines and comments may follow, a mark is 15
    (section_case true (versions "end; 0\nrec; 7; \"\"\n") gives says 485 0 6 5) ∷
    (section_case true (versions "end; 0\n\ncom; \"x\"\n") gives says 485 0 0 0) ∷
    (section_case true (versions "end; 0\ncom; \"SUGGESTED 2\"\n") gives says 485 0 15 5) ∷
    -- "its last line" counts blank lines; a waiting mark is no failing line
    (section_case true (versions "com; \"SUGGESTED 2\"\n\n") gives says 485 0 6 5) ∷
    -- a wrong number of names is 8, of formats 9
    (section_case true (bytes "tbl; MENGE_TAGESART\natr; BASIS_VERSION; TAGESART_NR\n") gives says 290 0 8 2) ∷
    -- a comment whose rest is not one closed text is ordinary, even if it looks like a mark
    (section_case true (versions "com; \"SUGGESTED 2\nrec; 7; \"\"\nend; 1\n") gives says 485 1 0 0) ∷
    (section_case true (versions "com; SUGGESTED 2\nrec; 7; \"\"\nend; 1\n") gives says 485 1 0 0) ∷
    -- the number after the word: no leading zero, nothing more, no wrap-around
    (section_case true (versions "com; \"SUGGESTED 02\"\n") gives says 485 0 15 4) ∷
    (section_case true (versions "com; \"SUGGESTED 2 \"\n") gives says 485 0 15 4) ∷
    (section_case true (versions "com; \"SUGGESTED 18446744073709551618\"\n") gives says 485 0 15 4) ∷
    -- blank lines and comments may stand between; rising starts anew after each `rec`; the same mark twice is 15 at the second
    (section_case true (versions "com; \"SUGGESTED 2\"\n\ncom; x\nrec; 7; \"a\"\ncom; \"SUGGESTED 2\"\nrec; 8; \"b\"\nend; 2\n") gives says 485 2 0 0) ∷
    (section_case true (versions "com; \"SUGGESTED 2\"\ncom; \"SUGGESTED 2\"\n") gives says 485 0 15 5) ∷
    -- a mark without record is 15 at `end`, before its other refusals
    (section_case true (versions "com; \"SUGGESTED 2\"\nend; 7; 7\n") gives says 485 0 15 5) ∷
    []

-- keys and references
unfoldable pub file_points : List Pair
file_points =
    -- 17 at the second table's line 1, before any key
    (file_case (head ++ (versions "rec; 7; \"\"\nrec; 7; \"\"\nend; 2\n" ++ (versions "end; 0\n" ++ bytes "eof; 2\n"))) gives files 17 2 1) ∷
    -- the later of two equal keys is at fault, compared by value
    (file_case (head ++ (versions "rec; 7; \"a\"\n\nrec; 007; \"b\"\nend; 2\n" ++ bytes "eof; 1\n")) gives files 18 1 6) ∷
    -- second keys compare texts by their bytes with doubled quotes undone
    (file_case (head ++ (versions "rec; 7; \"\"\nend; 1\n" ++ (point_types "rec; 7; 1; \"\"; \"\"\nrec; 7; 2; \"\"; \"\"\nend; 2\n" ++ bytes "eof; 2\n"))) gives files 19 2 5) ∷
    -- a reference looks anywhere in the file, and may find no record
    (file_case (head ++ (day_types "rec; 7; 1; \"\"\nend; 1\n" ++ (versions "rec; 7; \"\"\nend; 1\n" ++ bytes "eof; 2\n"))) gives files 0 0 0) ∷
    (file_case (head ++ (day_types "rec; 7; 1; \"\"\nrec; 8; 1; \"\"\nend; 2\n" ++ (versions "rec; 7; \"\"\nend; 1\n" ++ bytes "eof; 2\n"))) gives files 20 1 5) ∷
    -- 3 hides the sections' faults in the file's answer
    (file_case (head ++ bytes "tbl; x\neof; 2\n") gives files 3 0 1) ∷
    []

unfoldable pub points : List Pair
points = line_points ++ (field_points ++ (edge_points ++ (section_points ++ file_points)))

settled : map (λ (p : Pair). answer p.input) points ≡ map (λ (p : Pair). p.output) points
unfolding open_all answer points line_points field_points edge_points section_points file_points versions day_types point_types links head
settled = refl
