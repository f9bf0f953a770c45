-- Columns in the sender's order (document 02, E1), computed as one list: short inputs, some of them of a file that is arranged throughout.
use Rattle.std.specs.Prelude.{◌≡◌, refl, true, List, [], ◌∷◌, ◌++◌, map, Ok}
use Prim.Native.String.{String}
use Rattle.page.specs.Bytes.{Bytes, bytes}
use Rattle.page.specs.Open.{open_all}
use Rattle.page.specs.Cases.{section_case, file_case, form_case, value_case, a_form, a_value, answer, says, files, versions, day_types, head}
use Rattle.page.specs.Settled.{Pair, ◌gives◌}
use Rattle.page.specs.declared.Value.TheVariants as Va
use Rattle.page.specs.declared.Owner.TheVariants as O

-- the columns of 290 from the last to the first, and those of 225 with the two points' among each other
unfoldable pub turned_types : String → Bytes
turned_types more =
    bytes "tbl; MENGE_TAGESART\natr; TAGESART_TEXT; TAGESART_NR; BASIS_VERSION\nfrm; char[40]; num[3.0]; num[9.0]\n" ++ bytes more

unfoldable pub turned_links : String → Bytes
turned_links more =
    bytes "tbl; REC_UEB\natr; UEB_ZIEL; ORT_NR; UEB_ZIEL_TYP; ONR_TYP_NR; UEB_LAENGE; BEREICH_NR; BASIS_VERSION\n" ++
    (bytes "frm; num[6.0]; num[6.0]; num[2.0]; num[2.0]; num[6.0]; num[3.0]; num[9.0]\n" ++ bytes more)

-- a type of day with a suggestion for its text, and the version that it refers to
unfoldable pub turned_file : Bytes
turned_file =
    head ++ (turned_types "com; \"SUGGESTED 1\"\nrec; \"a\"; 1; 007\nrec; \"\"; 2; 7\nend; 2\n" ++ (versions "rec; 7; \"\"\nend; 1\n" ++ bytes "eof; 2\n"))

unfoldable pub order_points : List Pair
order_points =
    -- "any arrangement of a table's columns, each once, shall be read"; "A mark's number counts in the file's own order"
    (section_case true (turned_types "com; \"SUGGESTED 1\"\nrec; \"a\"; 1; 7\nend; 1\n") gives says 290 1 0 0) ∷
    (section_case true (turned_types "com; \"SUGGESTED 3\"\n") gives says 290 0 15 4) ∷
    -- "8 is now given exactly if the names are no such arrangement": one is missing, stands twice, is unknown, is one too many
    (section_case true (bytes "tbl; MENGE_TAGESART\natr; TAGESART_TEXT; BASIS_VERSION\n") gives says 290 0 8 2) ∷
    (section_case true (bytes "tbl; MENGE_TAGESART\natr; TAGESART_TEXT; BASIS_VERSION; BASIS_VERSION\n") gives says 290 0 8 2) ∷
    (section_case true (bytes "tbl; MENGE_TAGESART\natr; BASIS_VERSION; TAGESART_NR; STR_ONR_TYP\n") gives says 290 0 8 2) ∷
    (section_case true (bytes "tbl; MENGE_TAGESART\natr; BASIS_VERSION; TAGESART_NR; TAGESART_TEXT; TAGESART_TEXT\n") gives says 290 0 8 2) ∷
    -- `frm` follows the file's `atr`
    (section_case true (bytes "tbl; MENGE_TAGESART\natr; TAGESART_TEXT; TAGESART_NR; BASIS_VERSION\nfrm; num[9.0]; num[3.0]; char[40]\n") gives says 290 0 9 3) ∷
    -- "Fields are still checked from the left as written": 11 before the 13 of document 01's first column
    (section_case true (turned_types "rec; a; 1; 0\n") gives says 290 0 11 4) ∷
    -- 14 by column, after all fields
    (section_case true (turned_links "rec; 5; 5; 1; 1; 10; 0; 7\n") gives says 225 0 14 4) ∷
    (section_case true (turned_links "rec; 5; 6; 1; 1; 10; 0; 7\nend; 1\n") gives says 225 1 0 0) ∷
    -- keys and references by column
    (file_case turned_file gives files 0 0 0) ∷
    (file_case (head ++ (turned_types "rec; \"a\"; 1; 7\nrec; \"b\"; 1; 007\nend; 2\n" ++ (versions "rec; 7; \"\"\nend; 1\n" ++ bytes "eof; 2\n"))) gives files 18 1 5) ∷
    -- a column goes by its number in document 01's table, and its text stands where the file has it
    (value_case turned_file 1 1 1 gives a_value (Ok (Va.Number 7))) ∷
    (value_case turned_file 1 1 3 gives a_value (Ok (Va.Words (record { from = 233; to = 234; owner = O.Suggestion })))) ∷
    -- "The written file uses 452's order and renumbers the marks."
    (form_case turned_file gives
    a_form (head ++ (day_types "com; \"SUGGESTED 3\"\nrec; 7; 1; \"a\"\nrec; 7; 2; \"\"\nend; 2\n" ++ (versions "rec; 7; \"\"\nend; 1\n" ++ bytes "eof; 2\n")))) ∷
    []

arranged : map (λ (p : Pair). answer p.input) order_points ≡ map (λ (p : Pair). p.output) order_points
unfolding open_all answer order_points turned_types turned_links turned_file versions day_types head
arranged = refl
