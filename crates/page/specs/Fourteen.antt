-- The fourteen rows of document 01, row 14 turned round by document 02 (E2), computed as one table.
use Rattle.std.specs.Prelude.{◌≡◌, refl, true, false, List, [], ◌∷◌, ◌++◌, map, Some}
use Rattle.page.specs.Bytes.{Bytes, bytes}
use Rattle.page.specs.Lines.{Rec}
use Rattle.page.specs.Open.{open_all}
use Rattle.page.specs.Cases.{Case, content_case, field_case, section_case, file_case, Answer, a_command, a_text, answer, says, files, versions, day_types, point_types, links, head}

-- the same records of 998 but for their short names
unfoldable pub short_names : Bytes → Bytes → Bytes
short_names a b =
    head ++
    (versions "rec; 7; \"\"\nend; 1\n" ++
    (point_types "rec; 7; 1; " ++ (a ++ (bytes "; \"\"\nrec; 7; 2; " ++ (b ++ bytes "; \"\"\nend; 2\neof; 2\n")))))

unfoldable pub three_tables : Bytes → Bytes
three_tables end =
    head ++ (versions "end; 0\n" ++ (day_types "end; 0\n" ++ (links "end; 0\n" ++ end)))

unfoldable pub rows : List (List Case)
rows =
    (file_case [] ∷ []) ∷
    (content_case (bytes "rec ;1") ∷ []) ∷
    (field_case (bytes "\"Bake \"\"1\"\"\"") ∷ []) ∷
    (section_case true (versions "rec; 1; \"\"\nrec; 2; \"\"\nrec; 3; \"\"\nrec; 4; \"\"\nend; 0004\n") ∷ []) ∷
    (section_case true (links "rec; 7; 0; 1; 5; 2; 5; 81890\nend; 1\n") ∷
    section_case true (links "rec; 7; 0; 1; 5; 2; 5; 81891\nend; 1\n") ∷ []) ∷
    (section_case true (links "rec; 7; 252; 1; 5; 2; 5; 8\nrec; 7; -0; 1; 5; 2; 5; 8\nend; 2\n") ∷
    section_case true (links "rec; 7; 253; 1; 5; 2; 5; 8\nend; 1\n") ∷
    section_case true (links "rec; 7; -1; 1; 5; 2; 5; 8\nend; 1\n") ∷ []) ∷
    (section_case true (versions "end; 0\n") ∷
    section_case true (bytes "tbl; MENGE_BASIS_VERSIONEN\natr; BASIS_VERSION; BASIS_VERSION_TEXT\nfrm; num[9]; char[40]\nend; 0\n") ∷ []) ∷
    (section_case true (point_types "rec; 7; 1; \"123456\"; \"\"\nend; 1\n") ∷
    section_case true (point_types "rec; 7; 1; \"1234567\"; \"\"\nend; 1\n") ∷ []) ∷
    (section_case true (day_types "rec; 7; 1; \"\"\nend; 1\n") ∷ section_case true (day_types "rec; 7; 1;\nend; 1\n") ∷ []) ∷
    (section_case true (day_types "rec; 7; 1; \"¡\"\nend; 1\n") ∷
    section_case false (day_types "rec; 7; 1; \"¡\"\nend; 1\n") ∷
    section_case true (day_types "rec; 7; 1; \"\u{a0}\"\nend; 1\n") ∷
    section_case false (day_types "rec; 7; 1; \"\u{a0}\"\nend; 1\n") ∷ []) ∷
    (section_case true (links "rec; 7; 0; 1; 5; 2; 5; 8\nend; 1\n") ∷
    section_case true (links "rec; 7; 0; 1; 5; 1; 5; 8\nend; 1\n") ∷ []) ∷
    (section_case true (day_types "com; \"SUGGESTED 3\"\nrec; 7; 1; \"x\"\nend; 1\n") ∷
    section_case true (day_types "com; \"SUGGESTED 2\"\nrec; 7; 1; \"x\"\nend; 1\n") ∷
    section_case true (day_types "com; \"SUGGESTED 3\"\nrec; 7; 1; \"\"\nend; 1\n") ∷ []) ∷
    (file_case (three_tables (bytes "eof; 3\n")) ∷ file_case (three_tables (bytes "eof; 2\n")) ∷ []) ∷
    (file_case (short_names (bytes "\"HP\"") (bytes "\"HP \"")) ∷ file_case (short_names (bytes "\"HP\"") (bytes "\" HP\"")) ∷ []) ∷
    []

unfoldable pub answers : List (List Answer)
answers =
    (files 2 0 0 ∷ []) ∷
    (a_command Rec ∷ []) ∷
    (a_text (Some (bytes "Bake \"1\"")) ∷ []) ∷
    (says 485 4 0 0 ∷ []) ∷
    (says 225 1 0 0 ∷ says 225 0 13 4 ∷ []) ∷
    (says 225 2 0 0 ∷ says 225 0 13 4 ∷ says 225 0 13 4 ∷ []) ∷
    (says 485 0 0 0 ∷ says 485 0 9 3 ∷ []) ∷
    (says 998 1 0 0 ∷ says 998 0 13 4 ∷ []) ∷
    (says 290 1 0 0 ∷ says 290 0 11 4 ∷ []) ∷
    (says 290 1 0 0 ∷ says 290 0 4 4 ∷ says 290 0 4 4 ∷ says 290 0 4 4 ∷ []) ∷
    (says 225 1 0 0 ∷ says 225 0 14 4 ∷ []) ∷
    (says 290 1 0 0 ∷ says 290 0 15 4 ∷ says 290 0 15 5 ∷ []) ∷
    (files 0 0 0 ∷ files 3 0 1 ∷ []) ∷
    (files 19 2 5 ∷ files 0 0 0 ∷ []) ∷
    []

fourteen : map (map answer) rows ≡ answers
unfolding open_all answer rows answers versions day_types point_types links head short_names three_tables
fourteen = refl
