-- Texts that are padded inside their quotes (document 02, E2), computed as one list.
use Rattle.std.specs.Prelude.{◌≡◌, refl, true, List, [], ◌∷◌, ◌++◌, map, Err, Ok}
use Rattle.page.specs.Bytes.{Bytes, bytes}
use Rattle.page.specs.Open.{open_all}
use Rattle.page.specs.Answers.{refusal}
use Rattle.page.specs.Cases.{section_case, file_case, form_case, value_case, fill_case, a_form, a_value, a_fill, answer, says, files, versions, point_types, head}
use Rattle.page.specs.Settled.{Pair, ◌gives◌}
use Rattle.page.specs.declared.Value.TheVariants as Va
use Rattle.page.specs.declared.Owner.TheVariants as O

-- spaces behind a text, alone, and behind a doubled quote
unfoldable pub padded_file : Bytes
padded_file =
    head ++
    (versions "rec; 7; \"Winter  \"\nrec; 8; \"   \"\nend; 2\n" ++ (point_types "rec; 7; 1; \"HP    \"; \"a\"\"  \"\nend; 1\n" ++ bytes "eof; 2\n"))

unfoldable pub padded_points : List Pair
padded_points =
    -- "Spaces at the end of a text in a record no longer belong to it": those at its front do
    (file_case padded_file gives files 0 0 0) ∷
    (value_case padded_file 1 1 2 gives a_value (Ok (Va.Words (record { from = 206; to = 212; owner = O.Operator })))) ∷
    (value_case padded_file 2 1 3 gives a_value (Ok (Va.Words (record { from = 369; to = 371; owner = O.Operator })))) ∷
    (value_case padded_file 2 1 4 gives a_value (Ok (Va.Words (record { from = 379; to = 382; owner = O.Operator })))) ∷
    -- "A text of spaces only is empty": it stands directly behind its opening quote
    (value_case padded_file 1 2 2 gives a_value (Ok (Va.Words (record { from = 225; to = 225; owner = O.Operator })))) ∷
    -- "13 measures the trimmed text, and 15, 22 and a fill's 11 go by it"
    (section_case true (point_types "rec; 7; 1; \"123456 \"; \"\"\nend; 1\n") gives says 998 1 0 0) ∷
    (section_case true (point_types "rec; 7; 1; \" 123456\"; \"\"\nend; 1\n") gives says 998 0 13 4) ∷
    (section_case true (versions "com; \"SUGGESTED 2\"\nrec; 7; \"  \"\nend; 1\n") gives says 485 0 15 5) ∷
    (fill_case padded_file 1 1 2 (bytes "Summer") gives a_fill (Err (refusal 22 0 0))) ∷
    (fill_case padded_file 1 2 2 (bytes "  ") gives a_fill (Err (refusal 11 0 0))) ∷
    (fill_case padded_file 1 2 2 (bytes "1234567890123456789012345678901234567890  ") gives a_fill (Ok 448)) ∷
    -- "a fill's text is trimmed likewise"
    (fill_case padded_file 1 2 2 (bytes "Summer ") gives a_fill (Ok 414)) ∷
    -- the empty text and one of spaces are one second key
    (file_case
    (head ++ (versions "rec; 7; \"\"\nend; 1\n" ++ (point_types "rec; 7; 1; \"\"; \"\"\nrec; 7; 2; \"  \"; \"\"\nend; 2\n" ++ bytes "eof; 2\n"))) gives
    files 19 2 5) ∷
    -- end spaces are not written
    (form_case padded_file gives
    a_form
    (head ++
    (versions "rec; 7; \"Winter\"\nrec; 8; \"\"\nend; 2\n" ++ (point_types "rec; 7; 1; \"HP\"; \"a\"\"\"\nend; 1\n" ++ bytes "eof; 2\n")))) ∷
    -- "Header texts stay as written."
    (form_case (head ++ bytes "fft; \"x \"\neof; 0\n") gives a_form (head ++ bytes "fft; \"x \"\neof; 0\n")) ∷
    []

padded_so : map (λ (p : Pair). answer p.input) padded_points ≡ map (λ (p : Pair). p.output) padded_points
unfolding open_all answer padded_points padded_file versions point_types head
padded_so = refl
