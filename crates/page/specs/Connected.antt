-- Connections and missing numbers (document 02, E3), computed as one list.
use Rattle.std.specs.Prelude.{◌≡◌, refl, true, List, [], ◌∷◌, ◌++◌, map, Err, Ok}
use Prim.Native.String.{String}
use Rattle.page.specs.Bytes.{Bytes, bytes}
use Rattle.page.specs.Open.{open_all}
use Rattle.page.specs.Answers.{refusal}
use Rattle.page.specs.Cases.{Case, section_case, file_case, form_case, value_case, fill_case, a_form, a_value, a_fill, answer, says, files, versions, day_types, connections, transfers, head}
use Rattle.page.specs.Settled.{Pair, ◌gives◌}
use Rattle.page.specs.declared.Value.TheVariants as Va

-- a connection by LEITSTELLENKENNUNG, ZUB_LI_NR, ZUB_LI_RI_NR and ZUB_ORT_REF_ORT, and by LinienID, RichtungsID and ASBID; all that may be missing is
unfoldable pub feeder : String → String → Case
feeder numbers texts =
    section_case true
    (connections "rec; 7; 1; \"\"; \"\"; " ++ (bytes numbers ++ (bytes "; ; ; ; " ++ (bytes texts ++ bytes "; 5; 1; 9; ; ; \nend; 1\n"))))

-- one by the three numbers that may be missing of its feeder, and by what follows ASBID
unfoldable pub points_of : String → String → Case
points_of from to =
    section_case true
    (connections "rec; 7; 1; \"\"; \"\"; 0; 3; 0; 12; " ++ (bytes from ++ (bytes "; \"\"; \"\"; \"\"; " ++ (bytes to ++ bytes "\nend; 1\n"))))

-- a version, a type of day, and what is said of connections
unfoldable pub connected : Bytes → Bytes → Bytes
connected a b =
    head ++ (versions "rec; 7; \"\"\nend; 1\n" ++ (day_types "rec; 7; 2; \"\"\nend; 1\n" ++ (a ++ (b ++ bytes "eof; 4\n"))))

-- one connection, with numbers that are missing, and when it is watched
unfoldable pub connected_file : Bytes
connected_file =
    connected (connections "rec; 7; 1; \"\"; \"\"; 0; 3; 0; 12; ; ; 4; \"\"; \"\"; \"\"; 5; 1; 9; 99; ; \nend; 1\n")
    (transfers "rec; 7; 1; 2; 0; 129599; 0; 65532; 0; 0\nend; 1\n")

-- "With LEITSTELLENKENNUNG 0, LinienID, RichtungsID and ASBID are empty, and ZUB_LI_NR and ZUB_ORT_REF_ORT lie above 0; with 1 to 255 the three texts
-- are filled, and ZUB_LI_NR, ZUB_LI_RI_NR and ZUB_ORT_REF_ORT are 0"
unfoldable pub combination_points : List Pair
combination_points =
    (feeder "0; 1; 0; 1" "\"\"; \"\"; \"  \"" gives says 432 1 0 0) ∷
    (feeder "0; 999; 2; 999999" "\"\"; \"\"; \"\"" gives says 432 1 0 0) ∷
    (feeder "0; 0; 1; 12" "\"\"; \"\"; \"\"" gives says 432 0 25 4) ∷
    (feeder "0; 3; 1; 0" "\"\"; \"\"; \"\"" gives says 432 0 25 4) ∷
    (feeder "0; 3; 1; 12" "\"a\"; \"\"; \"\"" gives says 432 0 25 4) ∷
    (feeder "0; 3; 1; 12" "\"\"; \"b\"; \"\"" gives says 432 0 25 4) ∷
    (feeder "0; 3; 1; 12" "\"\"; \"\"; \"c\"" gives says 432 0 25 4) ∷
    (feeder "1; 0; 0; 0" "\"a\"; \"b\"; \"c\"" gives says 432 1 0 0) ∷
    (feeder "255; 0; 0; 0" "\"123456\"; \"123456\"; \"1234567890\"" gives says 432 1 0 0) ∷
    (feeder "1; 3; 0; 0" "\"a\"; \"b\"; \"c\"" gives says 432 0 25 4) ∷
    (feeder "1; 0; 1; 0" "\"a\"; \"b\"; \"c\"" gives says 432 0 25 4) ∷
    (feeder "1; 0; 0; 12" "\"a\"; \"b\"; \"c\"" gives says 432 0 25 4) ∷
    (feeder "1; 0; 0; 0" "\"\"; \"b\"; \"c\"" gives says 432 0 25 4) ∷
    (feeder "1; 0; 0; 0" "\"a\"; \" \"; \"c\"" gives says 432 0 25 4) ∷
    (feeder "1; 0; 0; 0" "\"a\"; \"b\"; \"\"" gives says 432 0 25 4) ∷
    -- after every field, before 15
    (feeder "256; 0; 0; 0" "\"a\"; \"b\"; \"c\"" gives says 432 0 13 4) ∷
    (section_case true
    (connections "com; \"SUGGESTED 3\"\nrec; 7; 1; \"\"; \"\"; 0; 0; 0; 12; ; ; ; \"\"; \"\"; \"\"; 5; 1; 9; ; ; \nend; 1\n") gives says 432 0 25 5) ∷
    []

-- "columns and ranges as source document 001 sections 9.9.1 and 9.9.2 print them, bracketed 0 included, >0 up to the decimal size"
unfoldable pub range_points : List Pair
range_points =
    (points_of "99; 999999; 999999" "999; 2; 999999; 99; 999999; 999999" gives says 432 1 0 0) ∷
    (points_of "1; 1; 1" "1; 0; 1; 1; 1; 1" gives says 432 1 0 0) ∷
    (points_of "100; 1; 1" "1; 0; 1; 1; 1; 1" gives says 432 0 13 4) ∷
    (points_of "1; 1; 1" "0; 0; 1; 1; 1; 1" gives says 432 0 13 4) ∷
    (points_of "1; 1; 1" "1; 0; 0; 1; 1; 1" gives says 432 0 13 4) ∷
    -- "Where a column there allows NULL, an empty field is a missing number": 0 is none; elsewhere an empty field is 12, or 11
    (points_of ";; " "1; 0; 1;  ;;" gives says 432 1 0 0) ∷
    (points_of "0; 1; 1" "1; 0; 1; 1; 1; 1" gives says 432 0 13 4) ∷
    (points_of "1; 1; 1" "1; 0; 1; 1; 1; 0" gives says 432 0 13 4) ∷
    (points_of "1; 1; 1" "; 0; 1; 1; 1; 1" gives says 432 0 12 4) ∷
    (points_of "1; 1; 1" "1; ; 1; 1; 1; 1" gives says 432 0 12 4) ∷
    (feeder "0; ; 1; 12" "\"\"; \"\"; \"\"" gives says 432 0 12 4) ∷
    (feeder "0; 3; 1; 12" "\"\"; \"\"; " gives says 432 0 11 4) ∷
    (section_case true (transfers "rec; 7; 32764; 999; 129599; 0; 65532; 0; 65532; 65532\nend; 1\n") gives says 232 1 0 0) ∷
    (section_case true (transfers "rec; 7; 32765; 999; 129599; 0; 65532; 0; 65532; 65532\nend; 1\n") gives says 232 0 13 4) ∷
    (section_case true (transfers "rec; 7; 1; 1; 129600; 0; 0; 0; 0; 0\nend; 1\n") gives says 232 0 13 4) ∷
    (section_case true (transfers "rec; 7; 1; 1; 0; 0; 0; 0; 0; 65533\nend; 1\n") gives says 232 0 13 4) ∷
    (section_case true (transfers "rec; 7; 1; 1; 0; 0; 0; 0; 0; \nend; 1\n") gives says 232 0 12 4) ∷
    []

unfoldable pub connected_points : List Pair
connected_points =
    -- "REC_UMS refers to 432, 290 and 485."
    (file_case connected_file gives files 0 0 0) ∷
    (file_case (connected (connections "end; 0\n") (transfers "rec; 7; 1; 2; 0; 0; 0; 0; 0; 0\nend; 1\n")) gives files 20 4 4) ∷
    (file_case
    (connected (connections "rec; 7; 1; \"\"; \"\"; 0; 3; 0; 12; ; ; ; \"\"; \"\"; \"\"; 5; 1; 9; ; ; \nend; 1\n")
    (transfers "rec; 7; 1; 3; 0; 0; 0; 0; 0; 0\nend; 1\n")) gives files 20 4 4) ∷
    (file_case
    (connected (connections "rec; 8; 1; \"\"; \"\"; 0; 3; 0; 12; ; ; ; \"\"; \"\"; \"\"; 5; 1; 9; ; ; \nend; 1\n") (transfers "end; 0\n")) gives files 20 3 4) ∷
    -- the five columns of a key
    (file_case
    (connected (connections "end; 0\n")
    (transfers "rec; 7; 1; 2; 0; 9; 0; 0; 0; 0\nrec; 7; 1; 2; 0; 8; 0; 0; 0; 0\nrec; 7; 1; 2; 0; 9; 1; 1; 1; 1\nend; 3\n")) gives files 18 4 6) ∷
    -- a missing number is no 0, and no text
    (value_case connected_file 3 1 9 gives a_value (Ok Va.Missing)) ∷
    (value_case connected_file 3 1 11 gives a_value (Ok (Va.Number 4))) ∷
    (value_case connected_file 3 1 20 gives a_value (Ok Va.Missing)) ∷
    -- it is written as an empty field
    (form_case connected_file gives a_form connected_file) ∷
    -- "ANSCHLUSS_NAME may be marked"
    (fill_case connected_file 3 1 3 (bytes "Bahnhof") gives a_fill (Ok 1219)) ∷
    (fill_case connected_file 3 1 4 (bytes "Bahnhof") gives a_fill (Err (refusal 23 0 0))) ∷
    (fill_case connected_file 3 1 20 (bytes "Bahnhof") gives a_fill (Err (refusal 23 0 0))) ∷
    []

unfoldable pub points : List Pair
points = combination_points ++ (range_points ++ connected_points)

connected_so : map (λ (p : Pair). answer p.input) points ≡ map (λ (p : Pair). p.output) points
unfolding open_all answer points combination_points range_points connected_points feeder points_of connected connected_file versions day_types connections transfers head
connected_so = refl
