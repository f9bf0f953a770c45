-- Only real days (document 02, E5), computed as one list.
use Rattle.std.specs.Prelude.{◌≡◌, refl, true, List, [], ◌∷◌, ◌++◌, map, ℕ, Ok}
use Prim.Native.String.{String}
use Rattle.page.specs.Bytes.{Bytes, bytes, pick}
use Rattle.page.specs.Tables.{Named, Table, all_tables}
use Rattle.page.specs.Open.{open_all}
use Rattle.page.specs.Cases.{section_case, file_case, form_case, value_case, a_form, a_value, answer, says, files, versions, day_types, valid_days, calendar, head}
use Rattle.page.specs.Settled.{Pair, ◌gives◌}
use Rattle.page.specs.declared.Value.TheVariants as Va

-- a version valid from a day: it passes, or is refused
abbrev valid_from : String → Bytes
valid_from day = valid_days "rec; " ++ (bytes day ++ bytes "; 7\nend; 1\n")

abbrev passes : String → Pair
passes day = section_case true (valid_from day) gives says 993 1 0 0

abbrev stops : ℕ → String → Pair
stops v day = section_case true (valid_from day) gives says 993 0 v 4

abbrev unreal : String → Pair
unreal day = stops 26 day

-- a record of 348
abbrev on_day : String → ℕ → Pair
on_day fields v = section_case true (calendar "rec; " ++ (bytes fields ++ bytes "\nend; 1\n")) gives says 348 0 v 4

-- a version, from when it is valid, a type of day, and its days
unfoldable pub dated : String → String → Bytes
dated from days =
    head ++ (versions "rec; 7; \"\"\nend; 1\n" ++ (valid_days from ++ (day_types "rec; 7; 2; \"\"\nend; 1\n" ++ (calendar days ++ bytes "eof; 4\n"))))

-- "VER_GUELTIGKEIT and BETRIEBSTAG", and no other column
unfoldable pub days_of : List Named → List String
days_of [] = []
days_of (c ∷ cs) = pick c.column.day (c.name ∷ days_of cs) (days_of cs)

unfoldable pub days_in_all : List Table → List String
days_in_all [] = []
days_in_all (t ∷ ts) = days_of t.columns ++ days_in_all ts

these_days : days_in_all all_tables ≡ "VER_GUELTIGKEIT" ∷ "BETRIEBSTAG" ∷ []
unfolding days_in_all days_of all_tables
these_days = refl

unfoldable pub day_points : List Pair
day_points =
    -- "20240229 passes, 20230229 does not"
    passes "20240229" ∷ unreal "20230229" ∷
    -- "from 00010101 to 99991231"
    passes "00010101" ∷ passes "99991231" ∷ unreal "100" ∷ unreal "99991232" ∷ unreal "1231" ∷ unreal "00001231" ∷ unreal "99999999" ∷ unreal "1" ∷
    -- "leading zeros optional"
    passes "10101" ∷ passes "000000000010101" ∷ unreal "10100" ∷ unreal "10001" ∷
    -- every fourth year, but no hundredth that is no four hundredth
    passes "20000229" ∷ unreal "19000229" ∷ passes "19960229" ∷ unreal "21000229" ∷ passes "40229" ∷ unreal "1000229" ∷ passes "4000229" ∷
    -- the months
    unreal "20230001" ∷ unreal "20230100" ∷ unreal "20231301" ∷
    passes "20230131" ∷ unreal "20230132" ∷
    passes "20230228" ∷ unreal "20230229" ∷
    passes "20230331" ∷ unreal "20230332" ∷
    passes "20230430" ∷ unreal "20230431" ∷
    passes "20230531" ∷ unreal "20230532" ∷
    passes "20230630" ∷ unreal "20230631" ∷
    passes "20230731" ∷ unreal "20230732" ∷
    passes "20230831" ∷ unreal "20230832" ∷
    passes "20230930" ∷ unreal "20230931" ∷
    passes "20231031" ∷ unreal "20231032" ∷
    passes "20231130" ∷ unreal "20231131" ∷
    passes "20231231" ∷ unreal "20231232" ∷
    -- 12 and 13 go before it
    stops 12 "29.02.2024" ∷ stops 12 "" ∷ stops 13 "0" ∷ stops 13 "-0" ∷ stops 13 "-20240229" ∷ stops 13 "100000000" ∷ stops 13 "20240229000" ∷
    []

unfoldable pub turn_points : List Pair
turn_points =
    -- "at its field directly after 13": before the next field, after the field before it
    (section_case true (valid_days "rec; 20230229; 0\n") gives says 993 0 26 4) ∷
    on_day "7; 20230229; x; 1" 26 ∷
    on_day "7; 20230229; \"\"; 0" 26 ∷
    on_day "0; 20230229; \"\"; 1" 13 ∷
    on_day "7; 20230229; \"\"" 10 ∷
    -- as the columns stand
    (section_case true (bytes "tbl; BASIS_VER_GUELTIGKEIT\natr; BASIS_VERSION; VER_GUELTIGKEIT\nfrm; num[9.0]; num[8.0]\nrec; 0; 20230229\n") gives says 993 0 13 4) ∷
    (section_case true (bytes "tbl; BASIS_VER_GUELTIGKEIT\natr; BASIS_VERSION; VER_GUELTIGKEIT\nfrm; num[9.0]; num[8.0]\nrec; 7; 20230229\n") gives says 993 0 26 4) ∷
    -- before 15 for a marked empty text
    (section_case true (calendar "com; \"SUGGESTED 3\"\nrec; 7; 20230229; \"\"; 1\n") gives says 348 0 26 5) ∷
    -- no other number is a day
    (section_case true (versions "rec; 20230229; \"\"\nend; 1\n") gives says 485 1 0 0) ∷
    []

unfoldable pub dated_points : List Pair
dated_points =
    (file_case (dated "rec; 20231210; 7\nend; 1\n" "rec; 7; 20240229; \"\"; 2\nend; 1\n") gives files 0 0 0) ∷
    (file_case (dated "rec; 20231210; 7\nend; 1\n" "rec; 7; 20240229; \"\"; 2\nrec; 7; 20240230; \"\"; 2\nend; 2\n") gives files 26 4 5) ∷
    -- keys by value
    (file_case (dated "end; 0\n" "rec; 7; 20240229; \"\"; 2\nrec; 7; 020240229; \"\"; 2\nend; 2\n") gives files 18 4 5) ∷
    (value_case (dated "rec; 010101; 7\nend; 1\n" "end; 0\n") 2 1 1 gives a_value (Ok (Va.Number 10101))) ∷
    -- written without leading zeros
    (form_case (dated "rec; 00010101; 7\nend; 1\n" "rec; 7; 020240229; \"\"; 2\nend; 1\n") gives
    a_form (dated "rec; 10101; 7\nend; 1\n" "rec; 7; 20240229; \"\"; 2\nend; 1\n")) ∷
    []

unfoldable pub points : List Pair
points = day_points ++ (turn_points ++ dated_points)

dated_so : map (λ (p : Pair). answer p.input) points ≡ map (λ (p : Pair). p.output) points
unfolding open_all answer points day_points turn_points dated_points dated versions day_types valid_days calendar head
dated_so = refl
