-- What each call answers, and what it leaves in what was lent to it, computed as lists.
use Rattle.std.specs.Prelude.{◌≡◌, refl, true, false, List, [], ◌∷◌, ◌++◌, map, ℕ, zero, suc, Err, None, Ok, Some}
use Prim.Native.String.{String}
use Rattle.page.specs.Bytes.{Bytes, bytes}
use Rattle.page.specs.Open.{open_all}
use Rattle.page.specs.Records.{number, words}
use Rattle.page.specs.Answers.{refusal}
use Rattle.page.specs.Cases.{Answer, form_case, value_case, a_form, a_value, answer, versions, day_types, connections, head}
use Rattle.page.specs.CallCases.{Reply, entries_case, headed_case, lister_case, row_case, list_case, table_case, text_case, write_case, strip_case, filled_case, a_entries, a_headed, a_listing, a_row, a_list, a_table, a_handed, a_written, reply, Exchange, ◌replies◌, open_calls}
use Rattle.page.specs.Settled.{Pair, ◌gives◌}
use Rattle.page.specs.Arranged.{turned_types, turned_file}
use Rattle.page.specs.declared.Span.{Span}
use Rattle.page.specs.declared.Row.{Row}
use Rattle.page.specs.declared.Owner.{Owner}
use Rattle.page.specs.declared.Owner.TheVariants as O
use Rattle.page.specs.declared.Value.TheVariants as Va

-- what is lent: n numbers or bytes
unfoldable pub lent : ℕ → List ℕ
lent zero = []
lent (suc n) = 9 ∷ lent n

-- a version with an empty text, and two types of day: a suggestion with doubled quotes, and an operator's text
unfoldable pub asked : Bytes
asked =
    head ++
    (versions "rec; 007; \"\"\nend; 1\n" ++
    (day_types "com; \"SUGGESTED 3\"\nrec; 7; 1; \"say \"\"so\"\" \"\nrec;7;2; \" x \"  \nend; 2\n" ++ bytes "eof; 2\n"))

-- a sound table, an unknown one and an unsound one
unfoldable pub mixed : Bytes
mixed = head ++ (versions "rec; 7; \"\"\nend; 1\n" ++ (bytes "tbl; x\n" ++ (day_types "rec; 7; 1;\r\nend; 1\n" ++ bytes "eof; 3\n")))

unfoldable pub headless : Bytes
headless = versions "end; 0\n" ++ bytes "eof; 1\n"

-- two tables, and a trailer that counts one
unfoldable pub miscounted : Bytes
miscounted = head ++ (versions "end; 0\n" ++ (day_types "end; 0\n" ++ bytes "eof; 1\n"))

-- a table after the trailer
unfoldable pub late : Bytes
late = head ++ (bytes "eof; 1\nrec; x\n" ++ versions "end; 0\n")

-- a mark, a blank line and a comment before the record that it speaks of, and a record after it
unfoldable pub apart : Bytes
apart = head ++ (versions "com; \"SUGGESTED 2\"\n\ncom; \"x\"\nrec; 999999999; \"a\"\nrec; 10; \"b\"\nend; 2\n" ++ bytes "eof; 1\n")

-- table, place, length, records, verdict, line
abbrev pub row : ℕ → ℕ → ℕ → ℕ → ℕ → ℕ → Row
row t p l k v n = record { table = t; place = p; length = l; records = k; verdict = v; line = n }

abbrev pub span : ℕ → ℕ → Span
span a b = record { from = a; to = b }

-- every line of a header, in another order than the written one, among comments and blank lines
unfoldable pub full_header : Bytes
full_header =
    bytes "com; \"SUGGESTED 3\"\n\nmod; YYYY/MM/DD; HH:MM:SS; aligned\nfft; \"f\"\n ver ; \"v \"\"1\"\"\"\nsrc;\"Desk\" ; \"2024/02/29\";\"23:59:58\"\r\n" ++
    bytes "ifv;  \"\" \nchs; \"ISO-8859-1\"\ndve; \" d\"\neof; 0\n"

unfoldable pub plain_header : Bytes
plain_header = bytes "mod; DD.MM.YYYY; HH:MM:SS; free\nsrc; \"\"; \"31.12.1999\"; \"00:00:00\"\nchs; \"ASCII\"\nver; \"a;b\"\nifv; \"1\"\neof; 0\n"

-- Header values are the texts, date, time and character set, not the mode or the date's form.
unfoldable pub header_calls : List Exchange
header_calls =
    (headed_case full_header replies
    a_headed
    (Ok
    (record {
      source = span 86 90;
      date = record { year = 2024; month = 2; day = 29 };
      time = record { hour = 23; minute = 59; second = 58 };
      latin = true;
      ver = span 72 79;
      ifv = span 126 126;
      dve = Some (span 153 155);
      fft = Some (span 61 62);
    }))) ∷
    (headed_case plain_header replies
    a_headed
    (Ok
    (record {
      source = span 38 38;
      date = record { year = 1999; month = 12; day = 31 };
      time = record { hour = 0; minute = 0; second = 0 };
      latin = false;
      ver = span 85 88;
      ifv = span 96 97;
      dve = None;
      fft = None;
    }))) ∷
    (headed_case (bytes "\nver; \"1\"\n") replies a_headed (Err (refusal 2 0 2))) ∷
    -- trailer and sections are not asked
    (headed_case head replies
    a_headed
    (Ok
    (record {
      source = span 38 42;
      date = record { year = 2024; month = 2; day = 1 };
      time = record { hour = 6; minute = 0; second = 0 };
      latin = true;
      ver = span 93 94;
      ifv = span 102 105;
      dve = None;
      fft = None;
    }))) ∷
    []

-- Order mod, src, chs, ver, ifv, dve, fft, present ones only, the source date rewritten so; `ISO8859-1` spelt thus
unfoldable pub header_forms : List Pair
header_forms =
    (form_case full_header gives
    a_form
    (bytes "mod; DD.MM.YYYY; HH:MM:SS; free\nsrc; \"Desk\"; \"29.02.2024\"; \"23:59:58\"\nchs; \"ISO8859-1\"\nver; \"v \"\"1\"\"\"\n" ++
    bytes "ifv; \"\"\ndve; \" d\"\nfft; \"f\"\neof; 0\n")) ∷
    (form_case plain_header gives a_form plain_header) ∷
    []

abbrev pub mixed_rows : List Row → List Row
mixed_rows more = row 485 107 108 1 0 0 ∷ row 0 215 7 0 7 1 ∷ row 290 222 120 0 11 4 ∷ more

abbrev pub spare : Row
spare = row 1 2 3 4 5 6

unfoldable pub list_calls : List Exchange
list_calls =
    -- one row a section; other verdicts go into the rows and the file's answer
    (list_case mixed (spare ∷ spare ∷ spare ∷ []) replies a_list (Err (refusal 7 2 1)) (mixed_rows [])) ∷
    -- Spare rows keep their values.
    (list_case mixed (spare ∷ spare ∷ spare ∷ spare ∷ []) replies a_list (Err (refusal 7 2 1)) (mixed_rows (spare ∷ []))) ∷
    -- Too few rows is 21, after 1 and 2, and then writes no row
    (list_case mixed (spare ∷ spare ∷ []) replies a_list (Err (refusal 21 0 0)) (spare ∷ spare ∷ [])) ∷
    (list_case headless [] replies a_list (Err (refusal 2 0 0)) []) ∷
    (list_case headless (spare ∷ []) replies a_list (Err (refusal 2 0 0)) (spare ∷ [])) ∷
    (list_case miscounted (spare ∷ spare ∷ []) replies a_list (Err (refusal 3 0 1)) (row 485 107 97 0 0 0 ∷ row 290 204 108 0 0 0 ∷ [])) ∷
    (list_case asked (spare ∷ spare ∷ []) replies a_list (Ok tt) (row 485 107 110 1 0 0 ∷ row 290 217 169 2 0 0 ∷ [])) ∷
    (list_case plain_header [] replies a_list (Ok tt) []) ∷
    (list_case late (spare ∷ []) replies a_list (Err (refusal 3 0 2)) (row 485 121 97 0 0 0 ∷ [])) ∷
    -- one row by value: 1, 2, 24 for the section
    (row_case mixed 1 replies a_row (Ok (row 485 107 108 1 0 0))) ∷
    (row_case mixed 3 replies a_row (Ok (row 290 222 120 0 11 4))) ∷
    (row_case mixed 0 replies a_row (Err (refusal 24 0 0))) ∷
    (row_case mixed 4 replies a_row (Err (refusal 24 0 0))) ∷
    (row_case headless 2 replies a_row (Err (refusal 2 0 0))) ∷
    []

abbrev pub no_value : ℕ → ℕ → ℕ → Answer
no_value v i n = a_value (Err (refusal v i n))

abbrev pub text_at : ℕ → ℕ → Owner → Answer
text_at a b o = a_value (Ok (Va.Words (record { from = a; to = b; owner = o })))

-- Reading one record gives the first of 1, 2, 24 for the section, the section's verdict, 24 for the record or field.
unfoldable pub value_calls : List Pair
value_calls =
    (value_case asked 1 1 1 gives a_value (Ok (Va.Number 7))) ∷
    (value_case asked 1 1 2 gives text_at 208 208 O.Operator) ∷
    (value_case asked 2 1 3 gives text_at 349 359 O.Suggestion) ∷
    (value_case asked 2 2 2 gives a_value (Ok (Va.Number 2))) ∷
    (value_case asked 2 2 3 gives text_at 372 374 O.Operator) ∷
    (value_case asked 0 1 1 gives no_value 24 0 0) ∷
    (value_case asked 3 1 1 gives no_value 24 0 0) ∷
    (value_case asked 2 0 1 gives no_value 24 0 0) ∷
    (value_case asked 2 3 1 gives no_value 24 0 0) ∷
    (value_case asked 2 2 0 gives no_value 24 0 0) ∷
    (value_case asked 2 2 4 gives no_value 24 0 0) ∷
    (value_case headless 9 1 1 gives no_value 2 0 0) ∷
    (value_case mixed 3 9 9 gives no_value 11 3 4) ∷
    -- the other sections and the trailer are not asked
    (value_case mixed 1 1 1 gives a_value (Ok (Va.Number 7))) ∷
    -- It speaks of the next `rec`.
    (value_case apart 1 1 2 gives text_at 243 244 O.Suggestion) ∷
    (value_case apart 1 2 2 gives text_at 256 257 O.Operator) ∷
    []

-- A refused section hands out no records
unfoldable pub record_points : List Exchange
record_points =
    (entries_case (versions "rec; 007; \"a \"\n\ncom; \"SUGGESTED 2\"\nrec; 8; \"b\"\nend; 2\n") replies
    a_entries
    (record { line = 4; values = number 7 ∷ words O.Operator (bytes "a") ∷ [] } ∷
    record { line = 7; values = number 8 ∷ words O.Suggestion (bytes "b") ∷ [] } ∷ [])) ∷
    (entries_case (versions "rec; 7; \"\"\nend; 2\n") replies a_entries []) ∷
    []

abbrev pub a_copy : ℕ → Owner → Bytes → Reply
a_copy n o out = a_handed (Ok (record { length = n; owner = o })) out

abbrev pub no_copy : ℕ → ℕ → ℕ → Bytes → Reply
no_copy v i n out = a_handed (Err (refusal v i n)) out

-- a text's own bytes: refused as its value is, then 11, then 21
unfoldable pub text_calls : List Exchange
text_calls =
    (text_case asked 2 1 3 (lent 8) replies a_copy 8 O.Suggestion (bytes "say \"so\"")) ∷
    (text_case asked 2 1 3 (lent 10) replies a_copy 8 O.Suggestion (bytes "say \"so\"" ++ lent 2)) ∷
    (text_case asked 2 1 3 (lent 7) replies no_copy 21 0 0 (lent 7)) ∷
    (text_case asked 2 2 3 (lent 2) replies a_copy 2 O.Operator (bytes " x")) ∷
    (text_case asked 1 1 2 [] replies a_copy 0 O.Operator []) ∷
    (text_case asked 2 1 2 [] replies no_copy 11 0 0 []) ∷
    (text_case asked 2 1 2 (lent 8) replies no_copy 11 0 0 (lent 8)) ∷
    (text_case asked 2 3 2 (lent 8) replies no_copy 24 0 0 (lent 8)) ∷
    (text_case mixed 3 1 1 (lent 8) replies no_copy 11 3 4 (lent 8)) ∷
    -- by column, as the columns stand
    (text_case turned_file 1 1 3 (lent 1) replies a_copy 1 O.Suggestion (bytes "a")) ∷
    (text_case turned_file 1 1 1 (lent 1) replies no_copy 11 0 0 (lent 1)) ∷
    []

-- three numbers a value
unfoldable pub asked_cells : List ℕ
asked_cells = 0 ∷ 7 ∷ 0 ∷ 0 ∷ 1 ∷ 0 ∷ 2 ∷ 349 ∷ 359 ∷ 0 ∷ 7 ∷ 0 ∷ 0 ∷ 2 ∷ 0 ∷ 1 ∷ 372 ∷ 374 ∷ []

-- a connection, with numbers that are missing
unfoldable pub gapped : Bytes
gapped =
    head ++
    (versions "rec; 7; \"\"\nend; 1\n" ++
    (connections "rec; 7; 1; \"a\"; \"\"; 0; 3; 0; 12; ; ; 4; \"\"; \"\"; \"\"; 5; 1; 9; 99; ; \nend; 1\n" ++ bytes "eof; 2\n"))

unfoldable pub gapped_cells : List ℕ
gapped_cells =
    0 ∷ 7 ∷ 0 ∷ 0 ∷ 1 ∷ 0 ∷ 1 ∷ 737 ∷ 738 ∷ 1 ∷ 742 ∷ 742 ∷
    0 ∷ 0 ∷ 0 ∷ 0 ∷ 3 ∷ 0 ∷ 0 ∷ 0 ∷ 0 ∷ 0 ∷ 12 ∷ 0 ∷
    3 ∷ 0 ∷ 0 ∷ 3 ∷ 0 ∷ 0 ∷ 0 ∷ 4 ∷ 0 ∷
    1 ∷ 766 ∷ 766 ∷ 1 ∷ 770 ∷ 770 ∷ 1 ∷ 774 ∷ 774 ∷
    0 ∷ 5 ∷ 0 ∷ 0 ∷ 1 ∷ 0 ∷ 0 ∷ 9 ∷ 0 ∷ 0 ∷ 99 ∷ 0 ∷ 3 ∷ 0 ∷ 0 ∷ 3 ∷ 0 ∷ 0 ∷ []

unfoldable pub table_calls : List Exchange
table_calls =
    (table_case asked 2 (lent 18) replies a_table (Ok 18) asked_cells) ∷
    (table_case asked 2 (lent 19) replies a_table (Ok 18) (asked_cells ++ lent 1)) ∷
    (table_case asked 2 (lent 17) replies a_table (Err (refusal 21 0 0)) (lent 17)) ∷
    (table_case gapped 2 (lent 60) replies a_table (Ok 60) gapped_cells) ∷
    (table_case turned_file 1 (lent 18) replies
    a_table (Ok 18) (0 ∷ 7 ∷ 0 ∷ 0 ∷ 1 ∷ 0 ∷ 2 ∷ 233 ∷ 234 ∷ 0 ∷ 7 ∷ 0 ∷ 0 ∷ 2 ∷ 0 ∷ 1 ∷ 250 ∷ 250 ∷ [])) ∷
    (table_case apart 1 (lent 12) replies a_table (Ok 12) (0 ∷ 999999999 ∷ 0 ∷ 2 ∷ 243 ∷ 244 ∷ 0 ∷ 10 ∷ 0 ∷ 1 ∷ 256 ∷ 257 ∷ [])) ∷
    (table_case asked 0 (lent 18) replies a_table (Err (refusal 24 0 0)) (lent 18)) ∷
    (table_case asked 3 [] replies a_table (Err (refusal 24 0 0)) []) ∷
    (table_case mixed 3 [] replies a_table (Err (refusal 11 3 4)) []) ∷
    (table_case headless 9 [] replies a_table (Err (refusal 2 0 0)) []) ∷
    []

-- the written forms: as it stands, stripped, and filled with b"
unfoldable pub form_with : String → String → Bytes
form_with one two = head ++ (versions one ++ (day_types two ++ bytes "eof; 2\n"))

unfoldable pub asked_form : Bytes
asked_form = form_with "rec; 7; \"\"\nend; 1\n" "com; \"SUGGESTED 3\"\nrec; 7; 1; \"say \"\"so\"\"\"\nrec; 7; 2; \" x\"\nend; 2\n"

unfoldable pub stripped : Bytes
stripped = form_with "rec; 7; \"\"\nend; 1\n" "rec; 7; 1; \"\"\nrec; 7; 2; \" x\"\nend; 2\n"

unfoldable pub filled : Bytes
filled =
    form_with "com; \"SUGGESTED 2\"\nrec; 7; \"b\"\"\"\nend; 1\n"
    "com; \"SUGGESTED 3\"\nrec; 7; 1; \"say \"\"so\"\"\"\nrec; 7; 2; \" x\"\nend; 2\n"

abbrev pub unwritten : ℕ → ℕ → ℕ → ℕ → Reply
unwritten v i n room = a_written (Err (refusal v i n)) (lent room)

-- 21 exactly if the form is longer than the lent output; the form's length is given, and the bytes after the form keep their values
unfoldable pub write_calls : List Exchange
write_calls =
    (write_case asked (lent 389) replies a_written (Ok 389) asked_form) ∷
    (write_case asked (lent 388) replies unwritten 21 0 0 388) ∷
    (strip_case asked (lent 361) replies a_written (Ok 360) (stripped ++ lent 1)) ∷
    (strip_case asked (lent 359) replies unwritten 21 0 0 359) ∷
    (filled_case asked 1 1 2 (bytes "b\" ") (lent 412) replies a_written (Ok 411) (filled ++ lent 1)) ∷
    (filled_case asked 1 1 2 (bytes "b\"") (lent 410) replies unwritten 21 0 0 410) ∷
    (filled_case turned_file 1 2 3 (bytes "b") (lent 398) replies
    a_written (Ok 398)
    (head ++
    (day_types "com; \"SUGGESTED 3\"\nrec; 7; 1; \"a\"\ncom; \"SUGGESTED 3\"\nrec; 7; 2; \"b\"\nend; 2\n" ++
    (versions "rec; 7; \"\"\nend; 1\n" ++ bytes "eof; 2\n")))) ∷
    -- Ordinary comments and blank lines go; marks stand directly before their record
    (write_case apart (lent 263) replies
    a_written (Ok 263) (head ++ (versions "com; \"SUGGESTED 2\"\nrec; 999999999; \"a\"\nrec; 10; \"b\"\nend; 2\n" ++ bytes "eof; 1\n"))) ∷
    (strip_case gapped (lent 807) replies a_written (Ok 807) gapped) ∷
    -- Only a file with verdict 0 is written; else its verdict is given.
    (write_case mixed (lent 3) replies unwritten 7 2 1 3) ∷
    (strip_case miscounted (lent 3) replies unwritten 3 0 1 3) ∷
    (filled_case headless 9 9 9 [] [] replies unwritten 2 0 0 0) ∷
    []

-- Order: verdict, 24, 23, 22, text empty 11, text byte not allowed in a `rec` 4, over 40 bytes 13, 21.
unfoldable pub fill_calls : List Exchange
fill_calls =
    (filled_case asked 0 1 2 [] [] replies unwritten 24 0 0 0) ∷
    (filled_case asked 3 1 2 [] [] replies unwritten 24 0 0 0) ∷
    (filled_case asked 1 0 2 [] [] replies unwritten 24 0 0 0) ∷
    (filled_case asked 1 2 2 [] [] replies unwritten 24 0 0 0) ∷
    (filled_case asked 1 1 0 [] [] replies unwritten 24 0 0 0) ∷
    (filled_case asked 1 1 3 [] [] replies unwritten 24 0 0 0) ∷
    (filled_case asked 1 1 1 [] [] replies unwritten 23 0 0 0) ∷
    (filled_case asked 2 1 3 [] [] replies unwritten 22 0 0 0) ∷
    (filled_case asked 2 2 3 [] [] replies unwritten 22 0 0 0) ∷
    (filled_case asked 1 1 2 [] [] replies unwritten 11 0 0 0) ∷
    (filled_case asked 1 1 2 (bytes "    ") [] replies unwritten 11 0 0 0) ∷
    (filled_case asked 1 1 2 (bytes "12345678901234567890123456789012345678901\u{a0}") [] replies unwritten 4 0 0 0) ∷
    (filled_case asked 1 1 2 (bytes "a\n") [] replies unwritten 4 0 0 0) ∷
    (filled_case asked 1 1 2 (bytes "12345678901234567890123456789012345678901") [] replies unwritten 13 0 0 0) ∷
    (filled_case asked 1 1 2 (bytes "123456789012345678901234567890123456789¡") [] replies unwritten 21 0 0 0) ∷
    []

-- Fields: header verdict and line; section, table number (0 if the `tbl` line fails), verdict, records, line (0 if sound); trailer verdict; file
-- verdict, section, line.
unfoldable pub lister_calls : List Exchange
lister_calls =
    (lister_case asked replies a_listing (bytes "header;0;0\ntable;1;485;0;1;0\ntable;2;290;0;2;0\ntrailer;0\nfile;0;0;0\n")) ∷
    (lister_case mixed replies a_listing (bytes "header;0;0\ntable;1;485;0;1;0\ntable;2;0;7;0;1\ntable;3;290;11;0;4\ntrailer;0\nfile;7;2;1\n")) ∷
    (lister_case miscounted replies a_listing (bytes "header;0;0\ntable;1;485;0;0;0\ntable;2;290;0;0;0\ntrailer;3\nfile;3;0;1\n")) ∷
    (lister_case plain_header replies a_listing (bytes "header;0;0\ntrailer;0\nfile;0;0;0\n")) ∷
    -- With a refused header only the header and file lines are printed
    (lister_case (bytes "\nver; \"1\"\ntbl; x\n") replies a_listing (bytes "header;2;2\nfile;2;0;2\n")) ∷
    []

unfoldable pub read_calls : List Pair
read_calls = header_forms ++ value_calls

read : map (λ (p : Pair). answer p.input) read_calls ≡ map (λ (p : Pair). p.output) read_calls
unfolding open_all answer read_calls header_forms value_calls asked mixed headless apart full_header plain_header versions day_types head
read = refl

unfoldable pub calls : List Exchange
calls = header_calls ++ (list_calls ++ (record_points ++ (text_calls ++ (table_calls ++ (write_calls ++ (fill_calls ++ lister_calls))))))

called : map (λ (p : Exchange). reply p.input) calls ≡ map (λ (p : Exchange). p.output) calls
unfolding open_calls reply calls header_calls list_calls record_points text_calls table_calls write_calls fill_calls lister_calls lent asked mixed headless miscounted late apart turned_types turned_file full_header plain_header asked_cells gapped gapped_cells form_with asked_form stripped filled versions day_types connections head
called = refl
