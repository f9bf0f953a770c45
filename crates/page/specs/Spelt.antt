-- How lines, fields, headers and trailers are spelt, computed as one list: bytes, numbers, formats, dates and times, each at its bounds.
use Rattle.std.specs.Prelude.{◌≡◌, refl, Bool, true, false, List, [], ◌∷◌, ◌++◌, map, ℕ, None, Some}
use Prim.Native.String.{String}
use Rattle.page.specs.Bytes.{bytes}
use Rattle.page.specs.Lines.{Tbl, Atr, Frm, Rec, End, Com, Eof, Mod, Src, Chs, Ver, Ifv, Dve, Fft, Unknown, Missing}
use Rattle.page.specs.Open.{open_all}
use Rattle.page.specs.Cases.{content_case, field_case, header_case, section_case, file_case, a_command, a_text, answer, says, heads, files, versions, links, head}
use Rattle.page.specs.Settled.{Pair, ◌gives◌}

-- Known commands: mod src chs ver ifv dve fft tbl atr frm rec end com eof.
unfoldable pub command_points : List Pair
command_points =
    (content_case (bytes "mod;") gives a_command Mod) ∷
    (content_case (bytes " src;") gives a_command Src) ∷
    (content_case (bytes "chs ;") gives a_command Chs) ∷
    (content_case (bytes "  ver  ;;") gives a_command Ver) ∷
    (content_case (bytes "ifv;x") gives a_command Ifv) ∷
    (content_case (bytes "dve;") gives a_command Dve) ∷
    (content_case (bytes "fft;") gives a_command Fft) ∷
    (content_case (bytes "tbl;") gives a_command Tbl) ∷
    (content_case (bytes "atr;") gives a_command Atr) ∷
    (content_case (bytes "frm;") gives a_command Frm) ∷
    (content_case (bytes "rec;") gives a_command Rec) ∷
    (content_case (bytes "end;") gives a_command End) ∷
    (content_case (bytes "com;") gives a_command Com) ∷
    (content_case (bytes "eof;") gives a_command Eof) ∷
    -- a space is byte 32 and nothing else: a tab is no space beside a command
    (content_case (bytes " rec ;") gives a_command Rec) ∷
    (content_case (bytes "rec\t;") gives a_command Unknown) ∷
    (content_case (bytes "re c;") gives a_command Unknown) ∷
    (content_case (bytes "rec:") gives a_command Missing) ∷
    (content_case [] gives a_command Missing) ∷
    []

-- A text field is one closed quoted string with nothing beside it; a doubled quote inside stands for one.
unfoldable pub text_points : List Pair
text_points =
    (field_case (bytes "\"\"") gives a_text (Some [])) ∷
    (field_case (bytes "\"a;b\"") gives a_text (Some (bytes "a;b"))) ∷
    (field_case (bytes "\"a \"") gives a_text (Some (bytes "a "))) ∷
    (field_case (bytes "\"\"\"\"") gives a_text (Some (bytes "\""))) ∷
    (field_case (bytes "\"\"\"\"\"\"") gives a_text (Some (bytes "\"\""))) ∷
    (field_case (bytes "\"") gives a_text None) ∷
    (field_case (bytes "\"\"\"") gives a_text None) ∷
    (field_case (bytes "\"a\"b") gives a_text None) ∷
    (field_case (bytes "a\"b\"") gives a_text None) ∷
    (field_case (bytes "\"a\" \"b\"") gives a_text None) ∷
    (field_case (bytes "a") gives a_text None) ∷
    []

-- a version by how its number is written
abbrev pub counted : String → ℕ → ℕ → ℕ → Pair
counted n k v l = section_case true (versions "rec; " ++ (bytes n ++ bytes "; \"\"\nend; 1\n")) gives says 485 k v l

-- A number is an optional `-` and 1 to 18 digits, leading zeros allowed, `-0` being 0. An empty field is neither.
unfoldable pub number_points : List Pair
number_points =
    counted "000000000000000007" 1 0 0 ∷
    counted "000000000999999999" 1 0 0 ∷
    counted "0000000000000000007" 0 12 4 ∷
    counted "-000000000000000007" 0 13 4 ∷
    counted "-0000000000000000007" 0 12 4 ∷
    counted "100000000000000000" 0 13 4 ∷
    counted "1000000000000000000" 0 12 4 ∷
    counted "0123456789" 1 0 0 ∷
    counted "-0" 0 13 4 ∷
    counted "-" 0 12 4 ∷
    counted "--7" 0 12 4 ∷
    counted "+7" 0 12 4 ∷
    counted "7-" 0 12 4 ∷
    counted "7 7" 0 12 4 ∷
    counted "7/" 0 12 4 ∷
    counted "7:" 0 12 4 ∷
    counted "7.0" 0 12 4 ∷
    counted "\"7\"" 0 12 4 ∷
    counted "" 0 12 4 ∷
    []

-- a text of one byte under a character set
abbrev pub lettered : Bool → String → ℕ → ℕ → ℕ → Pair
lettered latin c k v l = section_case latin (versions "rec; 7; \"" ++ (bytes c ++ bytes "\"\nend; 1\n")) gives says 485 k v l

-- Characters: 32..126 everywhere, and in `rec` lines under ISO8859-1 also every byte 161..255
unfoldable pub byte_points : List Pair
byte_points =
    lettered false "\u{1f}" 0 4 4 ∷ lettered false " " 1 0 0 ∷ lettered false "~" 1 0 0 ∷ lettered false "\u{7f}" 0 4 4 ∷
    lettered false "\u{a0}" 0 4 4 ∷ lettered false "¡" 0 4 4 ∷ lettered false "ÿ" 0 4 4 ∷
    lettered true "\u{1f}" 0 4 4 ∷ lettered true " " 1 0 0 ∷ lettered true "~" 1 0 0 ∷ lettered true "\u{7f}" 0 4 4 ∷
    lettered true "\u{80}" 0 4 4 ∷ lettered true "\u{a0}" 0 4 4 ∷ lettered true "¡" 1 0 0 ∷ lettered true "ÿ" 1 0 0 ∷
    lettered true "\t" 0 4 4 ∷ lettered true "\r" 0 4 4 ∷
    (section_case true (versions "com; ~\nend; 0\n") gives says 485 0 0 0) ∷
    (section_case true (versions "com; ¡\nend; 0\n") gives says 485 0 4 4) ∷
    (section_case true (versions "com; \u{7f}\nend; 0\n") gives says 485 0 4 4) ∷
    (section_case true (versions "¡\n") gives says 485 0 4 4) ∷
    (section_case true (versions "\u{1f}\n") gives says 485 0 4 4) ∷
    []

-- the formats of 485
abbrev pub formed : String → ℕ → ℕ → Pair
formed f v l =
    section_case true (bytes "tbl; MENGE_BASIS_VERSIONEN\natr; BASIS_VERSION; BASIS_VERSION_TEXT\nfrm; " ++ (bytes f ++ bytes "\nend; 0\n")) gives
    says 485 0 v l

-- A format is `num[n.0]` or `char[n]` as the column's kind asks, n from 1 to 255 without leading zeros; it limits no value.
unfoldable pub format_points : List Pair
format_points =
    formed "num[1.0]; char[1]" 0 0 ∷ formed "num[255.0];char[255]" 0 0 ∷ formed "  num[19.0]  ;  char[99]  " 0 0 ∷
    formed "num[256.0]; char[40]" 9 3 ∷ formed "num[9.0]; char[256]" 9 3 ∷
    formed "num[0.0]; char[40]" 9 3 ∷ formed "num[9.0]; char[0]" 9 3 ∷
    formed "num[09.0]; char[40]" 9 3 ∷ formed "num[9.0]; char[040]" 9 3 ∷
    formed "num[.0]; char[40]" 9 3 ∷ formed "num[9.0]; char[]" 9 3 ∷
    formed "num[9.1]; char[40]" 9 3 ∷ formed "num[9.00]; char[40]" 9 3 ∷ formed "num[9]; char[40]" 9 3 ∷
    formed "num[9.0]; char[40.0]" 9 3 ∷ formed "num[9.0]; char [40]" 9 3 ∷ formed "num[9.0]; char[40]x" 9 3 ∷
    formed "Num[9.0]; char[40]" 9 3 ∷ formed "char[9]; num[40.0]" 9 3 ∷ formed "num[9.0]; num[40.0]" 9 3 ∷
    formed "num[9.0]" 9 3 ∷ formed "num[9.0]; char[40]; char[40]" 9 3 ∷ formed "" 9 3 ∷
    (section_case true
    (bytes "tbl; MENGE_BASIS_VERSIONEN\natr; BASIS_VERSION; BASIS_VERSION_TEXT\nfrm; num[1.0]; char[1]\nrec; 77; \"77\"\nend; 1\n") gives
    says 485 1 0 0) ∷
    []

-- in that line the first of 4, 5, 6, then: `tbl` 10, 7; `atr` 8; `frm` 9; `rec` 10, each field from the left (11 or 12, then 13), 14, 15 for a
-- marked empty text; `end` 15 for a mark without record, 10, 12, 16
unfoldable pub turn_points : List Pair
turn_points =
    (section_case true (versions "x; \u{7f}\n") gives says 485 0 4 4) ∷
    (section_case true (versions "rec\n") gives says 485 0 5 4) ∷
    (section_case true (versions "x; 1\n") gives says 485 0 5 4) ∷
    (section_case true (versions "end; 0\nx; 1\n") gives says 485 0 5 5) ∷
    (section_case true (versions "end; 0\nend; 0\n") gives says 485 0 6 5) ∷
    (section_case true (versions "frm; x\n") gives says 485 0 6 4) ∷
    (section_case true (versions "mod; x\n") gives says 485 0 6 4) ∷
    (section_case true (bytes "tbl; MENGE_TAGESART\nfrm; x\n") gives says 290 0 6 2) ∷
    (section_case true (bytes "tbl; MENGE_TAGESART\natr; BASIS_VERSION; TAGESART_NR; TAGESART_TEXT\nend; 0\n") gives says 290 0 6 3) ∷
    (section_case true (bytes "tbl; x; y\n") gives says 0 0 10 1) ∷
    (section_case true (bytes "tbl; x\natr; x\n") gives says 0 0 7 1) ∷
    (section_case true (bytes "tbl; menge_tagesart\n") gives says 0 0 7 1) ∷
    (section_case true (bytes "tbl; MENGE_TAGESART\natr; BASIS_VERSION; TAGESART_NR; TAGESART_TEXT; X\n") gives says 290 0 8 2) ∷
    (section_case true (bytes "tbl; MENGE_TAGESART\natr; BASIS_VERSION; TAGESART_NR; BASIS_VERSION\n") gives says 290 0 8 2) ∷
    (section_case true (bytes "tbl; MENGE_TAGESART\natr; BASIS_VERSION; TAGESART_NR; tagesart_text\n") gives says 290 0 8 2) ∷
    (section_case true (versions "rec; x; x; x\n") gives says 485 0 10 4) ∷
    (section_case true (versions "rec; x\n") gives says 485 0 10 4) ∷
    (section_case true (versions "rec; x; x\n") gives says 485 0 12 4) ∷
    (section_case true (versions "rec; 0; x\n") gives says 485 0 13 4) ∷
    (section_case true (versions "rec; 7; x\n") gives says 485 0 11 4) ∷
    (section_case true (versions "end; x; x\n") gives says 485 0 10 4) ∷
    (section_case true (versions "end; x\n") gives says 485 0 12 4) ∷
    (section_case true (versions "end; 1\n") gives says 485 0 16 4) ∷
    (section_case true (versions "rec; 7; \"\"\nend; 0\n") gives says 485 0 16 5) ∷
    -- section ends without `end` (place: its last line; only if no line fails)
    (section_case true (versions "") gives says 485 0 6 3) ∷
    (section_case true (versions "rec; 7; \"\"\n\n") gives says 485 0 6 5) ∷
    (section_case true (bytes "tbl; MENGE_TAGESART\n") gives says 290 0 6 1) ∷
    (section_case true (bytes "tbl; MENGE_TAGESART\natr; BASIS_VERSION; TAGESART_NR; TAGESART_TEXT\n") gives says 290 0 6 2) ∷
    -- before `frm` or after `end` is 15 at its own line
    (section_case true (bytes "tbl; MENGE_TAGESART\ncom; \"SUGGESTED 3\"\n") gives says 290 0 15 2) ∷
    (section_case true (bytes "tbl; MENGE_TAGESART\natr; BASIS_VERSION; TAGESART_NR; TAGESART_TEXT\ncom; \"SUGGESTED 3\"\n") gives says 290 0 15 3) ∷
    -- A `com` line whose trimmed rest is one closed text beginning `SUGGESTED ` is a mark
    (section_case true (versions "com;  \"SUGGESTED 2\" \nrec; 7; \"x\"\nend; 1\n") gives says 485 1 0 0) ∷
    (section_case true (versions "com; \"SUGGESTED 2\"\nend; 0\n") gives says 485 0 15 5) ∷
    (section_case true (versions "com; \"SUGGESTED\"\nend; 0\n") gives says 485 0 0 0) ∷
    (section_case true (versions "com; \"SUGGESTED \"\nend; 0\n") gives says 485 0 15 4) ∷
    (section_case true (versions "com; \"SUGGESTED  2\"\nend; 0\n") gives says 485 0 15 4) ∷
    (section_case true (versions "com; \"suggested 2\"\nend; 0\n") gives says 485 0 0 0) ∷
    (section_case true (versions "com; \"SUGGESTED 0\"\nend; 0\n") gives says 485 0 15 4) ∷
    (section_case true (versions "com; \"SUGGESTED -2\"\nend; 0\n") gives says 485 0 15 4) ∷
    -- each field from the left (11 or 12, then 13), 14
    (section_case true (links "rec; 7; 0; 1; 5; 1; 5; 0\n") gives says 225 0 13 4) ∷
    []

-- a header by its `src` line's date and time
abbrev pub dated : String → String → String → ℕ → ℕ → Pair
dated form day time v l =
    header_case
    (bytes "mod; " ++
    (bytes form ++
    (bytes "; HH:MM:SS; free\nsrc; \"\"; " ++ (bytes day ++ (bytes "; " ++ (bytes time ++ bytes "\nchs; \"ASCII\"\nver; \"\"\nifv; \"\"\n")))))) gives
    heads v l

abbrev pub on : String → ℕ → ℕ → Pair
on day v l = dated "DD.MM.YYYY" day "\"12:00:00\"" v l

abbrev pub at : String → ℕ → ℕ → Pair
at time v l = dated "YYYY/MM/DD" "\"2024/01/01\"" time v l

-- a quoted real Gregorian date from year 0001 in the stated form and a quoted time 00:00:00 to 23:59:59
unfoldable pub date_points : List Pair
date_points =
    on "\"01.01.0001\"" 0 0 ∷ on "\"31.12.9999\"" 0 0 ∷ on "\"31.12.0000\"" 2 2 ∷ on "\"00.01.2024\"" 2 2 ∷ on "\"01.00.2024\"" 2 2 ∷ on "\"01.13.2024\"" 2 2 ∷
    on "\"29.02.2024\"" 0 0 ∷ on "\"29.02.2023\"" 2 2 ∷ on "\"29.02.2000\"" 0 0 ∷ on "\"29.02.2400\"" 0 0 ∷ on "\"29.02.1900\"" 2 2 ∷ on "\"30.02.2024\"" 2 2 ∷
    on "\"31.01.2024\"" 0 0 ∷ on "\"32.01.2024\"" 2 2 ∷ on "\"30.04.2024\"" 0 0 ∷ on "\"31.04.2024\"" 2 2 ∷
    on "\"2024/01/01\"" 2 2 ∷ on "\"01/01/2024\"" 2 2 ∷ on "\"01.01/2024\"" 2 2 ∷ on "\"1.1.2024\"" 2 2 ∷ on "\"01.01.02024\"" 2 2 ∷
    on "\"0a.01.2024\"" 2 2 ∷ on "\"01.0a.2024\"" 2 2 ∷ on "\"01.01.202a\"" 2 2 ∷ on "01.01.2024" 2 2 ∷ on "\"01.01.2024" 2 2 ∷ on "\" 01.01.202\"" 2 2 ∷
    on "\"12.31.2024\"" 2 2 ∷
    dated "YYYY/MM/DD" "\"2024/02/29\"" "\"12:00:00\"" 0 0 ∷
    dated "YYYY/MM/DD" "\"2023/02/29\"" "\"12:00:00\"" 2 2 ∷
    dated "YYYY/MM/DD" "\"0001/12/31\"" "\"12:00:00\"" 0 0 ∷
    dated "YYYY/MM/DD" "\"0000/12/31\"" "\"12:00:00\"" 2 2 ∷
    dated "YYYY/MM/DD" "\"2024/31/12\"" "\"12:00:00\"" 2 2 ∷
    dated "YYYY/MM/DD" "\"2024.12.31\"" "\"12:00:00\"" 2 2 ∷
    dated "YYYY/MM/DD" "\"2024/12.31\"" "\"12:00:00\"" 2 2 ∷
    dated "YYYY/MM/DD" "\"202a/12/31\"" "\"12:00:00\"" 2 2 ∷
    dated "YYYY/MM/DD" "\"2024/1a/31\"" "\"12:00:00\"" 2 2 ∷
    dated "YYYY/MM/DD" "\"2024/12/3a\"" "\"12:00:00\"" 2 2 ∷
    dated "YYYY/MM/DD" "\"31.12.2024\"" "\"12:00:00\"" 2 2 ∷
    at "\"00:00:00\"" 0 0 ∷ at "\"23:59:59\"" 0 0 ∷ at "\"24:00:00\"" 2 2 ∷ at "\"23:60:00\"" 2 2 ∷ at "\"23:59:60\"" 2 2 ∷
    at "\"23.59:59\"" 2 2 ∷ at "\"23:59.59\"" 2 2 ∷ at "\"2a:00:00\"" 2 2 ∷ at "\"20:a0:00\"" 2 2 ∷ at "\"20:00:0a\"" 2 2 ∷
    at "\"9:00:00\"" 2 2 ∷ at "\"009:00:00\"" 2 2 ∷ at "23:59:59" 2 2 ∷ at "\"23:59:59" 2 2 ∷
    []

-- a header by its `mod` line, and by the lines after it: two blank ones at the end, so that a missing line has another place than a wrong one
abbrev pub moded : String → ℕ → ℕ → Pair
moded m v l = header_case (bytes "mod; " ++ (bytes m ++ bytes "\nsrc; \"\"; \"01.01.2024\"; \"12:00:00\"\nchs; \"ASCII\"\nver; \"\"\nifv; \"\"\n")) gives heads v l

abbrev pub headed : String → ℕ → ℕ → Pair
headed more v l =
    header_case (bytes "mod; YYYY/MM/DD; HH:MM:SS; free\nsrc; \"\"; \"2024/01/01\"; \"12:00:00\"\n" ++ (bytes more ++ bytes "\n\n")) gives heads v l

unfoldable pub header_points : List Pair
header_points =
    -- `mod`, with `DD.MM.YYYY` or `YYYY/MM/DD`, `HH:MM:SS`, and `free` or `aligned`
    moded "DD.MM.YYYY; HH:MM:SS; free" 0 0 ∷ moded "DD.MM.YYYY ;HH:MM:SS;  aligned" 0 0 ∷ moded "YYYY/MM/DD; HH:MM:SS; free" 2 2 ∷
    moded "DD.MM.YYYY; HH:MM; free" 2 1 ∷ moded "DD.MM.YYYY; HH:MM:SS; fixed" 2 1 ∷ moded "DD.MM.YYYY; HH:MM:SS" 2 1 ∷
    moded "DD.MM.YYYY; HH:MM:SS; free; free" 2 1 ∷ moded "DD/MM/YYYY; HH:MM:SS; free" 2 1 ∷ moded "YYYY.MM.DD; HH:MM:SS; free" 2 1 ∷
    moded "\"DD.MM.YYYY\"; HH:MM:SS; free" 2 1 ∷
    -- quoted `ASCII`, `ISO8859-1` or `ISO-8859-1`
    headed "chs; \"ASCII\"\nver; \"\"\nifv; \"\"\n" 0 0 ∷
    headed "chs; \"ISO8859-1\"\nver; \"\"\nifv; \"\"\n" 0 0 ∷
    headed "chs; \"ISO-8859-1\"\nver; \"\"\nifv; \"\"\n" 0 0 ∷
    headed "chs; ASCII\n" 2 3 ∷ headed "chs; \"ISO8859-2\"\n" 2 3 ∷ headed "chs; \"ASCII \"\n" 2 3 ∷ headed "chs; \"\"\n" 2 3 ∷ headed "chs; \"ASCII\"; \"ASCII\"\n" 2 3 ∷
    -- once each, at most once, in any order
    headed "fft; \"\"\nifv; \"\"\ndve; \"\"\nver; \"\"\nchs; \"ASCII\"\n" 0 0 ∷
    headed "src; \"\"; \"2024/01/01\"; \"12:00:00\"\n" 2 3 ∷
    headed "chs; \"ASCII\"\nchs; \"ASCII\"\n" 2 4 ∷
    headed "ver; \"\"\nver; \"\"\n" 2 4 ∷
    headed "ifv; \"\"\nifv; \"\"\n" 2 4 ∷
    headed "dve; \"\"\ndve; \"\"\n" 2 4 ∷
    headed "fft; \"\"\nfft; \"\"\n" 2 4 ∷
    headed "ver; \"\"\nifv; \"\"\n" 2 6 ∷
    headed "chs; \"ASCII\"\nifv; \"\"\n" 2 6 ∷
    headed "chs; \"ASCII\"\nver; \"\"\n" 2 6 ∷
    (header_case (bytes "mod; YYYY/MM/DD; HH:MM:SS; free\nchs; \"ASCII\"\nver; \"\"\nifv; \"\"\n") gives heads 2 4) ∷
    -- The others hold one text.
    headed "ver; 1\n" 2 3 ∷ headed "ver; \"1\"; \"1\"\n" 2 3 ∷ headed "ifv; 1\n" 2 3 ∷ headed "dve; 1\n" 2 3 ∷ headed "fft;\n" 2 3 ∷
    (header_case (bytes "mod; YYYY/MM/DD; HH:MM:SS; free\nsrc; x; \"2024/01/01\"; \"12:00:00\"\n\n") gives heads 2 2) ∷
    (header_case (bytes "mod; YYYY/MM/DD; HH:MM:SS; free\nsrc; \"\"; \"2024/01/01\"\n\n") gives heads 2 2) ∷
    (header_case (bytes "mod; YYYY/MM/DD; HH:MM:SS; free\nsrc; \"\"; \"2024/01/01\"; \"12:00:00\"; \"\"\n\n") gives heads 2 2) ∷
    -- no other line stands in it
    headed "rec; 1\n" 2 3 ∷ headed "x; 1\n" 2 3 ∷ headed "ver\n" 2 3 ∷ headed "ver; \"¡\"\n" 2 3 ∷
    []

unfoldable pub trailer_points : List Pair
trailer_points =
    (file_case (head ++ bytes "eof; 0") gives files 0 0 0) ∷
    (file_case (head ++ bytes "eof; 000000000000000000\r\n\n") gives files 0 0 0) ∷
    (file_case (head ++ bytes "eof; 1\n") gives files 3 0 1) ∷
    (file_case (head ++ bytes "eof; -1\n") gives files 3 0 1) ∷
    (file_case (head ++ bytes "eof;\n") gives files 3 0 1) ∷
    (file_case (head ++ bytes "eof; 0; 0\n") gives files 3 0 1) ∷
    (file_case (head ++ bytes "eof; 0 \u{7f}\n") gives files 3 0 1) ∷
    (file_case (head ++ bytes "eof; 0\n\neof; 0\n") gives files 3 0 3) ∷
    (file_case (head ++ versions "end; 0\n") gives files 3 0 0) ∷
    (file_case (head ++ (versions "end; 0\n" ++ bytes "eof; 1\n")) gives files 0 0 0) ∷
    (file_case (head ++ (versions "end; 0\n" ++ bytes "eof; 0\n")) gives files 3 0 1) ∷
    (file_case (head ++ (versions "end; 0\n" ++ bytes "eof; -1\n")) gives files 3 0 1) ∷
    -- Lines after an `eof` and before a further `tbl` belong to no section.
    (file_case (head ++ (bytes "eof; 1\nrec; x\n" ++ versions "end; 0\n")) gives files 3 0 2) ∷
    []

unfoldable pub spellings : List Pair
spellings =
    command_points ++
    (text_points ++ (number_points ++ (byte_points ++ (format_points ++ (turn_points ++ (date_points ++ (header_points ++ trailer_points)))))))

spelt : map (λ (p : Pair). answer p.input) spellings ≡ map (λ (p : Pair). p.output) spellings
unfolding open_all answer spellings command_points text_points number_points byte_points format_points turn_points date_points header_points trailer_points versions links head
spelt = refl
