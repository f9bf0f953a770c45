-- The ten tables, computed as two lists: each column at its bounds, the keys, the references, and the names and formats that are written.
use Rattle.std.specs.Prelude.{◌≡◌, refl, true, false, List, [], ◌∷◌, ◌++◌, map, ℕ}
use Prim.Native.String.{String}
use Rattle.page.specs.Bytes.{Bytes, bytes}
use Rattle.page.specs.Tables.{Table, all_tables}
use Rattle.page.specs.Open.{open_all}
use Rattle.page.specs.Cases.{file_case, form_case, a_form, answer, files, versions, day_types, valid_days, calendar, point_types, links, connections, transfers, head}
use Rattle.page.specs.CallCases.{record_case, mark_case, a_verdict, a_mark, reply, Exchange, ◌replies◌}
use Rattle.page.specs.Settled.{Pair, ◌gives◌}

unfoldable pub trip_types : String → Bytes
trip_types more = bytes "tbl; MENGE_FAHRTART\natr; BASIS_VERSION; FAHRTART_NR; STR_FAHRTART\nfrm; num[9.0]; num[2.0]; char[6]\n" ++ bytes more

unfoldable pub travel_times : String → Bytes
travel_times more =
    bytes "tbl; UEB_FZT\natr; BASIS_VERSION; BEREICH_NR; FGR_NR; ONR_TYP_NR; ORT_NR; UEB_ZIEL_TYP; UEB_ZIEL; UEB_FAHRZEIT\n" ++
    (bytes "frm; num[9.0]; num[3.0]; num[9.0]; num[2.0]; num[6.0]; num[2.0]; num[6.0]; num[6.0]\n" ++ bytes more)

-- a record of a table passes, or is refused
abbrev pub has : String → String → Exchange
has name fields = record_case name fields replies a_verdict 0

abbrev pub lacks : String → ℕ → String → Exchange
lacks name v fields = record_case name fields replies a_verdict v

-- V is BASIS_VERSION, 1..999999999; texts of 40 bytes
unfoldable pub version_columns : List Exchange
version_columns =
    has "MENGE_BASIS_VERSIONEN" "1; \"\"" ∷
    has "MENGE_BASIS_VERSIONEN" "999999999; \"1234567890123456789012345678901234567890\"" ∷
    lacks "MENGE_BASIS_VERSIONEN" 13 "0; \"\"" ∷
    lacks "MENGE_BASIS_VERSIONEN" 13 "1000000000; \"\"" ∷
    lacks "MENGE_BASIS_VERSIONEN" 13 "1; \"12345678901234567890123456789012345678901\"" ∷
    has "BASIS_VER_GUELTIGKEIT" "20240101; 1" ∷
    has "BASIS_VER_GUELTIGKEIT" "20240101; 999999999" ∷
    lacks "BASIS_VER_GUELTIGKEIT" 13 "20240101; 0" ∷
    lacks "BASIS_VER_GUELTIGKEIT" 13 "20240101; 1000000000" ∷
    lacks "BASIS_VER_GUELTIGKEIT" 13 "100000000; 1" ∷
    lacks "BASIS_VER_GUELTIGKEIT" 13 "0; 1" ∷
    []

unfoldable pub day_columns : List Exchange
day_columns =
    has "FIRMENKALENDER" "1; 20240101; \"\"; 1" ∷
    has "FIRMENKALENDER" "999999999; 20240101; \"1234567890123456789012345678901234567890\"; 999" ∷
    lacks "FIRMENKALENDER" 13 "0; 20240101; \"\"; 1" ∷
    lacks "FIRMENKALENDER" 13 "1000000000; 20240101; \"\"; 1" ∷
    lacks "FIRMENKALENDER" 13 "1; 0; \"\"; 1" ∷
    lacks "FIRMENKALENDER" 13 "1; 100000000; \"\"; 1" ∷
    lacks "FIRMENKALENDER" 13 "1; 20240101; \"12345678901234567890123456789012345678901\"; 1" ∷
    lacks "FIRMENKALENDER" 13 "1; 20240101; \"\"; 0" ∷
    lacks "FIRMENKALENDER" 13 "1; 20240101; \"\"; 1000" ∷
    has "MENGE_TAGESART" "1; 1; \"\"" ∷
    has "MENGE_TAGESART" "999999999; 999; \"1234567890123456789012345678901234567890\"" ∷
    lacks "MENGE_TAGESART" 13 "0; 1; \"\"" ∷
    lacks "MENGE_TAGESART" 13 "1000000000; 1; \"\"" ∷
    lacks "MENGE_TAGESART" 13 "1; 0; \"\"" ∷
    lacks "MENGE_TAGESART" 13 "1; 1000; \"\"" ∷
    lacks "MENGE_TAGESART" 13 "1; 1; \"12345678901234567890123456789012345678901\"" ∷
    []

unfoldable pub type_columns : List Exchange
type_columns =
    has "MENGE_ONR_TYP" "1; 1; \"\"; \"\"" ∷
    has "MENGE_ONR_TYP" "999999999; 7; \"123456\"; \"1234567890123456789012345678901234567890\"" ∷
    lacks "MENGE_ONR_TYP" 13 "0; 1; \"\"; \"\"" ∷
    lacks "MENGE_ONR_TYP" 13 "1000000000; 1; \"\"; \"\"" ∷
    lacks "MENGE_ONR_TYP" 13 "1; 0; \"\"; \"\"" ∷
    lacks "MENGE_ONR_TYP" 13 "1; 8; \"\"; \"\"" ∷
    lacks "MENGE_ONR_TYP" 13 "1; 1; \"1234567\"; \"\"" ∷
    lacks "MENGE_ONR_TYP" 13 "1; 1; \"\"; \"12345678901234567890123456789012345678901\"" ∷
    has "MENGE_FAHRTART" "1; 1; \"\"" ∷
    has "MENGE_FAHRTART" "999999999; 4; \"123456\"" ∷
    lacks "MENGE_FAHRTART" 13 "0; 1; \"\"" ∷
    lacks "MENGE_FAHRTART" 13 "1000000000; 1; \"\"" ∷
    lacks "MENGE_FAHRTART" 13 "1; 0; \"\"" ∷
    lacks "MENGE_FAHRTART" 13 "1; 5; \"\"" ∷
    lacks "MENGE_FAHRTART" 13 "1; 1; \"1234567\"" ∷
    []

-- In 225 and 247 the two points, type and number together, differ.
unfoldable pub link_columns : List Exchange
link_columns =
    has "REC_UEB" "1; 0; 1; 1; 2; 1; 1" ∷
    has "REC_UEB" "999999999; 252; 2; 999999; 2; 999998; 81890" ∷
    has "REC_UEB" "1; 0; 2; 999998; 2; 999999; 1" ∷
    lacks "REC_UEB" 14 "1; 0; 2; 5; 2; 5; 1" ∷
    lacks "REC_UEB" 13 "0; 0; 1; 1; 2; 1; 1" ∷
    lacks "REC_UEB" 13 "1000000000; 0; 1; 1; 2; 1; 1" ∷
    lacks "REC_UEB" 13 "1; 253; 1; 1; 2; 1; 1" ∷
    lacks "REC_UEB" 13 "1; 0; 0; 1; 2; 1; 1" ∷
    lacks "REC_UEB" 13 "1; 0; 3; 1; 2; 1; 1" ∷
    lacks "REC_UEB" 13 "1; 0; 1; 0; 2; 1; 1" ∷
    lacks "REC_UEB" 13 "1; 0; 1; 1000000; 2; 1; 1" ∷
    lacks "REC_UEB" 13 "1; 0; 1; 1; 0; 1; 1" ∷
    lacks "REC_UEB" 13 "1; 0; 1; 1; 3; 1; 1" ∷
    lacks "REC_UEB" 13 "1; 0; 1; 1; 2; 0; 1" ∷
    lacks "REC_UEB" 13 "1; 0; 1; 1; 2; 1000000; 1" ∷
    lacks "REC_UEB" 13 "1; 0; 1; 1; 2; 1; 0" ∷
    lacks "REC_UEB" 13 "1; 0; 1; 1; 2; 1; 81891" ∷
    has "UEB_FZT" "1; 0; 1; 1; 1; 2; 1; 1" ∷
    has "UEB_FZT" "999999999; 252; 999999999; 2; 999999; 2; 999998; 65532" ∷
    has "UEB_FZT" "1; 0; 1; 2; 999998; 2; 999999; 1" ∷
    lacks "UEB_FZT" 14 "1; 0; 1; 1; 5; 1; 5; 1" ∷
    lacks "UEB_FZT" 13 "0; 0; 1; 1; 1; 2; 1; 1" ∷
    lacks "UEB_FZT" 13 "1000000000; 0; 1; 1; 1; 2; 1; 1" ∷
    lacks "UEB_FZT" 13 "1; 253; 1; 1; 1; 2; 1; 1" ∷
    lacks "UEB_FZT" 13 "1; 0; 0; 1; 1; 2; 1; 1" ∷
    lacks "UEB_FZT" 13 "1; 0; 1000000000; 1; 1; 2; 1; 1" ∷
    lacks "UEB_FZT" 13 "1; 0; 1; 0; 1; 2; 1; 1" ∷
    lacks "UEB_FZT" 13 "1; 0; 1; 3; 1; 2; 1; 1" ∷
    lacks "UEB_FZT" 13 "1; 0; 1; 1; 0; 2; 1; 1" ∷
    lacks "UEB_FZT" 13 "1; 0; 1; 1; 1000000; 2; 1; 1" ∷
    lacks "UEB_FZT" 13 "1; 0; 1; 1; 1; 0; 1; 1" ∷
    lacks "UEB_FZT" 13 "1; 0; 1; 1; 1; 3; 1; 1" ∷
    lacks "UEB_FZT" 13 "1; 0; 1; 1; 1; 2; 0; 1" ∷
    lacks "UEB_FZT" 13 "1; 0; 1; 1; 1; 2; 1000000; 1" ∷
    lacks "UEB_FZT" 13 "1; 0; 1; 1; 1; 2; 1; 0" ∷
    lacks "UEB_FZT" 13 "1; 0; 1; 1; 1; 2; 1; 65533" ∷
    []

unfoldable pub connection_columns : List Exchange
connection_columns =
    has "EINZELANSCHLUSS" "1; 1; \"\"; \"\"; 0; 1; 0; 1; 1; 1; 1; \"\"; \"\"; \"\"; 1; 0; 1; 1; 1; 1" ∷
    has "EINZELANSCHLUSS" "999999999; 32764; \"\"; \"123456\"; 0; 999; 2; 999999; 99; 999999; 999999; \"\"; \"\"; \"\"; 1; 0; 1; ; ; " ∷
    has "EINZELANSCHLUSS" "1; 1; \"1234567890123456789012345678901234567890\"; \"\"; 0; 1; 0; 1; ; ; ; \"\"; \"\"; \"\"; 999; 2; 999999; 99; 999999; 999999" ∷
    has "EINZELANSCHLUSS" "1; 1; \"\"; \"\"; 0; 1; 0; 1; ; ; ; \"\"; \"\"; \"\"; 1; 0; 1; ; ; " ∷
    lacks "EINZELANSCHLUSS" 13 "0; 1; \"\"; \"\"; 0; 1; 0; 1; 1; 1; 1; \"\"; \"\"; \"\"; 1; 0; 1; 1; 1; 1" ∷
    lacks "EINZELANSCHLUSS" 13 "1000000000; 1; \"\"; \"\"; 0; 1; 0; 1; 1; 1; 1; \"\"; \"\"; \"\"; 1; 0; 1; 1; 1; 1" ∷
    lacks "EINZELANSCHLUSS" 13 "1; 0; \"\"; \"\"; 0; 1; 0; 1; 1; 1; 1; \"\"; \"\"; \"\"; 1; 0; 1; 1; 1; 1" ∷
    lacks "EINZELANSCHLUSS" 13 "1; 32765; \"\"; \"\"; 0; 1; 0; 1; 1; 1; 1; \"\"; \"\"; \"\"; 1; 0; 1; 1; 1; 1" ∷
    lacks "EINZELANSCHLUSS" 13 "1; 1; \"12345678901234567890123456789012345678901\"; \"\"; 0; 1; 0; 1; 1; 1; 1; \"\"; \"\"; \"\"; 1; 0; 1; 1; 1; 1" ∷
    lacks "EINZELANSCHLUSS" 13 "1; 1; \"\"; \"1234567\"; 0; 1; 0; 1; 1; 1; 1; \"\"; \"\"; \"\"; 1; 0; 1; 1; 1; 1" ∷
    lacks "EINZELANSCHLUSS" 13 "1; 1; \"\"; \"\"; 0; 1000; 0; 1; 1; 1; 1; \"\"; \"\"; \"\"; 1; 0; 1; 1; 1; 1" ∷
    lacks "EINZELANSCHLUSS" 13 "1; 1; \"\"; \"\"; 0; 1; 3; 1; 1; 1; 1; \"\"; \"\"; \"\"; 1; 0; 1; 1; 1; 1" ∷
    lacks "EINZELANSCHLUSS" 13 "1; 1; \"\"; \"\"; 0; 1; 0; 1000000; 1; 1; 1; \"\"; \"\"; \"\"; 1; 0; 1; 1; 1; 1" ∷
    lacks "EINZELANSCHLUSS" 13 "1; 1; \"\"; \"\"; 0; 1; 0; 1; 100; 1; 1; \"\"; \"\"; \"\"; 1; 0; 1; 1; 1; 1" ∷
    lacks "EINZELANSCHLUSS" 13 "1; 1; \"\"; \"\"; 0; 1; 0; 1; 0; 1; 1; \"\"; \"\"; \"\"; 1; 0; 1; 1; 1; 1" ∷
    lacks "EINZELANSCHLUSS" 13 "1; 1; \"\"; \"\"; 0; 1; 0; 1; 1; 0; 1; \"\"; \"\"; \"\"; 1; 0; 1; 1; 1; 1" ∷
    lacks "EINZELANSCHLUSS" 13 "1; 1; \"\"; \"\"; 0; 1; 0; 1; 1; 1000000; 1; \"\"; \"\"; \"\"; 1; 0; 1; 1; 1; 1" ∷
    lacks "EINZELANSCHLUSS" 13 "1; 1; \"\"; \"\"; 0; 1; 0; 1; 1; 1; 0; \"\"; \"\"; \"\"; 1; 0; 1; 1; 1; 1" ∷
    lacks "EINZELANSCHLUSS" 13 "1; 1; \"\"; \"\"; 0; 1; 0; 1; 1; 1; 1000000; \"\"; \"\"; \"\"; 1; 0; 1; 1; 1; 1" ∷
    lacks "EINZELANSCHLUSS" 13 "1; 1; \"\"; \"\"; 0; 1; 0; 1; 1; 1; 1; \"\"; \"\"; \"\"; 0; 0; 1; 1; 1; 1" ∷
    lacks "EINZELANSCHLUSS" 13 "1; 1; \"\"; \"\"; 0; 1; 0; 1; 1; 1; 1; \"\"; \"\"; \"\"; 1000; 0; 1; 1; 1; 1" ∷
    lacks "EINZELANSCHLUSS" 13 "1; 1; \"\"; \"\"; 0; 1; 0; 1; 1; 1; 1; \"\"; \"\"; \"\"; 1; 3; 1; 1; 1; 1" ∷
    lacks "EINZELANSCHLUSS" 13 "1; 1; \"\"; \"\"; 0; 1; 0; 1; 1; 1; 1; \"\"; \"\"; \"\"; 1; 0; 0; 1; 1; 1" ∷
    lacks "EINZELANSCHLUSS" 13 "1; 1; \"\"; \"\"; 0; 1; 0; 1; 1; 1; 1; \"\"; \"\"; \"\"; 1; 0; 1000000; 1; 1; 1" ∷
    lacks "EINZELANSCHLUSS" 13 "1; 1; \"\"; \"\"; 0; 1; 0; 1; 1; 1; 1; \"\"; \"\"; \"\"; 1; 0; 1; 0; 1; 1" ∷
    lacks "EINZELANSCHLUSS" 13 "1; 1; \"\"; \"\"; 0; 1; 0; 1; 1; 1; 1; \"\"; \"\"; \"\"; 1; 0; 1; 100; 1; 1" ∷
    lacks "EINZELANSCHLUSS" 13 "1; 1; \"\"; \"\"; 0; 1; 0; 1; 1; 1; 1; \"\"; \"\"; \"\"; 1; 0; 1; 1; 0; 1" ∷
    lacks "EINZELANSCHLUSS" 13 "1; 1; \"\"; \"\"; 0; 1; 0; 1; 1; 1; 1; \"\"; \"\"; \"\"; 1; 0; 1; 1; 1000000; 1" ∷
    lacks "EINZELANSCHLUSS" 13 "1; 1; \"\"; \"\"; 0; 1; 0; 1; 1; 1; 1; \"\"; \"\"; \"\"; 1; 0; 1; 1; 1; 0" ∷
    lacks "EINZELANSCHLUSS" 13 "1; 1; \"\"; \"\"; 0; 1; 0; 1; 1; 1; 1; \"\"; \"\"; \"\"; 1; 0; 1; 1; 1; 1000000" ∷
    -- where no NULL is allowed, and where LEITSTELLENKENNUNG is above 0
    lacks "EINZELANSCHLUSS" 12 "1; 1; \"\"; \"\"; 0; 1; ; 1; 1; 1; 1; \"\"; \"\"; \"\"; 1; 0; 1; 1; 1; 1" ∷
    lacks "EINZELANSCHLUSS" 12 "1; 1; \"\"; \"\"; 0; 1; 0; ; 1; 1; 1; \"\"; \"\"; \"\"; 1; 0; 1; 1; 1; 1" ∷
    lacks "EINZELANSCHLUSS" 12 "1; 1; \"\"; \"\"; 0; 1; 0; 1; 1; 1; 1; \"\"; \"\"; \"\"; 1; 0; ; 1; 1; 1" ∷
    has "EINZELANSCHLUSS" "1; 1; \"\"; \"\"; 255; 0; 0; 0; ; ; ; \"123456\"; \"123456\"; \"1234567890\"; 1; 0; 1; ; ; " ∷
    lacks "EINZELANSCHLUSS" 13 "1; 1; \"\"; \"\"; 256; 0; 0; 0; ; ; ; \"1\"; \"1\"; \"1\"; 1; 0; 1; ; ; " ∷
    lacks "EINZELANSCHLUSS" 13 "1; 1; \"\"; \"\"; 1; 0; 0; 0; ; ; ; \"1234567\"; \"1\"; \"1\"; 1; 0; 1; ; ; " ∷
    lacks "EINZELANSCHLUSS" 13 "1; 1; \"\"; \"\"; 1; 0; 0; 0; ; ; ; \"1\"; \"1234567\"; \"1\"; 1; 0; 1; ; ; " ∷
    lacks "EINZELANSCHLUSS" 13 "1; 1; \"\"; \"\"; 1; 0; 0; 0; ; ; ; \"1\"; \"1\"; \"12345678901\"; 1; 0; 1; ; ; " ∷
    []

unfoldable pub transfer_columns : List Exchange
transfer_columns =
    has "REC_UMS" "1; 1; 1; 0; 0; 0; 0; 0; 0" ∷
    has "REC_UMS" "999999999; 32764; 999; 129599; 129599; 65532; 65532; 65532; 65532" ∷
    lacks "REC_UMS" 13 "0; 1; 1; 0; 0; 0; 0; 0; 0" ∷
    lacks "REC_UMS" 13 "1000000000; 1; 1; 0; 0; 0; 0; 0; 0" ∷
    lacks "REC_UMS" 13 "1; 0; 1; 0; 0; 0; 0; 0; 0" ∷
    lacks "REC_UMS" 13 "1; 32765; 1; 0; 0; 0; 0; 0; 0" ∷
    lacks "REC_UMS" 13 "1; 1; 0; 0; 0; 0; 0; 0; 0" ∷
    lacks "REC_UMS" 13 "1; 1; 1000; 0; 0; 0; 0; 0; 0" ∷
    lacks "REC_UMS" 13 "1; 1; 1; 129600; 0; 0; 0; 0; 0" ∷
    lacks "REC_UMS" 13 "1; 1; 1; 0; 129600; 0; 0; 0; 0" ∷
    lacks "REC_UMS" 13 "1; 1; 1; 0; 0; 65533; 0; 0; 0" ∷
    lacks "REC_UMS" 13 "1; 1; 1; 0; 0; 0; 65533; 0; 0" ∷
    lacks "REC_UMS" 13 "1; 1; 1; 0; 0; 0; 0; 65533; 0" ∷
    lacks "REC_UMS" 13 "1; 1; 1; 0; 0; 0; 0; 0; 65533" ∷
    lacks "REC_UMS" 12 "1; 1; 1; ; 0; 0; 0; 0; 0" ∷
    lacks "REC_UMS" 12 "1; 1; 1; 0; 0; ; 0; 0; 0" ∷
    []

abbrev pub may : String → ℕ → Exchange
may name i = mark_case name i replies a_mark true

abbrev pub may_not : String → ℕ → Exchange
may_not name i = mark_case name i replies a_mark false

-- Only these may be marked: field 2 of 485, field 3 of 348, field 3 of 290, field 4 of 998; ANSCHLUSS_NAME may be marked
unfoldable pub marked_columns : List Exchange
marked_columns =
    may "MENGE_BASIS_VERSIONEN" 2 ∷ may_not "MENGE_BASIS_VERSIONEN" 0 ∷ may_not "MENGE_BASIS_VERSIONEN" 1 ∷ may_not "MENGE_BASIS_VERSIONEN" 3 ∷
    may_not "BASIS_VER_GUELTIGKEIT" 1 ∷ may_not "BASIS_VER_GUELTIGKEIT" 2 ∷
    may "FIRMENKALENDER" 3 ∷ may_not "FIRMENKALENDER" 2 ∷ may_not "FIRMENKALENDER" 4 ∷
    may "MENGE_TAGESART" 3 ∷ may_not "MENGE_TAGESART" 2 ∷ may_not "MENGE_TAGESART" 4 ∷
    may "MENGE_ONR_TYP" 4 ∷ may_not "MENGE_ONR_TYP" 3 ∷ may_not "MENGE_ONR_TYP" 5 ∷
    may_not "MENGE_FAHRTART" 2 ∷ may_not "MENGE_FAHRTART" 3 ∷
    may_not "REC_UEB" 7 ∷ may_not "UEB_FZT" 8 ∷
    may "EINZELANSCHLUSS" 3 ∷ may_not "EINZELANSCHLUSS" 2 ∷ may_not "EINZELANSCHLUSS" 4 ∷
    may_not "EINZELANSCHLUSS" 12 ∷ may_not "EINZELANSCHLUSS" 13 ∷ may_not "EINZELANSCHLUSS" 14 ∷
    may_not "REC_UMS" 9 ∷
    []

-- a table that has two records of one key, and stands first in its file
abbrev pub again : (String → Bytes) → ℕ → String → String → Pair
again of v one two =
    file_case (head ++ (of "rec; " ++ (bytes one ++ (bytes "\nrec; " ++ (bytes two ++ bytes "\nend; 2\neof; 1\n"))))) gives files v 1 5

-- P marks the primary key, C the second key: what differs belongs to no key
unfoldable pub key_points : List Pair
key_points =
    again versions 18 "1; \"a\"" "1; \"b\"" ∷
    again valid_days 18 "20240101; 1" "20240101; 2" ∷
    again calendar 18 "1; 20240101; \"a\"; 1" "1; 20240101; \"b\"; 2" ∷
    again day_types 18 "1; 1; \"a\"" "1; 1; \"b\"" ∷
    again point_types 18 "1; 1; \"a\"; \"a\"" "1; 1; \"b\"; \"b\"" ∷
    again point_types 19 "1; 1; \"a\"; \"a\"" "1; 2; \"a\"; \"b\"" ∷
    -- the first of 1, 2, 3, the first unsound section in file order, 17, 18, 19, 20
    (file_case (head ++ (point_types "rec; 1; 1; \"a\"; \"\"\nrec; 1; 2; \"a\"; \"\"\nrec; 1; 1; \"b\"; \"\"\nend; 3\n" ++ bytes "eof; 1\n")) gives files 18 1 6) ∷
    (file_case (head ++ (versions "end; 0\n" ++ (versions "end; 0\n" ++ bytes "tbl; x\neof; 3\n"))) gives files 7 3 1) ∷
    again trip_types 18 "1; 1; \"a\"" "1; 1; \"b\"" ∷
    again trip_types 19 "1; 1; \"a\"" "1; 2; \"a\"" ∷
    again links 18 "1; 0; 1; 1; 2; 1; 1" "1; 0; 1; 1; 2; 1; 2" ∷
    again travel_times 18 "1; 0; 1; 1; 1; 2; 1; 1" "1; 0; 1; 1; 1; 2; 1; 2" ∷
    again connections 18 "1; 1; \"a\"; \"a\"; 0; 1; 0; 1; ; ; ; \"\"; \"\"; \"\"; 1; 0; 1; ; ; "
    "1; 1; \"b\"; \"b\"; 1; 0; 0; 0; 1; 1; 1; \"1\"; \"1\"; \"1\"; 2; 1; 2; 1; 1; 1" ∷
    again transfers 18 "1; 1; 1; 0; 0; 0; 0; 0; 0" "1; 1; 1; 0; 0; 1; 1; 1; 1" ∷
    []

-- every table, with a record that differs from the first in a column of a key only, for each of them
unfoldable pub ten : Bytes
ten =
    head ++
    (versions "rec; 1; \"\"\nrec; 2; \"\"\nend; 2\n" ++
    (valid_days "rec; 20240101; 1\nrec; 20240102; 1\nend; 2\n" ++
    (day_types "rec; 1; 1; \"\"\nrec; 2; 1; \"\"\nrec; 1; 2; \"\"\nend; 3\n" ++
    (calendar "rec; 1; 20240101; \"\"; 2\nrec; 2; 20240101; \"\"; 1\nrec; 1; 20240102; \"\"; 2\nend; 3\n" ++
    (point_types "rec; 1; 1; \"a\"; \"\"\nrec; 2; 1; \"a\"; \"\"\nrec; 1; 2; \"b\"; \"\"\nrec; 2; 2; \"b\"; \"\"\nend; 4\n" ++
    (trip_types "rec; 1; 1; \"a\"\nrec; 2; 1; \"a\"\nrec; 1; 2; \"b\"\nend; 3\n" ++
    (links "rec; 1; 0; 1; 3; 2; 4; 5\nrec; 2; 0; 1; 3; 2; 4; 5\nrec; 1; 6; 1; 3; 2; 4; 5\nrec; 1; 0; 2; 3; 2; 4; 5\n" ++
    (bytes "rec; 1; 0; 1; 6; 2; 4; 5\nrec; 1; 0; 1; 3; 1; 4; 5\nrec; 1; 0; 1; 3; 2; 6; 5\nend; 7\n" ++
    (travel_times "rec; 1; 0; 9; 1; 3; 2; 4; 5\nrec; 2; 0; 9; 1; 3; 2; 4; 5\nrec; 1; 6; 9; 1; 3; 2; 4; 5\nrec; 1; 0; 8; 1; 3; 2; 4; 5\n" ++
    (bytes "rec; 1; 0; 9; 2; 3; 2; 4; 5\nrec; 1; 0; 9; 1; 6; 2; 4; 5\nrec; 1; 0; 9; 1; 3; 1; 4; 5\nrec; 1; 0; 9; 1; 3; 2; 6; 5\nend; 8\n" ++
    (connections "rec; 1; 5; \"\"; \"\"; 0; 1; 0; 1; ; ; ; \"\"; \"\"; \"\"; 1; 0; 1; ; ; \nrec; 2; 5; \"\"; \"\"; 0; 1; 0; 1; ; ; ; \"\"; \"\"; \"\"; 1; 0; 1; ; ; \n" ++
    (bytes "rec; 1; 6; \"\"; \"\"; 0; 1; 0; 1; ; ; ; \"\"; \"\"; \"\"; 1; 0; 1; ; ; \nend; 3\n" ++
    (transfers "rec; 1; 5; 2; 7; 8; 0; 0; 0; 0\nrec; 2; 5; 1; 7; 8; 0; 0; 0; 0\nrec; 1; 6; 2; 7; 8; 0; 0; 0; 0\n" ++
    (bytes "rec; 1; 5; 1; 7; 8; 0; 0; 0; 0\nrec; 1; 5; 2; 6; 8; 0; 0; 0; 0\nrec; 1; 5; 2; 7; 9; 0; 0; 0; 0\nend; 6\n" ++
    bytes "eof; 10\n"))))))))))))))

-- a table with one record, which stands first in its file, with what it refers to but for one record
abbrev pub lost : Bytes → Bytes → String → Pair
lost one others end = file_case (head ++ (one ++ (others ++ bytes end))) gives files 20 1 4

-- (1) every table but 485 by V to 485; (2) 348 to 290; in 225, (2) ONR_TYP_NR and (3) UEB_ZIEL_TYP, each with V, to 998; (2) 247 to 225 by its six
-- shared columns; REC_UMS refers to 432, 290 and 485.: what Connected has not
unfoldable pub reference_points : List Pair
reference_points =
    -- by V: each other reference is met
    lost (valid_days "rec; 20240101; 1\nend; 1\n") (versions "rec; 2; \"\"\nend; 1\n") "eof; 2\n" ∷
    lost (day_types "rec; 1; 2; \"\"\nend; 1\n") (versions "rec; 2; \"\"\nend; 1\n") "eof; 2\n" ∷
    lost (calendar "rec; 1; 20240101; \"\"; 3\nend; 1\n") (day_types "rec; 1; 3; \"\"\nend; 1\n") "eof; 2\n" ∷
    lost (point_types "rec; 1; 2; \"\"; \"\"\nend; 1\n") (versions "rec; 2; \"\"\nend; 1\n") "eof; 2\n" ∷
    lost (trip_types "rec; 1; 2; \"\"\nend; 1\n") (versions "rec; 2; \"\"\nend; 1\n") "eof; 2\n" ∷
    lost (links "rec; 1; 0; 1; 3; 2; 4; 5\nend; 1\n") (point_types "rec; 1; 1; \"a\"; \"\"\nrec; 1; 2; \"b\"; \"\"\nend; 2\n") "eof; 2\n" ∷
    lost (travel_times "rec; 1; 0; 9; 1; 3; 2; 4; 5\nend; 1\n") (links "rec; 1; 0; 1; 3; 2; 4; 5\nend; 1\n") "eof; 2\n" ∷
    lost (transfers "rec; 1; 5; 3; 7; 8; 0; 0; 0; 0\nend; 1\n")
    (day_types "rec; 1; 3; \"\"\nend; 1\n" ++ connections "rec; 1; 5; \"\"; \"\"; 0; 1; 0; 1; ; ; ; \"\"; \"\"; \"\"; 1; 0; 1; ; ; \nend; 1\n") "eof; 3\n" ∷
    -- 348 to 290
    lost (calendar "rec; 1; 20240101; \"\"; 3\nend; 1\n")
    (versions "rec; 1; \"\"\nrec; 3; \"\"\nend; 2\n" ++
    (day_types "rec; 3; 1; \"\"\nrec; 3; 3; \"\"\nrec; 1; 1; \"\"\nend; 3\n" ++ point_types "rec; 1; 3; \"\"; \"\"\nend; 1\n")) "eof; 4\n" ∷
    -- 225 to 998, by either point
    lost (links "rec; 1; 0; 1; 3; 2; 4; 5\nend; 1\n")
    (versions "rec; 1; \"\"\nrec; 2; \"\"\nend; 2\n" ++ point_types "rec; 2; 1; \"a\"; \"\"\nrec; 1; 2; \"b\"; \"\"\nend; 2\n") "eof; 3\n" ∷
    lost (links "rec; 1; 0; 1; 3; 2; 4; 5\nend; 1\n")
    (versions "rec; 1; \"\"\nrec; 2; \"\"\nend; 2\n" ++ point_types "rec; 1; 1; \"a\"; \"\"\nrec; 2; 2; \"b\"; \"\"\nend; 2\n") "eof; 3\n" ∷
    -- 247 to 225: what differs in one of the six columns is not met
    lost (travel_times "rec; 1; 0; 9; 1; 3; 2; 4; 5\nend; 1\n")
    (versions "rec; 1; \"\"\nend; 1\n" ++
    (links "rec; 2; 0; 1; 3; 2; 4; 5\nrec; 1; 9; 1; 3; 2; 4; 5\nrec; 1; 0; 2; 3; 2; 4; 5\n" ++
    bytes "rec; 1; 0; 1; 9; 2; 4; 5\nrec; 1; 0; 1; 3; 1; 4; 5\nrec; 1; 0; 1; 3; 2; 9; 5\nend; 6\n"))
    "eof; 3\n" ∷
    []

unfoldable pub ten_points : List Pair
ten_points =
    (file_case ten gives files 0 0 0) ∷
    -- formats with the sizes above (V num[9.0], TAGESART_NR num[3.0], others by their 452 decimal size)
    (form_case ten gives a_form ten) ∷
    []

-- the tables by their numbers
numbered : map (λ (t : Table). t.number) all_tables ≡ 485 ∷ 993 ∷ 348 ∷ 290 ∷ 998 ∷ 332 ∷ 225 ∷ 247 ∷ 432 ∷ 232 ∷ []
unfolding all_tables
numbered = refl

unfoldable pub column_points : List Exchange
column_points =
    version_columns ++ (day_columns ++ (type_columns ++ (link_columns ++ (connection_columns ++ (transfer_columns ++ marked_columns)))))

judged : map (λ (p : Exchange). reply p.input) column_points ≡ map (λ (p : Exchange). p.output) column_points
unfolding open_all reply column_points version_columns day_columns type_columns link_columns connection_columns transfer_columns marked_columns
judged = refl

unfoldable pub table_points : List Pair
table_points = key_points ++ (reference_points ++ ten_points)

tabled : map (λ (p : Pair). answer p.input) table_points ≡ map (λ (p : Pair). p.output) table_points
unfolding open_all answer table_points key_points reference_points ten_points ten versions day_types valid_days calendar point_types links connections transfers trip_types travel_times head
tabled = refl
