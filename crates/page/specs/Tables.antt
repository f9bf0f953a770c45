-- The eight tables of document 01, and the two of document 02 (E3): "The columns, kinds, ranges and keys stand once".
use Rattle.std.specs.Prelude.{Bool, true, false, List, [], ◌∷◌, map, ℕ, length, get_or}
use Prim.Native.String.{String}
use Rattle.page.specs.Bytes.{Bytes}
use Rattle.page.specs.Lines.{find}
use Rattle.page.specs.declared.Column.{Column}

pub record Named : Type 0 where
  pub name : String
  pub column : Column

-- a reference: the columns (from 0) that hold the primary key of a record of the named table
pub record Reference : Type 0 where
  pub columns : List ℕ
  pub target : String

-- a rule of a table's records
pub data Rule : Type 0 where
  -- "In 225 and 247 the two points, type and number together, differ": p is the column, from 0, where the four of them begin
  points_differ : (p : ℕ) → Rule
  -- "With LEITSTELLENKENNUNG 0, LinienID, RichtungsID and ASBID are empty, and ZUB_LI_NR and ZUB_ORT_REF_ORT lie above 0; with 1 to 255 the
  -- three texts are filled, and ZUB_LI_NR, ZUB_LI_RI_NR and ZUB_ORT_REF_ORT are 0": c is the column, from 0, of LEITSTELLENKENNUNG, with the
  -- three numbers directly behind it, and x that where the three texts begin
  feeder_combined : (c x : ℕ) → Rule

-- its number: 14 is "the two points are the same", and "25, wrong combination"
abbrev pub rule_number : Rule → ℕ
rule_number (points_differ p) = 14
rule_number (feeder_combined c x) = 25

pub record Table : Type 0 where
  pub number : ℕ
  pub name : String
  pub columns : List Named
  pub references : List Reference
  pub rules : List Rule

-- "P marks the primary key, C the second key"; F a text that may be marked and filled; N a number that may be missing
pub data Mark : Type 0 where
  plain P C PC F N : Mark

abbrev pub in_primary : Mark → Bool
in_primary plain = false
in_primary P = true
in_primary C = false
in_primary PC = true
in_primary F = false
in_primary N = false

abbrev pub in_second : Mark → Bool
in_second plain = false
in_second P = false
in_second C = true
in_second PC = true
in_second F = false
in_second N = false

abbrev pub may_fill : Mark → Bool
may_fill plain = false
may_fill P = false
may_fill C = false
may_fill PC = false
may_fill F = true
may_fill N = false

-- "Where a column there allows NULL"
abbrev pub may_miss : Mark → Bool
may_miss plain = false
may_miss P = false
may_miss C = false
may_miss PC = false
may_miss F = false
may_miss N = true

-- a column's kind: a number, a day, a text
pub data Kind : Type 0 where
  a_number a_day a_text : Kind

abbrev pub is_text : Kind → Bool
is_text a_number = false
is_text a_day = false
is_text a_text = true

abbrev pub is_day : Kind → Bool
is_day a_number = false
is_day a_day = true
is_day a_text = false

abbrev pub column_of : Kind → ℕ → ℕ → ℕ → Mark → Column
column_of k lo hi size m =
    record {
      text = is_text k;
      day = is_day k;
      lo = lo;
      hi = hi;
      size = size;
      primary = in_primary m;
      second = in_second m;
      fillable = may_fill m;
      optional = may_miss m;
    }

-- a number from lo to hi, written with its 452 decimal size; a text of at most `size` bytes
abbrev pub num : String → ℕ → ℕ → ℕ → Mark → Named
num name lo hi size m = record { name = name; column = column_of a_number lo hi size m }

abbrev pub char : String → ℕ → Mark → Named
char name size m = record { name = name; column = column_of a_text 0 size size m }

-- "VER_GUELTIGKEIT and BETRIEBSTAG must be Gregorian dates": within their range in document 01
abbrev pub day : String → Mark → Named
day name m = record { name = name; column = column_of a_day 1 99999999 8 m }

abbrev pub version : Mark → Named
version m = num "BASIS_VERSION" 1 999999999 9 m

abbrev pub day_type : Mark → Named
day_type m = num "TAGESART_NR" 1 999 3 m

-- the columns that 225 and 247 share
abbrev pub region : Named
region = num "BEREICH_NR" 0 252 3 P

abbrev pub points : List Named → List Named
points more =
    num "ONR_TYP_NR" 1 2 2 P ∷ num "ORT_NR" 1 999999 6 P ∷ num "UEB_ZIEL_TYP" 1 2 2 P ∷ num "UEB_ZIEL" 1 999999 6 P ∷ more

-- the columns that 432 and 232 share
abbrev pub connection : Named
connection = num "EINAN_NR" 1 32764 5 P

-- the lines, directions, stops and points that 432 has, each for the feeder and for what it meets
abbrev pub line_number : String → ℕ → Named
line_number name lo = num name lo 999 6 plain

abbrev pub direction : String → Named
direction name = num name 0 2 3 plain

abbrev pub stop : String → ℕ → Mark → Named
stop name lo m = num name lo 999999 6 m

abbrev pub point_type : String → Named
point_type name = num name 1 99 2 N

-- seconds since midnight, and seconds
abbrev pub clock : String → Named
clock name = num name 0 129599 6 P

abbrev pub seconds : String → Named
seconds name = num name 0 65532 5 plain

abbrev pub to : List ℕ → String → Reference
to columns target = record { columns = columns; target = target }

-- "(1) every table but 485 by V to 485"
abbrev pub to_version : Reference
to_version = to (0 ∷ []) "MENGE_BASIS_VERSIONEN"

abbrev pub table : ℕ → String → List Named → List Reference → List Rule → Table
table number name columns references rules =
    record { number = number; name = name; columns = columns; references = references; rules = rules }

unfoldable pub all_tables : List Table
all_tables =
    table 485 "MENGE_BASIS_VERSIONEN" (version P ∷ char "BASIS_VERSION_TEXT" 40 F ∷ []) [] [] ∷
    table 993 "BASIS_VER_GUELTIGKEIT" (day "VER_GUELTIGKEIT" P ∷ version plain ∷ []) (to (1 ∷ []) "MENGE_BASIS_VERSIONEN" ∷ []) [] ∷
    table 348 "FIRMENKALENDER"
    (version P ∷ day "BETRIEBSTAG" P ∷ char "BETRIEBSTAG_TEXT" 40 F ∷ day_type plain ∷ [])
    (to_version ∷ to (0 ∷ 3 ∷ []) "MENGE_TAGESART" ∷ []) [] ∷
    table 290 "MENGE_TAGESART" (version P ∷ day_type P ∷ char "TAGESART_TEXT" 40 F ∷ []) (to_version ∷ []) [] ∷
    table 998 "MENGE_ONR_TYP"
    (version PC ∷ num "ONR_TYP_NR" 1 7 2 P ∷ char "STR_ONR_TYP" 6 C ∷ char "ONR_TYP_TEXT" 40 F ∷ [])
    (to_version ∷ []) [] ∷
    table 332 "MENGE_FAHRTART" (version PC ∷ num "FAHRTART_NR" 1 4 2 P ∷ char "STR_FAHRTART" 6 C ∷ []) (to_version ∷ []) [] ∷
    table 225 "REC_UEB" (version P ∷ region ∷ points (num "UEB_LAENGE" 1 81890 6 plain ∷ []))
    (to_version ∷ to (0 ∷ 2 ∷ []) "MENGE_ONR_TYP" ∷ to (0 ∷ 4 ∷ []) "MENGE_ONR_TYP" ∷ []) (points_differ 2 ∷ []) ∷
    table 247 "UEB_FZT" (version P ∷ region ∷ num "FGR_NR" 1 999999999 9 P ∷ points (num "UEB_FAHRZEIT" 1 65532 6 plain ∷ []))
    (to_version ∷ to (0 ∷ 1 ∷ 3 ∷ 4 ∷ 5 ∷ 6 ∷ []) "REC_UEB" ∷ []) (points_differ 3 ∷ []) ∷
    table 432 "EINZELANSCHLUSS"
    (version P ∷ connection ∷ char "ANSCHLUSS_NAME" 40 F ∷ char "ANSCHLUSS_GRUPPE" 6 plain ∷ num "LEITSTELLENKENNUNG" 0 255 3 plain ∷
    line_number "ZUB_LI_NR" 0 ∷ direction "ZUB_LI_RI_NR" ∷ stop "ZUB_ORT_REF_ORT" 0 plain ∷
    point_type "ZUB_ONR_TYP_NR" ∷ stop "ZUB_ORT_NR" 1 N ∷ stop "VON_ORT_REF_ORT" 1 N ∷
    char "LinienID" 6 plain ∷ char "RichtungsID" 6 plain ∷ char "ASBID" 10 plain ∷
    line_number "ABB_LI_NR" 1 ∷ direction "ABB_LI_RI_NR" ∷ stop "ABB_ORT_REF_ORT" 1 plain ∷
    point_type "ABB_ONR_TYP_NR" ∷ stop "ABB_ORT_NR" 1 N ∷ stop "NACH_ORT_REF_ORT" 1 N ∷ [])
    (to_version ∷ []) (feeder_combined 4 11 ∷ []) ∷
    table 232 "REC_UMS"
    (version P ∷ connection ∷ day_type P ∷ clock "UMS_BEGINN" ∷ clock "UMS_ENDE" ∷
    seconds "UMS_MIN" ∷ seconds "UMS_MAX" ∷ seconds "MAX_VERZ_MAN" ∷ seconds "MAX_VERZ_AUTO" ∷ [])
    (to_version ∷ to (0 ∷ 1 ∷ []) "EINZELANSCHLUSS" ∷ to (0 ∷ 2 ∷ []) "MENGE_TAGESART" ∷ []) [] ∷
    []

-- how many tables there are, the columns of the widest, and the most references of one; that it is so is computed in TableLaws
abbrev pub TABLES : ℕ
TABLES = 10

abbrev pub WIDEST : ℕ
WIDEST = 20

abbrev pub MOST : ℕ
MOST = 3

-- table t of the list, and its column k, from 0; past the end, nothing
abbrev pub no_table : Table
no_table = table 0 "" [] [] []

abbrev pub no_column : Named
no_column = num "" 0 0 0 plain

unfoldable pub table_at : ℕ → Table
table_at t = get_or all_tables t no_table

unfoldable pub number_at : ℕ → ℕ
number_at t = (table_at t).number

unfoldable pub columns : ℕ → List Named
columns t = (table_at t).columns

unfoldable pub width : ℕ → ℕ
width t = length (columns t)

unfoldable pub column_at : ℕ → ℕ → Column
column_at t k = (get_or (columns t) k no_column).column

unfoldable pub name_at : ℕ → ℕ → String
name_at t k = (get_or (columns t) k no_column).name

unfoldable pub rules : ℕ → List Rule
rules t = (table_at t).rules

-- a table by its name: its place in the list, or one past the last
unfoldable pub table_named : Bytes → ℕ
table_named w = find 0 (map (λ (t : Table). t.name) all_tables) w
