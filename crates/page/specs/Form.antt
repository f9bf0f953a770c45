-- The written file.
use Rattle.std.specs.Prelude.{Bool, true, false, List, [], ◌∷◌, ◌++◌, map, ℕ, zero, suc, ◌+◌, ◌/◌, ◌%◌, ltb, length, None, Option, Some}
use Prim.Native.String.{String}
use Rattle.page.specs.Bytes.{Bytes, bytes, pick}
use Rattle.page.specs.Fields.{quote}
use Rattle.page.specs.Tables.{Named, Table, table_at}
use Rattle.page.specs.Head.{Head}
use Rattle.page.specs.Records.{Datum, number, missing, words, Record}
use Rattle.page.specs.Model.{Content, Model}
use Rattle.page.specs.declared.LineEnd.{LineEnd}
use Rattle.page.specs.declared.LineEnd.TheVariants as E
use Rattle.page.specs.declared.Owner.TheVariants as O
use Rattle.page.specs.declared.Column.{Column}
use Rattle.page.specs.declared.Date.{Date}
use Rattle.page.specs.declared.Time.{Time}

-- "Each line ends in LF."
unfoldable pub line_end : LineEnd → Bytes
line_end E.Lf = 10 ∷ []

-- "One space after each separating `;`, none elsewhere outside texts"
unfoldable pub separated : List Bytes → Bytes
separated [] = []
separated (f ∷ fs) = bytes "; " ++ (f ++ separated fs)

unfoldable pub line : LineEnd → String → List Bytes → Bytes
line e command fs = bytes command ++ (separated fs ++ line_end e)

-- "Numbers without leading zeros": at most k + 1 digits
unfoldable pub decimal_in : ℕ → ℕ → Bytes
decimal_in zero n = (48 + n % 10) ∷ []
decimal_in (suc k) n = pick (ltb n 10) ((48 + n) ∷ []) (decimal_in k (n / 10) ++ ((48 + n % 10) ∷ []))

unfoldable pub decimal : ℕ → Bytes
decimal n = decimal_in 19 n

-- the last k digits
unfoldable pub padded : ℕ → ℕ → Bytes
padded zero n = []
padded (suc k) n = padded k (n / 10) ++ ((48 + n % 10) ∷ [])

-- "texts quoted", a quote doubled
unfoldable pub doubled : Bytes → Bytes
doubled [] = []
doubled (b ∷ bs) = pick (quote b) (b ∷ b ∷ doubled bs) (b ∷ doubled bs)

unfoldable pub quoted : Bytes → Bytes
quoted t = 34 ∷ (doubled t ++ (34 ∷ []))

-- "the source date rewritten so": DD.MM.YYYY; HH:MM:SS
unfoldable pub date_text : Date → Bytes
date_text d = padded 2 d.day ++ (bytes "." ++ (padded 2 d.month ++ (bytes "." ++ padded 4 d.year)))

unfoldable pub time_text : Time → Bytes
time_text t = padded 2 t.hour ++ (bytes ":" ++ (padded 2 t.minute ++ (bytes ":" ++ padded 2 t.second)))

-- "`ISO8859-1` spelt thus"
unfoldable pub charset_name : Bool → Bytes
charset_name true = bytes "ISO8859-1"
charset_name false = bytes "ASCII"

-- "present ones only"
unfoldable pub line_if : LineEnd → String → Option Bytes → Bytes
line_if e command None = []
line_if e command (Some t) = line e command (quoted t ∷ [])

-- "Order mod, src, chs, ver, ifv, dve, fft"
unfoldable pub head_form : LineEnd → Head → Bytes
head_form e h =
    line e "mod" (bytes "DD.MM.YYYY" ∷ bytes "HH:MM:SS" ∷ bytes "free" ∷ []) ++
    (line e "src" (quoted h.source ∷ quoted (date_text h.date) ∷ quoted (time_text h.time) ∷ []) ++
    (line e "chs" (quoted (charset_name h.latin) ∷ []) ++
    (line e "ver" (quoted h.ver ∷ []) ++
    (line e "ifv" (quoted h.ifv ∷ []) ++ (line_if e "dve" h.dve ++ line_if e "fft" h.fft)))))

-- "formats with the sizes above"
unfoldable pub format_text : Column → Bytes
format_text c =
    pick c.text (bytes "char[" ++ (decimal c.size ++ bytes "]")) (bytes "num[" ++ (decimal c.size ++ bytes ".0]"))

-- a missing number is an empty field
unfoldable pub datum_text : Datum → Bytes
datum_text (number n) = decimal n
datum_text missing = []
datum_text (words o t) = quoted t

-- a suggestion's mark, of field i
unfoldable pub mark_line : LineEnd → ℕ → Bytes
mark_line e i = line e "com" (quoted (bytes "SUGGESTED " ++ decimal i) ∷ [])

unfoldable pub mark_of : LineEnd → ℕ → Datum → Bytes
mark_of e i (number n) = []
mark_of e i missing = []
mark_of e i (words O.Operator t) = []
mark_of e i (words O.Suggestion t) = mark_line e i

-- "marks stand directly before their record": those of the values, the first counted as i
unfoldable pub marks : LineEnd → ℕ → Record → Bytes
marks e i [] = []
marks e i (v ∷ vs) = mark_of e i v ++ marks e (suc i) vs

unfoldable pub record_form : LineEnd → Record → Bytes
record_form e vs = marks e 1 vs ++ line e "rec" (map datum_text vs)

unfoldable pub records_form : LineEnd → List Record → Bytes
records_form e [] = []
records_form e (r ∷ rs) = record_form e r ++ records_form e rs

unfoldable pub table_head : LineEnd → Table → Bytes
table_head e t =
    line e "tbl" (bytes t.name ∷ []) ++
    (line e "atr" (map (λ (c : Named). bytes c.name) t.columns) ++
    line e "frm" (map (λ (c : Named). format_text c.column) t.columns))

unfoldable pub content_form : LineEnd → Content → Bytes
content_form e c =
    table_head e (table_at c.table) ++ (records_form e c.records ++ line e "end" (decimal (length c.records) ∷ []))

-- "sections and records keep their order"
unfoldable pub tables_form : LineEnd → List Content → Bytes
tables_form e [] = []
tables_form e (c ∷ cs) = content_form e c ++ tables_form e cs

unfoldable pub form_of : LineEnd → Model → Bytes
form_of e m = head_form e m.head ++ (tables_form e m.tables ++ line e "eof" (decimal (length m.tables) ∷ []))
