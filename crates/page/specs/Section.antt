-- A section's verdict: a machine over its lines, which counts records. Its records stand in Records.
use Rattle.std.specs.Prelude.{◌≡◌, Bool, true, false, not, ◌&&◌, List, [], ◌∷◌, ℕ, suc, ◌+◌, ◌-◌, eqb, leb, ltb, length, get_or, take, drop, Err, None, Ok, Option, Result, Some}
use Rattle.page.specs.Bytes.{Bytes, bytes, pick, same, until, keep, space, unpadded}
use Rattle.page.specs.Lines.{content, blank, command, rest, clean, Tbl, Atr, Frm, Rec, End, Com, Unknown}
use Rattle.page.specs.Fields.{fields, text_of, number_of, digit, digits, value}
use Rattle.page.specs.Dates.{real_day}
use Rattle.page.specs.Tables.{Named, Rule, points_differ, feeder_combined, rule_number, TABLES, number_at, width, rules, table_named}
use Rattle.page.specs.Order.{Order, order_of, arranged, standing, by_column}
use Rattle.page.specs.Marks.{remark_of, may_mark}
use Rattle.page.specs.declared.Number.{Number}
use Rattle.page.specs.declared.Number.TheVariants as N
use Rattle.page.specs.declared.Column.{Column}
use Rattle.page.specs.declared.Span.{Span}
use Rattle.page.specs.declared.Field.{Field}
use Rattle.page.specs.declared.Field.TheVariants as F
use Rattle.page.specs.declared.Remark.{Remark}
use Rattle.page.specs.declared.Remark.TheVariants as R
use Rattle.page.specs.declared.Phase.{Phase}
use Rattle.page.specs.declared.Phase.TheVariants as P
use Rattle.page.specs.declared.Outcome.{Outcome}

-- which of two steps
unfoldable pub choose : Bool → Result Phase ℕ → Result Phase ℕ → Result Phase ℕ
choose true x y = x
choose false x y = y

-- the first of two numbers that is one
abbrev pub first_of : ℕ → ℕ → ℕ
first_of v w = pick (eqb v 0) w v

-- `tbl; name`: 10, 7
unfoldable pub tbl_step : List Bytes → Result Phase ℕ
tbl_step fs =
    choose (eqb (length fs) 1)
    (choose (ltb (table_named (get_or fs 0 [])) TABLES) (Ok (P.Atr (table_named (get_or fs 0 [])))) (Err 7)) (Err 10)

-- "8 is now given exactly if the names are no such arrangement"
unfoldable pub atr_step : ℕ → List Bytes → Result Phase ℕ
atr_step t fs = choose (arranged (width t) (order_of t fs)) (Ok (P.Frm t)) (Err 8)

-- "A format is `num[n.0]` or `char[n]` as the column's kind asks, n from 1 to 255 without leading zeros": 9
abbrev pub no_digit : ℕ → Bool
no_digit b = not (digit b)

unfoldable pub size_ok : Bytes → Bool
size_ok w = digits w && not (eqb (get_or w 0 0) 48) && leb (value 0 w) 255

-- the name, the size, and the tail
unfoldable pub formed : Bytes → Bytes → Bytes → Bool
formed name tail w =
    same (take (length name) w) name && size_ok (take (until no_digit (drop (length name) w)) (drop (length name) w))
    && same (drop (length name + until no_digit (drop (length name) w)) w) tail

unfoldable pub format_ok : Bool → Bytes → Bool
format_ok true w = formed (bytes "char[") (bytes "]") w
format_ok false w = formed (bytes "num[") (bytes ".0]") w

-- "`frm` with one format a column"
unfoldable pub formats_ok : List Named → List Bytes → Bool
formats_ok [] [] = true
formats_ok [] (f ∷ fs) = false
formats_ok (c ∷ cs) [] = false
formats_ok (c ∷ cs) (f ∷ fs) = format_ok c.column.text f && formats_ok cs fs

unfoldable pub frm_step : ℕ → Order → List Bytes → Result Phase ℕ
frm_step t o fs = choose (formats_ok (standing t o) fs) (Ok (P.Rows t 0 0)) (Err 9)

-- the text of a record's field: its own bytes, and where it stands in the field, between the quotes
pub record Wording : Type 0 where
  pub own : Bytes
  pub span : Span

-- "Spaces at the end of a text in a record no longer belong to it": it ends before those that stand before the closing quote
abbrev pub own_span : Bytes → Span
own_span f = record { from = 1; to = keep space (take (length f - 1) f) }

abbrev pub worded : Bytes → Option Bytes → Option Wording
worded f None = None
worded f (Some t) = Some (record { own = unpadded t; span = own_span f })

unfoldable pub words_of : Bytes → Option Wording
words_of f = worded f (text_of f)

abbrev pub own_of : Option Wording → Option Bytes
own_of None = None
own_of (Some x) = Some x.own

unfoldable pub record_text : Bytes → Option Bytes
record_text f = own_of (words_of f)

-- "11 or 12, then 13": 13 is a number out of range, or a text over its size, a doubled quote counting once; "13 measures the trimmed text"
unfoldable pub text_field : ℕ → Option Wording → Field
text_field size None = F.Refused 11
text_field size (Some x) = pick (leb (length x.own) size) (F.Text x.span) (F.Refused 13)

-- "26, no such day, at its field directly after 13"
unfoldable pub day_field : Bool → ℕ → Field
day_field day n = pick (day && not (real_day n)) (F.Refused 26) (F.Number n)

unfoldable pub number_field : Bool → ℕ → ℕ → Number → Field
number_field day lo hi (N.Plus n) = pick (leb lo n && leb n hi) (day_field day n) (F.Refused 13)
number_field day lo hi (N.Minus n) = F.Refused 13
number_field day lo hi N.Nothing = F.Refused 12

-- "Where a column there allows NULL, an empty field is a missing number"; a field has no spaces around it
abbrev pub left_out : Bool → Bytes → Bool
left_out optional f = optional && eqb (length f) 0

unfoldable pub field_of : Column → Bytes → Field
field_of c f =
    pick c.text (text_field c.hi (words_of f))
    (pick (left_out c.optional f) F.Missing (number_field c.day c.lo c.hi (number_of f)))

-- all that the reading of a field asks of its column is the same of two columns
pub record ReadAlike (d c : Column) : Type 0 where
  pub text : d.text ≡ c.text
  pub day : d.day ≡ c.day
  pub lo : d.lo ≡ c.lo
  pub hi : d.hi ≡ c.hi
  pub optional : d.optional ≡ c.optional

-- the paper's number for what a field is read as
unfoldable pub field_number : Field → ℕ
field_number (F.Text sp) = 0
field_number (F.Number n) = 0
field_number F.Missing = 0
field_number (F.Refused v) = v

-- "each field from the left"
unfoldable pub first_wrong : List Named → List Bytes → ℕ
first_wrong [] fs = 0
first_wrong (c ∷ cs) [] = 0
first_wrong (c ∷ cs) (f ∷ fs) = first_of (field_number (field_of c.column f)) (first_wrong cs fs)

-- a record's number in field k, from 0
abbrev pub amount : Number → ℕ
amount (N.Plus n) = n
amount (N.Minus n) = 0
amount N.Nothing = 0

unfoldable pub amount_at : List Bytes → ℕ → ℕ
amount_at fs k = amount (number_of (get_or fs k []))

-- a record's text in field k, from 0, is empty
abbrev pub no_bytes : Option Bytes → Bool
no_bytes None = false
no_bytes (Some []) = true
no_bytes (Some (b ∷ bs)) = false

abbrev pub empty_at : List Bytes → ℕ → Bool
empty_at fs k = no_bytes (record_text (get_or fs k []))

-- "With LEITSTELLENKENNUNG 0, LinienID, RichtungsID and ASBID are empty, and ZUB_LI_NR and ZUB_ORT_REF_ORT lie above 0"
unfoldable pub own_feeder : ℕ → ℕ → List Bytes → Bool
own_feeder c x fs =
    (empty_at fs x && (empty_at fs (x + 1) && empty_at fs (x + 2)))
    && (not (eqb (amount_at fs (c + 1)) 0) && not (eqb (amount_at fs (c + 3)) 0))

-- "with 1 to 255 the three texts are filled, and ZUB_LI_NR, ZUB_LI_RI_NR and ZUB_ORT_REF_ORT are 0"
unfoldable pub foreign_feeder : ℕ → ℕ → List Bytes → Bool
foreign_feeder c x fs =
    (not (empty_at fs x) && (not (empty_at fs (x + 1)) && not (empty_at fs (x + 2))))
    && (eqb (amount_at fs (c + 1)) 0 && (eqb (amount_at fs (c + 2)) 0 && eqb (amount_at fs (c + 3)) 0))

-- whether a record's fields, by column, break a rule: "the two points are the same"; "wrong combination"
unfoldable pub broken : Rule → List Bytes → Bool
broken (points_differ p) fs = eqb (amount_at fs p) (amount_at fs (p + 2)) && eqb (amount_at fs (p + 1)) (amount_at fs (p + 3))
broken (feeder_combined c x) fs = not (pick (eqb (amount_at fs c) 0) (own_feeder c x fs) (foreign_feeder c x fs))

-- the number of the first rule that they break
unfoldable pub first_broken : List Rule → List Bytes → ℕ
first_broken [] fs = 0
first_broken (r ∷ rs) fs = pick (broken r fs) (rule_number r) (first_broken rs fs)

-- 15: the text that is marked is empty
unfoldable pub empty_marked : ℕ → List Bytes → Bool
empty_marked m fs = leb 1 m && empty_at fs (m - 1)

-- "`rec` 10, each field from the left, 14, 15 for a marked empty text"; "25, wrong combination, after 14 and before 15"
unfoldable pub rec_verdict : ℕ → Order → ℕ → List Bytes → ℕ
rec_verdict t o m fs =
    pick (eqb (length fs) (width t))
    (first_of (first_wrong (standing t o) fs) (first_of (first_broken (rules t) (by_column o fs)) (pick (empty_marked m fs) 15 0))) 10

unfoldable pub rec_step : ℕ → Order → ℕ → ℕ → List Bytes → Result Phase ℕ
rec_step t o m n fs = choose (eqb (rec_verdict t o m fs) 0) (Ok (P.Rows t 0 (n + 1))) (Err (rec_verdict t o m fs))

-- "`end` 15 for a mark without record, 10, 12, 16": "The count equals the number of `rec` lines."
unfoldable pub count_step : ℕ → ℕ → Number → Result Phase ℕ
count_step t n (N.Plus c) = choose (eqb c n) (Ok (P.Ended t n)) (Err 16)
count_step t n (N.Minus c) = Err 16
count_step t n N.Nothing = Err 12

unfoldable pub end_step : ℕ → ℕ → ℕ → List Bytes → Result Phase ℕ
end_step t m n fs =
    choose (eqb m 0) (choose (eqb (length fs) 1) (count_step t n (number_of (get_or fs 0 []))) (Err 10)) (Err 15)

-- "A mark that is unreadable, not allowed, not rising, before `frm` or after `end` is 15 at its own line."
unfoldable pub mark_step : Phase → Order → ℕ → Result Phase ℕ
mark_step P.Tbl o i = Err 15
mark_step (P.Atr t) o i = Err 15
mark_step (P.Frm t) o i = Err 15
mark_step (P.Rows t m n) o i = choose (may_mark t o i && ltb m i) (Ok (P.Rows t i n)) (Err 15)
mark_step (P.Ended t n) o i = Err 15

unfoldable pub com_step : Phase → Order → Remark → Result Phase ℕ
com_step p o R.Comment = Ok p
com_step p o R.Unreadable = Err 15
com_step p o (R.Mark i) = mark_step p o i

-- a line of a known command k, other than `com`, with w after its first `;`: "known command out of its order" is 6
unfoldable pub line_step : Phase → Order → ℕ → Bytes → Result Phase ℕ
line_step P.Tbl o k w = choose (eqb k Tbl) (tbl_step (fields w)) (Err 6)
line_step (P.Atr t) o k w = choose (eqb k Atr) (atr_step t (fields w)) (Err 6)
line_step (P.Frm t) o k w = choose (eqb k Frm) (frm_step t o (fields w)) (Err 6)
line_step (P.Rows t m n) o k w =
    choose (eqb k Rec) (rec_step t o m n (fields w)) (choose (eqb k End) (end_step t m n (fields w)) (Err 6))
line_step (P.Ended t n) o k w = Err 6

-- "in that line the first of 4, 5, 6, then" its command's own; c is the line's content
unfoldable pub content_step : Bool → Phase → Order → Bytes → Result Phase ℕ
content_step latin p o c =
    choose (clean latin c)
    (choose (blank c) (Ok p)
    (choose (leb Unknown (command c)) (Err 5)
    (choose (eqb (command c) Com) (com_step p o (remark_of (rest c))) (line_step p o (command c) (rest c)))))
    (Err 4)

unfoldable pub step : Bool → Phase → Order → Bytes → Result Phase ℕ
step latin p o l = content_step latin p o (content l)

-- the order after a line with the content c: the `atr` line states it
unfoldable pub order_after : Phase → Order → Bytes → Order
order_after P.Tbl o c = o
order_after (P.Atr t) o c = pick (eqb (command c) Atr) (order_of t (fields (rest c))) o
order_after (P.Frm t) o c = o
order_after (P.Rows t m n) o c = o
order_after (P.Ended t n) o c = o

-- "Table number is 0 if the `tbl` line fails"
unfoldable pub table_in : Phase → ℕ
table_in P.Tbl = 0
table_in (P.Atr t) = number_at t
table_in (P.Frm t) = number_at t
table_in (P.Rows t m n) = number_at t
table_in (P.Ended t n) = number_at t

-- "A refused section hands out no records, and its record count is 0."
abbrev pub refused : ℕ → ℕ → ℕ → Outcome
refused t v n = record { table = t; records = 0; verdict = v; line = n }

-- "section ends without `end` (place: its last line; only if no line fails)": n lines have been read
unfoldable pub finish : Phase → ℕ → Outcome
finish P.Tbl n = refused 0 6 n
finish (P.Atr t) n = refused (number_at t) 6 n
finish (P.Frm t) n = refused (number_at t) 6 n
finish (P.Rows t m k) n = refused (number_at t) 6 n
finish (P.Ended t k) n = record { table = number_at t; records = k; verdict = 0; line = 0 }

-- "A section gives its first failing line": what follows the step of line n
unfoldable pub continue : Result Phase ℕ → ℕ → ℕ → (Phase → Outcome) → Outcome
continue (Ok p) t n further = further p
continue (Err v) t n further = refused t v n

unfoldable pub run : Bool → Phase → Order → ℕ → List Bytes → Outcome
run latin p o n [] = finish p n
run latin p o n (l ∷ ls) = continue (step latin p o l) (table_in p) (suc n) (λ q. run latin q (order_after p o (content l)) (suc n) ls)

-- a section's answer, of its lines
unfoldable pub outcome : Bool → List Bytes → Outcome
outcome latin ls = run latin P.Tbl [] 0 ls
