-- What a sound section is, with no machine and no order of checks: these lines denote this table with these records.
use Rattle.std.specs.Prelude.{◌≡◌, Bool, true, false, ◌||◌, ℕ, suc, ◌+◌, ◌*◌, ◌≤◌, ◌<◌, eqb, length, get_or, Some}
use mathlib.Core.List.{List, [], ◌∷◌, map, Memᴰ}
use Rattle.page.specs.Bytes.{Bytes, bytes, pick}
use Rattle.page.specs.Lines.{content, blank, command, rest, clean, Tbl, Atr, Frm, Rec, End, Com}
use Rattle.page.specs.Fields.{fields, number_of}
use Rattle.page.specs.Dates.{real_date}
use Rattle.page.specs.Tables.{Named, Rule, points_differ, feeder_combined, TABLES, table_at, width, columns, name_at, rules}
use Rattle.page.specs.Order.{Order, standing, by_column, column_in}
use Rattle.page.specs.Marks.{remark_of, may_mark}
use Rattle.page.specs.Section.{format_ok, record_text}
use Rattle.page.specs.Records.{Datum, number, missing, words, Record}
use Rattle.page.specs.declared.Number.TheVariants as N
use Rattle.page.specs.declared.Owner.{Owner}
use Rattle.page.specs.declared.Owner.TheVariants as O
use Rattle.page.specs.declared.Remark.TheVariants as R
use Rattle.page.specs.declared.Column.{Column}
use Rattle.page.specs.declared.Date.{Date}

abbrev pub fields_of : Bytes → List Bytes
fields_of l = fields (rest (content l))

-- a line of command k, all of whose bytes are allowed in it
pub record Says (latin : Bool) (k : ℕ) (l : Bytes) : Type 0 where
  pub clean : clean latin (content l) ≡ true
  pub named : command (content l) ≡ k

-- a line that says nothing: blank, or an ordinary comment
pub data Quiet (latin : Bool) (l : Bytes) : Type 0 where
  empty : clean latin (content l) ≡ true → blank (content l) ≡ true → Quiet latin l
  remark : Says latin Com l → remark_of (rest (content l)) ≡ R.Comment → Quiet latin l

-- "`tbl; name`": table t of the list
pub record TblLine (latin : Bool) (t : ℕ) (l : Bytes) : Type 0 where
  pub says : Says latin Tbl l
  pub known : t < TABLES
  pub name : fields_of l ≡ bytes (table_at t).name ∷ []

-- "any arrangement of a table's columns, each once": each column stands at one place, and nothing else stands there
pub record Arrangement (t : ℕ) (o : Order) : Type 0 where
  pub only : (p : ℕ) → p < length o → get_or o p 0 < width t
  pub there : (c : ℕ) → c < width t → (p : ℕ) × (p < length o) × (get_or o p 0 ≡ c)
  pub once : (p q : ℕ) → p < length o → q < length o → get_or o p 0 ≡ get_or o q 0 → p ≡ q

-- "The reading of `atr` must now say which column stands where"
pub record AtrLine (latin : Bool) (t : ℕ) (o : Order) (l : Bytes) : Type 0 where
  pub says : Says latin Atr l
  pub arrangement : Arrangement t o
  pub names : fields_of l ≡ map (λ (c : ℕ). bytes (name_at t c)) o

-- "`frm` with one format a column"
pub data Formats : List Named → List Bytes → Type 0 where
  no_format : Formats [] []
  a_format : {c : Named} {cs : List Named} {f : Bytes} {fs : List Bytes} → format_ok c.column.text f ≡ true → Formats cs fs → Formats (c ∷ cs) (f ∷ fs)

pub record FrmLine (latin : Bool) (t : ℕ) (o : Order) (l : Bytes) : Type 0 where
  pub says : Says latin Frm l
  pub formats : Formats (standing t o) (fields_of l)

-- n is a real day: "the number's value read as YYYYMMDD with leading zeros optional"
pub record Day (n : ℕ) : Type 0 where
  pub date : Date
  pub real : real_date date ≡ true
  pub read : n ≡ date.year * 10000 + date.month * 100 + date.day

-- a field holds a value of its column: a number in its range, and a real day where that is asked, nothing where that is allowed, a text of its
-- size
pub data Holds (o : Owner) (c : Column) (f : Bytes) : Datum → Type 0 where
  a_number : {n : ℕ} → c.text ≡ false → number_of f ≡ N.Plus n → c.lo ≤ n → n ≤ c.hi → (c.day ≡ true → Day n) → Holds o c f (number n)
  no_number : c.text ≡ false → c.optional ≡ true → f ≡ [] → Holds o c f missing
  a_text : {t : Bytes} → c.text ≡ true → record_text f ≡ Some t → length t ≤ c.hi → Holds o c f (words o t)

-- whose the text of column i is, where these are marked
unfoldable pub marked : ℕ → List ℕ → Bool
marked i [] = false
marked i (m ∷ ms) = eqb m i || marked i ms

unfoldable pub owner_by : List ℕ → ℕ → Owner
owner_by ms i = pick (marked i ms) O.Suggestion O.Operator

-- one field a column, by column, the first counted as i
pub data Values (ms : List ℕ) : ℕ → List Named → List Bytes → Record → Type 0 where
  no_field : {i : ℕ} → Values ms i [] [] []
  a_field : {i : ℕ} {c : Named} {cs : List Named} {f : Bytes} {fs : List Bytes} {v : Datum} {vs : Record} →
      Holds (owner_by ms i) c.column f v → Values ms (suc i) cs fs vs → Values ms i (c ∷ cs) (f ∷ fs) (v ∷ vs)

-- column k, from 0, of a record is this number, lies above 0, is an empty text, is a filled one
abbrev pub Is : Record → ℕ → ℕ → Type 0
Is vs k n = get_or vs k (number 0) ≡ number n

abbrev pub Above : Record → ℕ → Type 0
Above vs k = (n : ℕ) × Is vs k (suc n)

abbrev pub Empty : Record → ℕ → Type 0
Empty vs k = (o : Owner) × (get_or vs k (number 0) ≡ words o [])

abbrev pub Filled : Record → ℕ → Type 0
Filled vs k = (o : Owner) × (b : ℕ) × (t : Bytes) × (get_or vs k (number 0) ≡ words o (b ∷ t))

-- "With LEITSTELLENKENNUNG 0, LinienID, RichtungsID and ASBID are empty, and ZUB_LI_NR and ZUB_ORT_REF_ORT lie above 0"
pub record OwnFeeder (vs : Record) (c x : ℕ) : Type 0 where
  pub centre : Is vs c 0
  pub line : Above vs (c + 1)
  pub stop : Above vs (c + 3)
  pub line_id : Empty vs x
  pub direction_id : Empty vs (x + 1)
  pub area_id : Empty vs (x + 2)

-- "with 1 to 255 the three texts are filled, and ZUB_LI_NR, ZUB_LI_RI_NR and ZUB_ORT_REF_ORT are 0"
pub record ForeignFeeder (vs : Record) (c x : ℕ) : Type 0 where
  pub centre : Above vs c
  pub line : Is vs (c + 1) 0
  pub direction : Is vs (c + 2) 0
  pub stop : Is vs (c + 3) 0
  pub line_id : Filled vs x
  pub direction_id : Filled vs (x + 1)
  pub area_id : Filled vs (x + 2)

-- a record's values break a rule: "the two points, type and number together", are the same; the feeder is told in neither of the two ways
pub data Breaks (vs : Record) : Rule → Type 0 where
  same_points : {p : ℕ} → get_or vs p (number 0) ≡ get_or vs (p + 2) (number 0) → get_or vs (p + 1) (number 0) ≡ get_or vs (p + 3) (number 0) → Breaks vs (points_differ p)
  neither_way : {c x : ℕ} → ¬ OwnFeeder vs c x → ¬ ForeignFeeder vs c x → Breaks vs (feeder_combined c x)

-- the values of a record's fields as they stand, after the marks ms
pub record Reads (t : ℕ) (o : Order) (ms : List ℕ) (fs : List Bytes) (vs : Record) : Type 0 where
  pub many : length fs ≡ length o
  pub values : Values (map (column_in o) ms) 1 (columns t) (by_column o fs) vs

-- a `rec` line after the marks ms
pub record RecLine (latin : Bool) (t : ℕ) (o : Order) (ms : List ℕ) (vs : Record) (l : Bytes) : Type 0 where
  pub says : Says latin Rec l
  pub fields : Reads t o ms (fields_of l) vs
  pub rules : (r : Rule) → Memᴰ r (rules t) → ¬ Breaks vs r
  pub filled : ¬ Memᴰ (words O.Suggestion []) vs

-- "Several marks of one record rise strictly": i stands above the mark before it
pub data Rises (i : ℕ) : List ℕ → Type 0 where
  lone : Rises i []
  above : {m : ℕ} {ms : List ℕ} → m < i → Rises i (m ∷ ms)

-- a mark of field i, after the marks ms (the last one first)
pub record MarkLine (latin : Bool) (t : ℕ) (o : Order) (ms : List ℕ) (i : ℕ) (l : Bytes) : Type 0 where
  pub says : Says latin Com l
  pub reads : remark_of (rest (content l)) ≡ R.Mark i
  pub may : may_mark t o i ≡ true
  pub rises : Rises i ms

-- "`end; count`"
pub record EndLine (latin : Bool) (n : ℕ) (l : Bytes) : Type 0 where
  pub says : Says latin End l
  pub count : Bytes
  pub alone : fields_of l ≡ count ∷ []
  pub reads : number_of count ≡ N.Plus n

-- lines that say nothing, then a line P, then Q
pub data Then (latin : Bool) (P : Bytes → Type 0) (Q : List Bytes → Type 0) : List Bytes → Type 0 where
  found : {l : Bytes} {ls : List Bytes} → P l → Q ls → Then latin P Q (l ∷ ls)
  skip : {l : Bytes} {ls : List Bytes} → Quiet latin l → Then latin P Q ls → Then latin P Q (l ∷ ls)

pub data Silence (latin : Bool) : List Bytes → Type 0 where
  over : Silence latin []
  still : {l : Bytes} {ls : List Bytes} → Quiet latin l → Silence latin ls → Silence latin (l ∷ ls)

-- records, each after its marks (ms: those that stand before these lines), then `end` with the count n
pub data Records (latin : Bool) (t : ℕ) (o : Order) (n : ℕ) : List ℕ → List Bytes → List Record → Type 0 where
  pause : {ms : List ℕ} {l : Bytes} {ls : List Bytes} {rs : List Record} → Quiet latin l → Records latin t o n ms ls rs → Records latin t o n ms (l ∷ ls) rs
  a_mark : {ms : List ℕ} {i : ℕ} {l : Bytes} {ls : List Bytes} {rs : List Record} →
      MarkLine latin t o ms i l → Records latin t o n (i ∷ ms) ls rs → Records latin t o n ms (l ∷ ls) rs
  a_record : {ms : List ℕ} {vs : Record} {l : Bytes} {ls : List Bytes} {rs : List Record} →
      RecLine latin t o ms vs l → Records latin t o n [] ls rs → Records latin t o n ms (l ∷ ls) (vs ∷ rs)
  the_end : {l : Bytes} {ls : List Bytes} → EndLine latin n l → Silence latin ls → Records latin t o n [] (l ∷ ls) []

-- these lines denote table t with the records rs: "The count equals the number of `rec` lines."
abbrev pub Denotes : Bool → List Bytes → ℕ → List Record → Type 0
Denotes latin ls t rs =
    (o : Order) × Then latin (TblLine latin t) (Then latin (AtrLine latin t o)
    (Then latin (FrmLine latin t o) (λ body. Records latin t o (length rs) [] body rs))) ls
