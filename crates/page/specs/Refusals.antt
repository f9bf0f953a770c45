-- The order of refusals: the rules of a line as statements, each with its number, in the page's order.
use Rattle.std.specs.Prelude.{◌≡◌, Bool, true, false, ◌⊎◌, ℕ, zero, suc, ◌≤◌, ◌<◌, eqb, length, None, Some}
use mathlib.Core.List.{List, [], ◌∷◌, ◌++◌, map, Memᴰ}
use Rattle.page.specs.Bytes.{Bytes, bytes}
use Rattle.page.specs.Lines.{content, blank, command, rest, clean, Tbl, Atr, Frm, Rec, End, Com, Unknown, Missing}
use Rattle.page.specs.Fields.{number_of}
use Rattle.page.specs.Tables.{Named, Rule, rule_number, TABLES, table_at, name_at, rules}
use Rattle.page.specs.Order.{Order, standing}
use Rattle.page.specs.Marks.{remark_of, may_mark}
use Rattle.page.specs.Section.{record_text, table_in}
use Rattle.page.specs.Records.{words, Record}
use Rattle.page.specs.Grammar.{fields_of, Arrangement, Quiet, TblLine, AtrLine, FrmLine, MarkLine, RecLine, EndLine, Formats, Day, Reads, Breaks, Rises}
use Rattle.page.specs.File.{any}
use Rattle.page.specs.declared.Column.{Column}
use Rattle.page.specs.declared.Number.TheVariants as N
use Rattle.page.specs.declared.Owner.TheVariants as O
use Rattle.page.specs.declared.Remark.{Remark}
use Rattle.page.specs.declared.Remark.TheVariants as R
use Rattle.page.specs.declared.Phase.{Phase}
use Rattle.page.specs.declared.Phase.TheVariants as P

pub record Law : Type 1 where
  pub number : ℕ
  pub Broken : Type 0

abbrev pub law : ℕ → Type 0 → Law
law v B = record { number = v; Broken = B }

-- v is the number of the first broken law: it is broken, and none before it is
abbrev pub FirstBroken : List Law → ℕ → Type 0
FirstBroken [] v = ⊥
FirstBroken (x ∷ xs) v = (x.Broken × (x.number ≡ v)) ⊎ (¬ x.Broken × FirstBroken xs v)

abbrev pub either_laws : Bool → List Law → List Law → List Law
either_laws true x y = x
either_laws false x y = y

-- the marks that wait, where the last one is of field m (0: none)
abbrev pub marks_of : ℕ → List ℕ
marks_of zero = []
marks_of (suc m) = suc m ∷ []

-- "known command out of its order"
abbrev pub InOrder : Phase → ℕ → Type 0
InOrder P.Tbl k = k ≡ Tbl
InOrder (P.Atr t) k = k ≡ Atr
InOrder (P.Frm t) k = k ≡ Frm
InOrder (P.Rows t m n) k = (k ≡ Rec) ⊎ (k ≡ End)
InOrder (P.Ended t n) k = ⊥

abbrev pub One : List Bytes → Type 0
One fs = (f : Bytes) × (fs ≡ f ∷ [])

-- 13: "number out of range, or text over its size, a doubled quote counting once"
pub data Outside (c : Column) (f : Bytes) : Type 0 where
  negative : {n : ℕ} → c.text ≡ false → number_of f ≡ N.Minus n → Outside c f
  out_of_range : {n : ℕ} → c.text ≡ false → number_of f ≡ N.Plus n → ¬ ((c.lo ≤ n) × (n ≤ c.hi)) → Outside c f
  over_size : {t : Bytes} → c.text ≡ true → record_text f ≡ Some t → c.hi < length t → Outside c f

-- "26, no such day"
pub record NoSuchDay (c : Column) (f : Bytes) : Type 0 where
  pub number : c.text ≡ false
  pub day : c.day ≡ true
  pub value : ℕ
  pub reads : number_of f ≡ N.Plus value
  pub unreal : ¬ Day value

-- "each field from the left (11 or 12, then 13)"; "26, no such day, at its field directly after 13"
abbrev pub kind_law : Bool → Bool → Bytes → Law
kind_law true optional f = law 11 (record_text f ≡ None)
kind_law false optional f = law 12 ((number_of f ≡ N.Nothing) × ¬ ((optional ≡ true) × (f ≡ [])))

abbrev pub fields_laws : List Named → List Bytes → List Law
fields_laws [] fs = []
fields_laws (c ∷ cs) [] = []
fields_laws (c ∷ cs) (f ∷ fs) =
    kind_law c.column.text c.column.optional f ∷ law 13 (Outside c.column f) ∷ law 26 (NoSuchDay c.column f) ∷ fields_laws cs fs

-- the rules of a table, in their order; B says what it is to break one
abbrev pub rules_laws : (Rule → Type 0) → List Rule → List Law
rules_laws B [] = []
rules_laws B (r ∷ rs) = law (rule_number r) (B r) ∷ rules_laws B rs

-- "`rec` 10, each field from the left, 14, 15 for a marked empty text"; "25, wrong combination, after 14 and before 15"
abbrev pub rec_laws : ℕ → Order → List ℕ → List Bytes → List Law
rec_laws t o ms fs =
    law 10 (¬ (length fs ≡ length o)) ∷
    (fields_laws (standing t o) fs ++
    (rules_laws (λ (r : Rule). (vs : Record) × Reads t o ms fs vs × Breaks vs r) (rules t) ++
    (law 15 ((vs : Record) × Reads t o ms fs vs × Memᴰ (words O.Suggestion []) vs) ∷ [])))

-- "`end` 15 for a mark without record, 10, 12, 16"
abbrev pub end_laws : List ℕ → ℕ → List Bytes → List Law
end_laws ms n fs =
    law 15 (¬ (ms ≡ [])) ∷ law 10 (¬ One fs) ∷ law 12 ((f : Bytes) × (fs ≡ f ∷ []) × (number_of f ≡ N.Nothing)) ∷
    law 16 (¬ ((f : Bytes) × (fs ≡ f ∷ []) × (number_of f ≡ N.Plus n))) ∷ []

-- "`tbl` 10, 7; `atr` 8; `frm` 9"
abbrev pub command_laws : Phase → Order → ℕ → List Bytes → List Law
command_laws P.Tbl o k fs = law 10 (¬ One fs) ∷ law 7 (¬ ((t : ℕ) × (t < TABLES) × (fs ≡ bytes (table_at t).name ∷ []))) ∷ []
command_laws (P.Atr t) o k fs = law 8 (¬ ((q : Order) × Arrangement t q × (fs ≡ map (λ (c : ℕ). bytes (name_at t c)) q))) ∷ []
command_laws (P.Frm t) o k fs = law 9 (¬ Formats (standing t o) fs) ∷ []
command_laws (P.Rows t m n) o k fs = either_laws (eqb k Rec) (rec_laws t o (marks_of m) fs) (end_laws (marks_of m) n fs)
command_laws (P.Ended t n) o k fs = []

-- "A mark that is unreadable, not allowed, not rising, before `frm` or after `end` is 15 at its own line."
abbrev pub GoodMark : Phase → Order → Remark → Type 0
GoodMark p o R.Comment = Unit
GoodMark p o R.Unreadable = ⊥
GoodMark P.Tbl o (R.Mark i) = ⊥
GoodMark (P.Atr t) o (R.Mark i) = ⊥
GoodMark (P.Frm t) o (R.Mark i) = ⊥
GoodMark (P.Rows t m n) o (R.Mark i) = (may_mark t o i ≡ true) × Rises i (marks_of m)
GoodMark (P.Ended t n) o (R.Mark i) = ⊥

-- "in that line the first of 4, 5, 6, then" its command's own; a blank line has only 4
unfoldable pub laws : Bool → Phase → Order → Bytes → List Law
laws latin p o l =
    law 4 (¬ (clean latin (content l) ≡ true)) ∷
    either_laws (blank (content l)) []
    (law 5 ((command (content l) ≡ Missing) ⊎ (command (content l) ≡ Unknown)) ∷
    either_laws (eqb (command (content l)) Com) (law 15 (¬ GoodMark p o (remark_of (rest (content l)))) ∷ [])
    (law 6 (¬ InOrder p (command (content l))) ∷ command_laws p o (command (content l)) (fields_of l)))

-- what a line leads to, where what stood before it left p and the order o
pub data Leads (latin : Bool) (l : Bytes) : Phase → Order → Phase → Order → Type 0 where
  quiet : {p : Phase} {o : Order} → Quiet latin l → Leads latin l p o p o
  tbl : {t : ℕ} {o : Order} → TblLine latin t l → Leads latin l P.Tbl o (P.Atr t) o
  atr : {t : ℕ} {o q : Order} → AtrLine latin t q l → Leads latin l (P.Atr t) o (P.Frm t) q
  frm : {t : ℕ} {o : Order} → FrmLine latin t o l → Leads latin l (P.Frm t) o (P.Rows t 0 0) o
  mark : {t m n i : ℕ} {o : Order} → MarkLine latin t o (marks_of m) i l → Leads latin l (P.Rows t m n) o (P.Rows t i n) o
  record_line : {t m n : ℕ} {o : Order} {vs : Record} → RecLine latin t o (marks_of m) vs l → Leads latin l (P.Rows t m n) o (P.Rows t 0 (suc n)) o
  end : {t n : ℕ} {o : Order} → EndLine latin n l → Leads latin l (P.Rows t 0 n) o (P.Ended t n) o

-- the lines ls lead from p to q, one after the other
pub data Reaches (latin : Bool) : Phase → Order → List Bytes → Phase → Order → Type 0 where
  stay : {p : Phase} {o : Order} → Reaches latin p o [] p o
  move : {p q r : Phase} {o x y : Order} {l : Bytes} {ls : List Bytes} → Leads latin l p o q x → Reaches latin q x ls r y → Reaches latin p o (l ∷ ls) r y

unfoldable pub is_ended : Phase → Bool
is_ended P.Tbl = false
is_ended (P.Atr t) = false
is_ended (P.Frm t) = false
is_ended (P.Rows t m n) = false
is_ended (P.Ended t n) = true

-- a section is refused with table number k, verdict v and line n: at its first line that breaks a law, by the first law that it breaks;
-- or no line does, but no `end` came
pub data Refused (latin : Bool) (ls : List Bytes) (k v n : ℕ) : Type 0 where
  at_line : (before after : List Bytes) (l : Bytes) (q : Phase) (o : Order) → ls ≡ before ++ (l ∷ after) → Reaches latin P.Tbl [] before q o →
      FirstBroken (laws latin q o l) v → k ≡ table_in q → n ≡ suc (length before) → Refused latin ls k v n
  unfinished : (q : Phase) (o : Order) → Reaches latin P.Tbl [] ls q o → is_ended q ≡ false → k ≡ table_in q → v ≡ 6 → n ≡ length ls → Refused latin ls k v n

-- Which of the numbers given back are a section's, and which the file's: listed here, once. What theorems say of a number they say by these
-- lists, and what sets two numbers apart is computed from them.

-- a section's: the numbers of the laws above
abbrev pub section_numbers : List ℕ
section_numbers = 4 ∷ 5 ∷ 6 ∷ 7 ∷ 8 ∷ 9 ∷ 10 ∷ 11 ∷ 12 ∷ 13 ∷ 26 ∷ 14 ∷ 25 ∷ 15 ∷ 16 ∷ []

-- "After 1 or 2 no section is read."
abbrev pub header_numbers : List ℕ
header_numbers = 1 ∷ 2 ∷ []

-- what else the file gives: "3, the first unsound section in file order, 17, 18, 19, 20"; "17 to 20 are the file's, never a section's"
abbrev pub later_numbers : List ℕ
later_numbers = 3 ∷ (section_numbers ++ (17 ∷ 18 ∷ 19 ∷ 20 ∷ []))

-- "The file gives the first of 1, 2, 3, the first unsound section in file order, 17, 18, 19, 20"
abbrev pub file_numbers : List ℕ
file_numbers = header_numbers ++ later_numbers

-- whether v is one of these
abbrev pub gives : List ℕ → ℕ → Bool
gives ns v = any (eqb v) ns

abbrev pub OneOf : List ℕ → ℕ → Type 0
OneOf ns v = gives ns v ≡ true

-- 0, "sound", or one of these
abbrev pub SoundOr : List ℕ → ℕ → Type 0
SoundOr ns v = (v ≡ 0) ⊎ OneOf ns v
