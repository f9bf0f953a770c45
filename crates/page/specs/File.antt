-- The file's answer: "the first of 1, 2, 3, the first unsound section in file order, 17, 18, 19, 20".
use Rattle.std.specs.Prelude.{Bool, true, false, not, ◌&&◌, ◌||◌, List, [], ◌∷◌, ◌++◌, map, ℕ, suc, eqb, ltb, length, get_or, Result}
use Rattle.page.specs.Bytes.{Bytes, bytes, pick, same}
use Rattle.page.specs.Lines.{joined}
use Rattle.page.specs.Tables.{Named, Reference, columns, table_at, table_named}
use Rattle.page.specs.Cut.{Section, sections, header_lines}
use Rattle.page.specs.Header.{head_of}
use Rattle.page.specs.Head.{latin_of}
use Rattle.page.specs.Section.{outcome}
use Rattle.page.specs.Records.{Datum, number, missing, words, Record, Entry, entries_of, table_index}
use Rattle.page.specs.Trailer.{trailer_of}
use Rattle.page.specs.Answers.{refusal, sound, earlier, refuse_if, answered}
use Rattle.page.specs.declared.Column.{Column}
use Rattle.page.specs.declared.Finding.{Finding}
use Rattle.page.specs.declared.Outcome.{Outcome}
use Rattle.page.specs.declared.Row.{Row}
use Rattle.page.specs.declared.Refusal.{Refusal}

-- 1: "file over 16,777,216 bytes"
abbrev pub limit : ℕ
limit = 16777216

unfoldable pub too_long : Bytes → Bool
too_long s = ltb limit (length s)

-- 2, 3: "0 for header and trailer"
abbrev pub found : Finding → Refusal
found f = refusal f.verdict 0 f.line

-- 1, then 2
unfoldable pub header_refusal : Bytes → Refusal
header_refusal s = earlier (refuse_if (too_long s) 1) (found (head_of (header_lines s)))

-- "one row a section with table number, place, length, record count and verdict"
unfoldable pub row_given : Section → Outcome → Row
row_given x o =
    record {
      table = o.table;
      place = x.place;
      length = length (joined x.lines);
      records = o.records;
      verdict = o.verdict;
      line = o.line;
    }

unfoldable pub row_of : Bool → Section → Row
row_of latin x = row_given x (outcome latin x.lines)

unfoldable pub rows_of : Bytes → List Row
rows_of s = map (row_of (latin_of s)) (sections s)

-- "the first unsound section in file order"; i counts sections from 1
unfoldable pub first_unsound : ℕ → List Row → Refusal
first_unsound i [] = sound
first_unsound i (r ∷ rs) = pick (eqb r.verdict 0) (first_unsound (suc i) rs) (refusal r.verdict i r.line)

-- 17: "table a second time", at "the second table's line 1"
unfoldable pub any : {A : Type 0} → (A → Bool) → List A → Bool
any p [] = false
any p (x ∷ xs) = p x || any p xs

unfoldable pub first_again : List ℕ → ℕ → List Row → Refusal
first_again seen i [] = sound
first_again seen i (r ∷ rs) = pick (any (eqb r.table) seen) (refusal 17 i 1) (first_again (r.table ∷ seen) (suc i) rs)

-- a record of the file, with its section, its table's place in the list of tables, and its line
pub record Filed : Type 0 where
  pub section : ℕ
  pub table : ℕ
  pub line : ℕ
  pub values : Record

unfoldable pub filed_in : Bool → ℕ → Section → List Filed
filed_in latin i x =
    map (λ (e : Entry). record { section = i; table = table_index x.lines; line = e.line; values = e.values }) (entries_of latin x.lines)

-- all records in file order
unfoldable pub filed : Bool → ℕ → List Section → List Filed
filed latin i [] = []
filed latin i (x ∷ xs) = filed_in latin i x ++ filed latin (suc i) xs

-- keys "compare by value", texts by their own bytes, whoever's they are
abbrev pub same_datum : Datum → Datum → Bool
same_datum (number a) (number b) = eqb a b
same_datum (number a) missing = false
same_datum (number a) (words o t) = false
same_datum missing (number b) = false
same_datum missing missing = true
same_datum missing (words o t) = false
same_datum (words o t) (number b) = false
same_datum (words o t) missing = false
same_datum (words o t) (words p u) = same t u

unfoldable pub same_record : Record → Record → Bool
same_record [] [] = true
same_record [] (v ∷ vs) = false
same_record (u ∷ us) [] = false
same_record (u ∷ us) (v ∷ vs) = same_datum u v && same_record us vs

-- a record's values in the columns of a key
unfoldable pub key_in : (Column → Bool) → List Named → Record → Record
key_in p [] vs = []
key_in p (c ∷ cs) [] = []
key_in p (c ∷ cs) (v ∷ vs) = pick (p c.column) (v ∷ key_in p cs vs) (key_in p cs vs)

unfoldable pub key_of : (Column → Bool) → Filed → Record
key_of p e = key_in p (columns e.table) e.values

abbrev pub by_primary : Column → Bool
by_primary c = c.primary

abbrev pub by_second : Column → Bool
by_second c = c.second

unfoldable pub has_key : (Column → Bool) → ℕ → Bool
has_key p t = any (λ (c : Named). p c.column) (columns t)

-- 18, 19: "primary key, second key met before"
unfoldable pub repeats : (Column → Bool) → List Filed → Filed → Bool
repeats p before e =
    has_key p e.table && any (λ (d : Filed). eqb d.table e.table && same_record (key_of p d) (key_of p e)) before

-- 20: "a reference finds no record"; "References go to the named table's primary key."
unfoldable pub referred : List ℕ → Record → Record
referred ks vs = map (λ (k : ℕ). get_or vs k (number 0)) ks

unfoldable pub meets : Filed → Reference → Filed → Bool
meets e r d = eqb d.table (table_named (bytes r.target)) && same_record (key_of by_primary d) (referred r.columns e.values)

unfoldable pub lost : List Filed → Filed → Bool
lost every e = any (λ (r : Reference). not (any (meets e r) every)) (table_at e.table).references

-- "each at the first record in file order that breaks it"
unfoldable pub first_record : ℕ → (List Filed → Filed → Bool) → List Filed → List Filed → Refusal
first_record v bad before [] = sound
first_record v bad before (e ∷ es) = pick (bad before e) (refusal v e.section e.line) (first_record v bad (e ∷ before) es)

unfoldable pub filed_of : Bytes → List Filed
filed_of s = filed (latin_of s) 1 (sections s)

-- 18, 19, 20
unfoldable pub record_refusal : List Filed → Refusal
record_refusal every =
    earlier (first_record 18 (repeats by_primary) [] every)
    (earlier (first_record 19 (repeats by_second) [] every) (first_record 20 (λ before. lost every) [] every))

-- the sections', 17, and the records'
unfoldable pub section_refusal : Bytes → Refusal
section_refusal s = earlier (first_unsound 1 (rows_of s)) (earlier (first_again [] 1 (rows_of s)) (record_refusal (filed_of s)))

unfoldable pub file_refusal : Bytes → Refusal
file_refusal s = earlier (header_refusal s) (earlier (found (trailer_of s)) (section_refusal s))

unfoldable pub check_of : Bytes → Result (Unit {0}) Refusal
check_of s = answered (file_refusal s) tt
