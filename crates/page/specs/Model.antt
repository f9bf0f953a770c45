-- What a file says: header values, and tables with their records. Filling and stripping change it.
use Rattle.std.specs.Prelude.{Bool, List, [], ◌∷◌, map, ℕ, zero, suc, ◌-◌, get_or}
use Rattle.page.specs.Bytes.{Bytes}
use Rattle.page.specs.Cut.{Section, sections, header_lines}
use Rattle.page.specs.Head.{Head, head_values, latin_of}
use Rattle.page.specs.Records.{Datum, number, missing, words, Record, records_of, table_index}
use Rattle.page.specs.declared.Owner.{Owner}
use Rattle.page.specs.declared.Owner.TheVariants as O
use Rattle.page.specs.declared.Stays.{Stays}
use Rattle.page.specs.declared.Stays.TheVariants as St

-- a table by its place in the list of tables, and its records
pub record Content : Type 0 where
  pub table : ℕ
  pub records : List Record

pub record Model : Type 0 where
  pub head : Head
  pub tables : List Content

unfoldable pub content_of : Bool → Section → Content
content_of latin x = record { table = table_index x.lines; records = records_of latin x.lines }

-- what an accepted file says
unfoldable pub model_of : Bytes → Model
model_of s = record { head = head_values (header_lines s); tables = map (content_of (latin_of s)) (sections s) }

-- the list with what stands at a place (from 0) changed
unfoldable pub change : {A : Type 0} → (A → A) → ℕ → List A → List A
change f k [] = []
change f zero (x ∷ xs) = f x ∷ xs
change f (suc k) (x ∷ xs) = x ∷ change f k xs

-- "Filling names section, record and field (from 1) and a text; the result is the written form with that text and its mark."
unfoldable pub fill_record : ℕ → Bytes → Record → Record
fill_record f t vs = change (λ v. words O.Suggestion t) (f - 1) vs

unfoldable pub fill_content : ℕ → ℕ → Bytes → Content → Content
fill_content r f t c = record { table = c.table; records = change (fill_record f t) (r - 1) c.records }

unfoldable pub fill_model : ℕ → ℕ → ℕ → Bytes → Model → Model
fill_model i r f t m = record { head = m.head; tables = change (fill_content r f t) (i - 1) m.tables }

-- "Stripping gives the written form with marked texts empty and no marks."
abbrev pub strip_words : Owner → Bytes → Datum
strip_words O.Operator t = words O.Operator t
strip_words O.Suggestion t = words O.Operator []

unfoldable pub strip_datum : Datum → Datum
strip_datum (number n) = number n
strip_datum missing = missing
strip_datum (words o t) = strip_words o t

unfoldable pub strip_content : Content → Content
strip_content c = record { table = c.table; records = map (map strip_datum) c.records }

unfoldable pub strip_model : Model → Model
strip_model m = record { head = m.head; tables = map strip_content m.tables }

-- What is changed of what a file says: nothing, one text put in, or the marked texts taken out.
pub data Changes : Type 0 where
  nothing strip : Changes
  fill : (i r f : ℕ) → (t : Bytes) → Changes

unfoldable pub changed : Changes → Model → Model
changed nothing m = m
changed strip m = strip_model m
changed (fill i r f t) m = fill_model i r f t m

-- "sections and records keep their order"
unfoldable pub kept : Stays → Model → Model
kept St.All m = m

-- a record's value, from 1; past the end, nothing
unfoldable pub datum_at : ℕ → ℕ → ℕ → Model → Datum
datum_at i r f m = get_or (get_or (get_or m.tables (i - 1) (record { table = 0; records = [] })).records (r - 1) []) (f - 1) (number 0)
