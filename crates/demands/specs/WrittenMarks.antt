-- "marks stand directly before their record": where the marks of a written file stand.
use Rattle.std.specs.Prelude.{◌≡◌, ℕ, ◌-◌, ◌<◌, get_or}
use mathlib.Core.List.{List, [], ◌∷◌, ◌++◌, map, Memᴰ}
use Rattle.page.specs.Bytes.{Bytes}
use Rattle.page.specs.Records.{number, words, Record}
use Rattle.page.specs.Model.{Content, Model}
use Rattle.page.specs.Form.{line, datum_text, mark_line}
use Rattle.page.specs.declared.LineEnd.{LineEnd}
use Rattle.page.specs.declared.Owner.TheVariants as O

-- a record's written line
abbrev pub rec_line : LineEnd → Record → Bytes
rec_line ends vs = line ends "rec" (map datum_text vs)

-- record r of table i, both from 1
abbrev pub record_at : ℕ → ℕ → Model → Record
record_at i r m = get_or (get_or m.tables (i - 1) (record { table = 0; records = [] })).records (r - 1) []

-- in these lines, line y stands directly behind line x
pub record Directly (ls : List Bytes) (x y : Bytes) : Type 0 where
  pub before : List Bytes
  pub after : List Bytes
  pub split : ls ≡ before ++ (x ∷ y ∷ after)

-- a record of the model whose field f (from 1) is a suggestion
pub record Suggests (m : Model) (f : ℕ) (vs : Record) : Type 0 where
  pub table : Content
  pub here : Memᴰ table m.tables
  pub there : Memᴰ vs table.records
  pub counted : 0 < f
  pub text : Bytes
  pub suggested : get_or vs (f - 1) (number 0) ≡ words O.Suggestion text

-- a `com` line x of a written file, and the line y behind it: a mark, and the record whose field is suggested
pub record MarkAndRecord (ends : LineEnd) (m : Model) (x y : Bytes) : Type 0 where
  pub field : ℕ
  pub values : Record
  pub mark : x ≡ mark_line ends field
  pub behind : y ≡ rec_line ends values
  pub suggests : Suggests m field values

-- what stands directly behind line x
pub record Behind (P : Bytes → Bytes → Type 0) (x : Bytes) (after : List Bytes) : Type 0 where
  pub next : Bytes
  pub rest : List Bytes
  pub split : after ≡ next ∷ rest
  pub holds : P x next
