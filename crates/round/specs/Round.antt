-- What a file may say: values that its columns may hold, of bytes that are allowed.
use Rattle.std.specs.Prelude.{◌≡◌, Bool, true, false, ℕ, ◌≤◌, ◌<◌, length, None, Option, Some}
use mathlib.Core.List.{List, [], ◌∷◌, Memᴰ}
use Rattle.page.specs.Bytes.{Bytes, all, unpadded}
use Rattle.page.specs.Lines.{allowed}
use Rattle.page.specs.Tables.{Named, Rule, TABLES, columns, rules}
use Rattle.page.specs.Dates.{real_date, real_time}
use Rattle.page.specs.Head.{Head}
use Rattle.page.specs.Records.{Datum, number, missing, words, Record}
use Rattle.page.specs.Model.{Content, Model}
use Rattle.page.specs.Grammar.{Day, Breaks}
use Rattle.page.specs.Rules.{Every}
use Rattle.page.specs.declared.Column.{Column}
use Rattle.page.specs.declared.Owner.TheVariants as O

-- a value of a column: a number in its range, and a real day where that is asked, none where that is allowed, a text of its size without a space
-- at its end; a suggestion only where it may be marked, and not empty
pub data Fits (latin : Bool) (c : Column) : Datum → Type 0 where
  a_number : {n : ℕ} → c.text ≡ false → c.lo ≤ n → n ≤ c.hi → (c.day ≡ true → Day n) → Fits latin c (number n)
  no_number : c.text ≡ false → c.optional ≡ true → Fits latin c missing
  a_text : {t : Bytes} → c.text ≡ true → length t ≤ c.hi → all (allowed latin) t ≡ true → unpadded t ≡ t → Fits latin c (words O.Operator t)
  a_suggestion : {t : Bytes} → c.text ≡ true → c.fillable ≡ true → 0 < length t → length t ≤ c.hi → all (allowed latin) t ≡ true → unpadded t ≡ t →
      Fits latin c (words O.Suggestion t)

-- one value a column
pub data FitAll (latin : Bool) : List Named → Record → Type 0 where
  no_value : FitAll latin [] []
  a_value : {c : Named} {cs : List Named} {v : Datum} {vs : Record} → Fits latin c.column v → FitAll latin cs vs → FitAll latin (c ∷ cs) (v ∷ vs)

pub record SoundRecord (latin : Bool) (t : ℕ) (vs : Record) : Type 0 where
  pub fit : FitAll latin (columns t) vs
  pub rules : (r : Rule) → Memᴰ r (rules t) → ¬ Breaks vs r

pub record SoundContent (latin : Bool) (c : Content) : Type 0 where
  pub known : c.table < TABLES
  pub records : Every (SoundRecord latin c.table) c.records

-- a header's text, and one that need not stand
abbrev pub Printed : Bytes → Type 0
Printed t = all (allowed false) t ≡ true

abbrev pub PrintedIf : Option Bytes → Type 0
PrintedIf None = Unit
PrintedIf (Some t) = Printed t

pub record SoundHead (h : Head) : Type 0 where
  pub source : Printed h.source
  pub date : real_date h.date ≡ true
  pub year : h.date.year ≤ 9999
  pub time : real_time h.time ≡ true
  pub ver : Printed h.ver
  pub ifv : Printed h.ifv
  pub dve : PrintedIf h.dve
  pub fft : PrintedIf h.fft

pub record SoundModel (m : Model) : Type 0 where
  pub head : SoundHead m.head
  pub tables : Every (SoundContent m.head.latin) m.tables
