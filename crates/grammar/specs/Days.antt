-- Days of records: real ones, and 26, "no such day", of a line and of a section.
use Rattle.std.specs.Prelude.{◌≡◌, Bool, List, [], ◌∷◌, ◌++◌, ℕ, zero, suc, ◌≤◌, length}
use Rattle.page.specs.Bytes.{Bytes}
use Rattle.page.specs.Lines.{Rec}
use Rattle.page.specs.Tables.{Named}
use Rattle.page.specs.Order.{Order, standing}
use Rattle.page.specs.Section.{table_in}
use Rattle.page.specs.Records.{Datum, number}
use Rattle.page.specs.Grammar.{fields_of, Says, Day, Holds}
use Rattle.page.specs.Refusals.{Outside, NoSuchDay, Reaches}
use Rattle.page.specs.declared.Owner.TheVariants as O
use Rattle.page.specs.declared.Phase.{Phase}
use Rattle.page.specs.declared.Phase.TheVariants as P

-- a value that is a real day: "Gregorian dates from 00010101 to 99991231"
pub record RealDay (v : Datum) : Type 0 where
  pub value : ℕ
  pub is : v ≡ number value
  pub day : Day value
  pub first : 10101 ≤ value
  pub last : value ≤ 99991231

-- "each field from the left": the field at place k, from 0, is within its range and no such day, and each before it holds a value of its column
pub data FirstUnreal : List Named → List Bytes → ℕ → Type 0 where
  here : {c : Named} {cs : List Named} {f : Bytes} {fs : List Bytes} → ¬ Outside c.column f → NoSuchDay c.column f → FirstUnreal (c ∷ cs) (f ∷ fs) zero
  later : {c : Named} {cs : List Named} {f : Bytes} {fs : List Bytes} {v : Datum} {k : ℕ} → Holds O.Operator c.column f v → FirstUnreal cs fs k →
      FirstUnreal (c ∷ cs) (f ∷ fs) (suc k)

-- a record with a field for each column, the first wrong one of which is no such day
pub data UnrealDay (latin : Bool) (l : Bytes) : Phase → Order → Type 0 where
  unreal : {t m n k : ℕ} {o : Order} → Says latin Rec l → length (fields_of l) ≡ length o → FirstUnreal (standing t o) (fields_of l) k → UnrealDay latin l (P.Rows t m n) o

-- the first failing line of a section of the table with number t, its line n, is one
pub data Undated (latin : Bool) (ls : List Bytes) (t n : ℕ) : Type 0 where
  at_record : (before after : List Bytes) (l : Bytes) (q : Phase) (o : Order) → ls ≡ before ++ (l ∷ after) → Reaches latin P.Tbl [] before q o →
      UnrealDay latin l q o → t ≡ table_in q → n ≡ suc (length before) → Undated latin ls t n
