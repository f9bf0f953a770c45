-- What a file says, changed while it is written: one rule for writing, filling and stripping.
use Rattle.std.specs.Prelude.{Bool, true, false, List, [], ◌∷◌, ℕ, ◌-◌, eqb}
use Rattle.page.specs.Bytes.{Bytes, pick}
use Rattle.page.specs.Records.{Datum, words, Record}
use Rattle.page.specs.Model.{Content, Model, strip_datum}
use Rattle.page.specs.declared.Owner.TheVariants as O
use Rattle.page.specs.declared.Stays.{Stays}
use Rattle.page.specs.declared.Stays.TheVariants as St
use Rattle.copies.specs.declared.plan.Change.{Change}
use Rattle.copies.specs.declared.plan.Change.TheVariants as C
use Rattle.copies.specs.declared.plan.Plan.{Plan}

-- does a record stay?
unfoldable pub stays_in : Stays → Record → Bool
stays_in St.All vs = true

unfoldable pub kept_records : Stays → List Record → List Record
kept_records x [] = []
kept_records x (v ∷ vs) = pick (stays_in x v) (v ∷ kept_records x vs) (kept_records x vs)

unfoldable pub kept_content : Stays → Content → Content
kept_content x c = record { table = c.table; records = kept_records x c.records }

unfoldable pub kept_tables : Stays → List Content → List Content
kept_tables x [] = []
kept_tables x (c ∷ cs) = kept_content x c ∷ kept_tables x cs

-- a value: the text t as a suggestion in its place, or else, where marked texts go, without its own mark
unfoldable pub changed_datum : Bool → Bool → Bytes → Datum → Datum
changed_datum here strip t v = pick here (words O.Suggestion t) (pick strip (strip_datum v) v)

-- the fields, records and sections that are named count from 1, and 0 names none

unfoldable pub changed_values : Bool → ℕ → Bytes → Record → Record
changed_values strip f t [] = []
changed_values strip f t (v ∷ vs) = changed_datum (eqb f 1) strip t v ∷ changed_values strip (f - 1) t vs

unfoldable pub changed_records : Bool → ℕ → ℕ → Bytes → List Record → List Record
changed_records strip r f t [] = []
changed_records strip r f t (v ∷ vs) = changed_values strip (pick (eqb r 1) f 0) t v ∷ changed_records strip (r - 1) f t vs

unfoldable pub changed_content : Bool → ℕ → ℕ → Bytes → Content → Content
changed_content strip r f t c = record { table = c.table; records = changed_records strip r f t c.records }

unfoldable pub changed_tables : Bool → ℕ → ℕ → ℕ → Bytes → List Content → List Content
changed_tables strip i r f t [] = []
changed_tables strip i r f t (c ∷ cs) = changed_content strip (pick (eqb i 1) r 0) f t c ∷ changed_tables strip (i - 1) r f t cs

-- Of what is changed: do marked texts go, and which section, record and field has which text put in?

abbrev pub strips : Change → Bool
strips C.Nothing = false
strips C.Strip = true
strips (C.Fill x) = false

abbrev pub section_of : Change → ℕ
section_of C.Nothing = 0
section_of C.Strip = 0
section_of (C.Fill x) = x.section

abbrev pub record_of : Change → ℕ
record_of C.Nothing = 0
record_of C.Strip = 0
record_of (C.Fill x) = x.rec

abbrev pub field_of : Change → ℕ
field_of C.Nothing = 0
field_of C.Strip = 0
field_of (C.Fill x) = x.field

abbrev pub text_of : Change → Bytes
text_of C.Nothing = []
text_of C.Strip = []
text_of (C.Fill x) = x.text.now

unfoldable pub changed_model : Plan → Model → Model
changed_model p m =
    record {
      head = m.head;
      tables = changed_tables (strips p.change) (section_of p.change) (record_of p.change) (field_of p.change) (text_of p.change) (kept_tables p.stays m.tables);
    }
