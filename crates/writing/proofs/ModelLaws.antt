-- What is changed when nothing, all marked texts, or one field is named: writing, stripping, filling. Assumes nothing.
use mathlib.Core.Path.{◌≡◌, refl, ap, ◌∙◌}
use mathlib.Core.Bool.{Bool, true, false}
use mathlib.Core.List.{List, [], ◌∷◌, map}
use Prim.Native.Nat.{ℕ, zero, suc, ◌-◌, ◌<◌}
use native.Mathlib.Omega.{arith}
use borrow.Author.Tests.{ne_eqb}
use lib.Dec.{eqb}
use Rattle.page.specs.Bytes.{Bytes, pick}
use Rattle.page.specs.Records.{words, Record}
use Rattle.page.specs.Model.{Content, Model, change, fill_record, fill_content, fill_model, strip_datum, strip_content, strip_model, Changes, nothing as no_change, strip as no-marks, fill as one_text, changed, kept}
use Rattle.page.specs.declared.Owner.TheVariants as O
use Rattle.copies.specs.Changed.{strips, section_of, record_of, field_of, text_of, kept_tables, changed_datum, changed_values, changed_records, changed_content, changed_tables, changed_model}
use Rattle.copies.specs.declared.plan.Change.{Change}
use Rattle.copies.specs.declared.plan.Change.TheVariants as C
use Rattle.copies.specs.declared.plan.Plan.{Plan}
use Rattle.copies.proofs.KeptLaws.{kept_is}

-- past what is named, and where nothing is, only marked texts change

abbrev stripped_if : Bool → Record → Record
stripped_if true vs = map strip_datum vs
stripped_if false vs = vs

values_none : (strip : Bool) (t : Bytes) (vs : Record) → changed_values strip 0 t vs ≡ stripped_if strip vs
unfolding changed_values changed_datum
values_none true t [] = refl
values_none false t [] = refl
values_none true t (v ∷ vs) = ap (λ (x : Record). strip_datum v ∷ x) (values_none true t vs)
values_none false t (v ∷ vs) = ap (λ (x : Record). v ∷ x) (values_none false t vs)

records_none : (strip : Bool) (f : ℕ) (t : Bytes) (rs : List Record) → changed_records strip 0 f t rs ≡ map (stripped_if strip) rs
unfolding changed_records
records_none strip f t [] = refl
records_none strip f t (v ∷ vs) = rw (values_none strip t v, records_none strip f t vs)

map_same : (rs : List Record) → map (stripped_if false) rs ≡ rs
map_same [] = refl
map_same (v ∷ vs) = rw (map_same vs)

content_none : (f : ℕ) (t : Bytes) (c : Content) → changed_content false 0 f t c ≡ c
unfolding changed_content
content_none f t c = rw (records_none false f t c.records, map_same c.records)

tables_none : (r f : ℕ) (t : Bytes) (cs : List Content) → changed_tables false 0 r f t cs ≡ cs
unfolding changed_tables
tables_none r f t [] = refl
tables_none r f t (c ∷ cs) = rw (content_none f t c, tables_none r f t cs)

map_strip : (rs : List Record) → map (stripped_if true) rs ≡ map (map strip_datum) rs
map_strip [] = refl
map_strip (v ∷ vs) = rw (map_strip vs)

content_strip : (f : ℕ) (t : Bytes) (c : Content) → changed_content true 0 f t c ≡ strip_content c
unfolding changed_content strip_content
content_strip f t c = rw (records_none true f t c.records, map_strip c.records)

tables_strip : (r f : ℕ) (t : Bytes) (cs : List Content) → changed_tables true 0 r f t cs ≡ map strip_content cs
unfolding changed_tables
tables_strip r f t [] = refl
tables_strip r f t (c ∷ cs) = rw (content_strip f t c, tables_strip r f t cs)

-- one field

named_one : {A : Type 0} (k : ℕ) (a b : A) → pick (eqb (suc (suc k)) 1) a b ≡ b
named_one k a b = rw (ne_eqb (suc (suc k)) 1 (λ (e : suc (suc k) ≡ 1). omega arith))

less_one : (k : ℕ) → suc k - 1 ≡ k
less_one k = omega arith

values_fill : (k : ℕ) (t : Bytes) (vs : Record) → changed_values false (suc k) t vs ≡ change (λ v. words O.Suggestion t) k vs
unfolding changed_values changed_datum change
values_fill k t [] = refl
values_fill zero t (v ∷ vs) = ap (λ (x : Record). words O.Suggestion t ∷ x) (values_none false t vs)
values_fill (suc k) t (v ∷ vs) = rw (named_one k (words O.Suggestion t) v, less_one (suc k)) (ap (λ (x : Record). v ∷ x) (values_fill k t vs))

values_named : (f : ℕ) (t : Bytes) (vs : Record) → 0 < f → changed_values false f t vs ≡ fill_record f t vs
unfolding fill_record
values_named zero t vs h = absurd (omega arith)
values_named (suc k) t vs h = values_fill k t vs ∙ rw (less_one k)

records_fill : (k f : ℕ) (t : Bytes) (rs : List Record) → 0 < f → changed_records false (suc k) f t rs ≡ change (fill_record f t) k rs
unfolding changed_records change
records_fill k f t [] h = refl
records_fill zero f t (v ∷ vs) h =
    rw (values_named f t v h) (ap (λ (x : List Record). fill_record f t v ∷ x) (records_none false f t vs ∙ map_same vs))
records_fill (suc k) f t (v ∷ vs) h =
    rw (named_one k f 0, less_one (suc k), values_none false t v) (ap (λ (x : List Record). v ∷ x) (records_fill k f t vs h))

content_fill : (r f : ℕ) (t : Bytes) (c : Content) → 0 < r → 0 < f → changed_content false r f t c ≡ fill_content r f t c
unfolding changed_content fill_content
content_fill zero f t c h g = absurd (omega arith)
content_fill (suc k) f t c h g = rw (records_fill k f t c.records g, less_one k)

tables_fill : (k r f : ℕ) (t : Bytes) (cs : List Content) → 0 < r → 0 < f → changed_tables false (suc k) r f t cs ≡ change (fill_content r f t) k cs
unfolding changed_tables change
tables_fill k r f t [] h g = refl
tables_fill zero r f t (c ∷ cs) h g =
    rw (content_fill r f t c h g) (ap (λ (x : List Content). fill_content r f t c ∷ x) (tables_none r f t cs))
tables_fill (suc k) r f t (c ∷ cs) h g =
    rw (named_one k r 0, less_one (suc k), content_none f t c) (ap (λ (x : List Content). c ∷ x) (tables_fill k r f t cs h g))

tables_filled : (i r f : ℕ) (t : Bytes) (cs : List Content) → 0 < i → 0 < r → 0 < f → changed_tables false i r f t cs ≡ change (fill_content r f t) (i - 1) cs
tables_filled zero r f t cs a b c = absurd (omega arith)
tables_filled (suc k) r f t cs a b c = tables_fill k r f t cs b c ∙ rw (less_one k)

-- What the code's word for a change says, where a section, a record and a field are named.

abbrev pub said : Change → Changes
said C.Nothing = no_change
said C.Strip = no-marks
said (C.Fill x) = one_text x.section x.rec x.field x.text.now

abbrev pub Named : Change → Type 0
Named C.Nothing = Unit
Named C.Strip = Unit
Named (C.Fill x) = (0 < x.section) × (0 < x.rec) × (0 < x.field)

pub planned : (p : Plan) (m : Model) → Named p.change → changed_model p m ≡ changed (said p.change) (kept p.stays m)
unfolding changed_model changed strip_model fill_model
planned p m b = by p.change b
  where
    form : Change → Model
    form c =
        record {
          head = m.head;
          tables = changed_tables (strips c) (section_of c) (record_of c) (field_of c) (text_of c) (kept_tables p.stays m.tables);
        }

    by : (c : Change) → Named c → form c ≡ changed (said c) (kept p.stays m)
    by C.Nothing b = rw (tables_none 0 0 [] (kept_tables p.stays m.tables)) (kept_is p.stays m)
    by C.Strip b = rw (tables_strip 0 0 [] (kept_tables p.stays m.tables)) (ap strip_model (kept_is p.stays m))
    by (C.Fill x) b =
        rw (tables_filled x.section x.rec x.field x.text.now (kept_tables p.stays m.tables) b.0 b.1 b.2)
        (ap (fill_model x.section x.rec x.field x.text.now) (kept_is p.stays m))
