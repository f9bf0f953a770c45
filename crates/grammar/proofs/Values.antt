-- A record's fields: what the grammar reads in them is read once, is what `values_of` gives, and the tests on fields decide what is read.
use Rattle.std.specs.Prelude.{None, Option, Some}
use mathlib.Core.Path.{◌≡◌, refl, sym, ◌∙◌}
use mathlib.Core.Bool.{Bool, true, false, ◌&&◌, ◌||◌, false≢true}
use mathlib.Core.List.Memᴰ
use mathlib.Core.List.{List, [], ◌∷◌, Memᴰ}
use mathlib.Core.Logic.{inl, inr}
use Prim.Native.Nat.{ℕ, zero, suc, ◌-◌, ◌≤◌, ◌<◌}
use native.Mathlib.Omega.{arith}
use lib.Dec.{eqb, leb}
use lib.ListN.{length, get_or}
use borrow.Author.Tests.{ne_eqb, le-leb, lt-leb}
use Rattle.page.specs.Bytes.{Bytes, pick, all}
use Rattle.page.specs.Fields.{text_of, body_of, number_of, digit, digits, value}
use Rattle.page.specs.Tables.{Named, no_column}
use Rattle.page.specs.Marks.{owner_of}
use Rattle.page.specs.Section.{own_span, words_of, record_text, text_field, day_field, number_field, left_out, field_of, field_number, first_wrong, no_bytes, empty_at, empty_marked}
use Rattle.page.specs.Records.{Datum, number, missing, words, Record, datum_of, values_of}
use Rattle.page.specs.Grammar.{Holds, a_number, no_number, a_text, marked, owner_by, Values, no_field, a_field}
use Rattle.page.specs.Refusals.{marks_of}
use Rattle.page.specs.declared.Column.{Column}
use Rattle.page.specs.declared.Number.{Number}
use Rattle.page.specs.declared.Number.TheVariants as N
use Rattle.page.specs.declared.Field.TheVariants as F
use Rattle.page.specs.declared.Owner.{Owner}
use Rattle.page.specs.declared.Owner.TheVariants as O
use Rattle.page.proofs.TextLaws.{unpadded_in, record_text_is, worded_none, worded_some}
use Rattle.laws.proofs.Decides.{Decides, holds, fails, tested, untested, when, both, one_of, equal, at_most}
use Rattle.laws.proofs.Tests.{is_d}
use Rattle.grammar.proofs.Days.{day_read, day_right}

and_false : (b : Bool) → (b && false) ≡ false
and_false true = refl
and_false false = refl

-- the machine's one mark is the grammar's list of it
pub owner_one : (m i : ℕ) → 1 ≤ i → owner_by (marks_of m) i ≡ owner_of m i
unfolding owner_by owner_of marked
owner_one zero i h = rw (ne_eqb 0 i (λ e. omega arith))
owner_one (suc m) i h = by (eqb (suc m) i)
  where
    by : (b : Bool) → pick (b || false) O.Suggestion O.Operator ≡ pick b O.Suggestion O.Operator
    by true = refl
    by false = refl

-- nothing stands in a field whose number may be missing
abbrev pub LeftOut : Bool → Bytes → Type 0
LeftOut optional f = (optional ≡ true) × (f ≡ [])

pub left_out_d : (optional : Bool) (f : Bytes) → Decides (LeftOut optional f) (left_out optional f)
left_out_d optional f = both (is_d optional) (by f)
  where
    by : (f : Bytes) → Decides (f ≡ []) (eqb (length f) 0)
    by [] = holds refl
    by (b ∷ f) = rw (ne_eqb (length (b ∷ f)) 0 (λ e. omega arith)) (fails (λ e. absurd (false≢true (cc))))

-- a number or a text is something

pub empty_no_number : number_of [] ≡ N.Nothing
unfolding number_of digits
empty_no_number = refl

empty_no_text : record_text [] ≡ None
unfolding text_of
empty_no_text = record_text_is []

pub number_some : {f : Bytes} {n : ℕ} → number_of f ≡ N.Plus n → ¬ (f ≡ [])
number_some e q = let z = empty_no_number in false≢true (cc)

pub text_some : {f t : Bytes} → record_text f ≡ Some t → ¬ (f ≡ [])
text_some e q = let z = empty_no_text in false≢true (cc)

pub number_there : (optional : Bool) (f : Bytes) {n : ℕ} → number_of f ≡ N.Plus n → left_out optional f ≡ false
number_there optional f e = untested (left_out_d optional f) (λ p. number_some e p.1)

pub holds_datum : {o : Owner} {c : Column} {f : Bytes} {v : Datum} → Holds o c f v → v ≡ datum_of o c f
unfolding datum_of
holds_datum {c = c} {f = f} (a_number t e g h d) = rw (t, number_there c.optional f e, e)
holds_datum {c = c} {f = f} (no_number t p q) = rw (t, tested (left_out_d c.optional f) (p, q))
holds_datum (a_text t e g) = rw (t, e)

-- a field holds one value
holds_once : {o : Owner} {c : Column} {f : Bytes} {v w : Datum} → Holds o c f v → Holds o c f w → v ≡ w
holds_once h g = holds_datum h ∙ sym (holds_datum g)

-- a record's fields are read in one way only
pub values_once : {ms : List ℕ} {i : ℕ} {cs : List Named} {fs : List Bytes} {vs us : Record} → Values ms i cs fs vs → Values ms i cs fs us → vs ≡ us
values_once no_field no_field = refl
values_once (a_field h k) (a_field g l) = let a = holds_once h g in let b = values_once k l in cc

-- the tests on a field pass exactly if it holds a value
pub field_right : {o : Owner} {c : Column} {f : Bytes} {v : Datum} → Holds o c f v → field_number (field_of c f) ≡ 0
unfolding field_of field_number text_field number_field
field_right {c = c} {f = f} (a_number {n} t e g h d) = rw (t, number_there c.optional f e, e, tested (both (at_most c.lo n) (at_most n c.hi)) (g, h), day_read c.day n d)
field_right {c = c} {f = f} (no_number t p q) = rw (t, tested (left_out_d c.optional f) (p, q))
field_right {c = c} {f = f} (a_text {t = w} t e h) = rw (t, worded_some f w e, tested (at_most (length w) c.hi) h)

pub right_field : (o : Owner) (c : Column) (f : Bytes) → field_number (field_of c f) ≡ 0 → (v : Datum) × Holds o c f v
unfolding field_of field_number text_field number_field
right_field o c f = by c.text (left_out c.optional f) refl (left_out_d c.optional f)
  where
    of_number : (n : Number) → c.text ≡ false → number_of f ≡ n → field_number (number_field c.day c.lo c.hi n) ≡ 0 → (v : Datum) × Holds o c f v
    of_number (N.Plus n) t e z = within (leb c.lo n && leb n c.hi) (both (at_most c.lo n) (at_most n c.hi)) z
      where
        within : (b : Bool) → Decides ((c.lo ≤ n) × (n ≤ c.hi)) b → field_number (pick b (day_field c.day n) (F.Refused 13)) ≡ 0 → (v : Datum) × Holds o c f v
        within true (holds p) z = (number n, a_number t e p.0 p.1 (day_right c.day n z))
        within false d z = absurd (let y : ⊥ = omega arith in y)
    of_number (N.Minus n) t e z = absurd (let y : ⊥ = omega arith in y)
    of_number N.Nothing t e z = absurd (let y : ⊥ = omega arith in y)

    of_text : (x : Option Bytes) → c.text ≡ true → record_text f ≡ x → field_number (text_field c.hi (words_of f)) ≡ 0 → (v : Datum) × Holds o c f v
    of_text None t e z = let y = rw (worded_none f e) at z in absurd (let y : ⊥ = omega arith in y)
    of_text (Some w) t e z = within (leb (length w) c.hi) (at_most (length w) c.hi) (rw (worded_some f w e) at z)
      where
        within : (b : Bool) → Decides (length w ≤ c.hi) b → field_number (pick b (F.Text (own_span f)) (F.Refused 13)) ≡ 0 → (v : Datum) × Holds o c f v
        within true (holds p) z = (words o w, a_text t e p)
        within false d z = absurd (let y : ⊥ = omega arith in y)

    by : (b d : Bool) → c.text ≡ b → Decides (LeftOut c.optional f) d →
        field_number (pick b (text_field c.hi (words_of f)) (pick d F.Missing (number_field c.day c.lo c.hi (number_of f)))) ≡ 0 → (v : Datum) × Holds o c f v
    by true d t x z = of_text (record_text f) t refl z
    by false true t (holds p) z = (missing, no_number t p.0 p.1)
    by false false t x z = of_number (number_of f) t refl z

-- and those on a record's fields
pub values_right : {ms : List ℕ} {i : ℕ} {cs : List Named} {fs : List Bytes} {vs : Record} → Values ms i cs fs vs → first_wrong cs fs ≡ 0
unfolding first_wrong
values_right no_field = refl
values_right (a_field h k) = rw (field_right h, values_right k)

pub right_values : (ms : List ℕ) (i : ℕ) (cs : List Named) (fs : List Bytes) → length fs ≡ length cs → first_wrong cs fs ≡ 0 → (vs : Record) × Values ms i cs fs vs
unfolding first_wrong
right_values ms i [] [] l e = ([], no_field)
right_values ms i [] (f ∷ fs) l e = absurd (let z : ⊥ = omega arith in z)
right_values ms i (c ∷ cs) [] l e = absurd (let z : ⊥ = omega arith in z)
right_values ms i (c ∷ cs) (f ∷ fs) l e = by (right_values ms (suc i) cs fs (omega arith)) (eqb (field_number (field_of c.column f)) 0) (equal (field_number (field_of c.column f)) 0) e
  where
    by : (first_wrong cs fs ≡ 0 → (vs : Record) × Values ms (suc i) cs fs vs) → (b : Bool) → Decides (field_number (field_of c.column f) ≡ 0) b →
        pick b (first_wrong cs fs) (field_number (field_of c.column f)) ≡ 0 → (vs : Record) × Values ms i (c ∷ cs) (f ∷ fs) vs
    by ih true (holds z) e =
        let x = right_field (owner_by ms i) c.column f z in
        let y = ih e in
        (x.0 ∷ y.0, a_field x.1 y.1)
    by ih false (fails n) e = absurd (n e)

-- the grammar's values are those handed out
pub values_are : (m : ℕ) {i : ℕ} {cs : List Named} {fs : List Bytes} {vs : Record} → 1 ≤ i → Values (marks_of m) i cs fs vs → vs ≡ values_of m i cs fs
unfolding values_of
values_are m l no_field = refl
values_are m {i} l (a_field h k) = let a = holds_datum h in let b = owner_one m i l in let d = values_are m (omega arith) k in cc

-- each column's field holds its value, whoever's a text is
pub record Held (cs : List Named) (fs : List Bytes) (vs : Record) : Type 0 where
  pub at : (k : ℕ) → k < length cs → (o : Owner) × Holds o (get_or cs k no_column).column (get_or fs k []) (get_or vs k (number 0))

held_at : {ms : List ℕ} {i : ℕ} {cs : List Named} {fs : List Bytes} {vs : Record} → Values ms i cs fs vs → (k : ℕ) → k < length cs →
    (o : Owner) × Holds o (get_or cs k no_column).column (get_or fs k []) (get_or vs k (number 0))
held_at no_field k l = absurd (let z : ⊥ = omega arith in z)
held_at {ms} (a_field {i} h g) zero l = (owner_by ms i, h)
held_at (a_field h g) (suc k) l = held_at g k (omega arith)

pub held : {ms : List ℕ} {i : ℕ} {cs : List Named} {fs : List Bytes} {vs : Record} → Values ms i cs fs vs → Held cs fs vs
held h = record { at = held_at h }

-- no number is a text
quoted_no_number : (f : Bytes) → number_of (34 ∷ f) ≡ N.Nothing
unfolding number_of digits all digit
quoted_no_number f = by (leb 1 (suc (length f)) && leb (suc (length f)) 18)
  where
    by : (b : Bool) → pick (b && false) (N.Plus (value 0 (34 ∷ f))) N.Nothing ≡ N.Nothing
    by true = refl
    by false = refl

number_no_text : (f : Bytes) (n : ℕ) → number_of f ≡ N.Plus n → no_bytes (record_text f) ≡ false
unfolding text_of
number_no_text [] n e = rw empty_no_text
number_no_text (b ∷ f) n e = rw (record_text_is (b ∷ f)) (by (eqb b 34) (equal b 34))
  where
    by : (d : Bool) → Decides (b ≡ 34) d → no_bytes (unpadded_in (pick d (body_of false f) None)) ≡ false
    by true (holds q) = let z : number_of (34 ∷ f) ≡ N.Plus n = rw q at e in let y = quoted_no_number f in absurd (false≢true (cc))
    by false (fails q) = refl

no_bytes_d : (o : Option Bytes) (t : Bytes) → o ≡ Some t → Decides (t ≡ []) (no_bytes o)
no_bytes_d None t e = absurd (false≢true (cc))
no_bytes_d (Some []) t e = holds (cc)
no_bytes_d (Some (b ∷ u)) t e = fails (λ q. absurd (false≢true (cc)))

-- field i holds an empty suggestion exactly if the mark is its own and its text is empty
here_d : (m i : ℕ) {c : Column} {f : Bytes} {v : Datum} → 1 ≤ i → Holds (owner_by (marks_of m) i) c f v → Decides (words O.Suggestion [] ≡ v) (eqb m i && no_bytes (record_text f))
unfolding owner_of
here_d m i l (a_number {n} t e g h d) = rw (number_no_text _ n e, and_false) (fails (λ q. absurd (false≢true (cc))))
here_d m i l (no_number t p q) = rw (q, empty_no_text, and_false) (fails (λ q. absurd (false≢true (cc))))
here_d m i {f = f} l (a_text {t} u e g) = rw (owner_one m i l) (by (eqb m i) (no_bytes (record_text f)) (no_bytes_d (record_text f) t e))
  where
    by : (b d : Bool) → Decides (t ≡ []) d → Decides (words O.Suggestion [] ≡ words (pick b O.Suggestion O.Operator) t) (b && d)
    by true true (holds q) = holds (rw q)
    by true false (fails n) = fails (λ q. n (cc))
    by false d k = fails (λ q. absurd (false≢true (cc)))

-- 15: the machine looks at the marked field, the grammar at every value
further : (m i : ℕ) (f : Bytes) (fs : List Bytes) →
    (eqb m i && no_bytes (record_text f) || leb (suc i) m && no_bytes (record_text (get_or fs (m - suc i) []))) ≡ (leb i m && no_bytes (record_text (get_or (f ∷ fs) (m - i) [])))
further m i f fs = by (eqb m i) (equal m i) (leb (suc i) m) (at_most (suc i) m)
  where
    at_zero : m - i ≡ 0 → get_or (f ∷ fs) (m - i) [] ≡ f
    at_zero e = rw e

    at_more : m - i ≡ suc (m - suc i) → get_or (f ∷ fs) (m - i) [] ≡ get_or fs (m - suc i) []
    at_more e = rw e

    or_false : (b : Bool) → (b || false) ≡ b
    or_false true = refl
    or_false false = refl

    by : (a : Bool) → Decides (m ≡ i) a → (b : Bool) → Decides (suc i ≤ m) b →
        (a && no_bytes (record_text f) || b && no_bytes (record_text (get_or fs (m - suc i) []))) ≡ (leb i m && no_bytes (record_text (get_or (f ∷ fs) (m - i) [])))
    by true (holds e) true (holds h) = absurd (let z : ⊥ = omega arith in z)
    by true (holds e) false d = rw (at_zero (omega arith), le-leb i m (omega arith), or_false)
    by false (fails n) true (holds h) = rw (at_more (omega arith), le-leb i m (omega arith))
    by false (fails n) false (fails k) = rw (lt-leb i m (omega arith))

empty_from : (m i : ℕ) {cs : List Named} {fs : List Bytes} {vs : Record} → 1 ≤ i → Values (marks_of m) i cs fs vs →
    Decides (Memᴰ (words O.Suggestion []) vs) (leb i m && empty_at fs (m - i))
empty_from m i l no_field = rw (empty_no_text, and_false) (fails Memᴰ.not-nil)
empty_from m i l (a_field {f} {fs} h k) =
    rw (further m i f fs) at
    (when (λ s. elim s [ inl e ↦ Memᴰ.head e | inr x ↦ Memᴰ.tail x ]) (λ x. Memᴰ.cases_cons x) (one_of (here_d m i l h) (empty_from m (suc i) (omega arith) k)))

-- the whole record
pub empty_d : (m : ℕ) {cs : List Named} {fs : List Bytes} {vs : Record} → Values (marks_of m) 1 cs fs vs → Decides (Memᴰ (words O.Suggestion []) vs) (empty_marked m fs)
unfolding empty_marked
empty_d m h = empty_from m 1 (omega arith) h
