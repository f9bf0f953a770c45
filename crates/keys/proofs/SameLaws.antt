-- Two keys are the same exactly if their numbers are. Assumes nothing.
use mathlib.Core.Path.{◌≡◌, refl, ap, sym, ◌∙◌}
use mathlib.Core.Bool.{Bool, true, false, not, ◌&&◌, ◌||◌, false≢true}
use mathlib.Core.List.{List, [], ◌∷◌, map}
use Prim.Native.Nat.{ℕ, zero, suc, ◌≤◌}
use native.Mathlib.Omega.{arith}
use native.Mathlib.Nat.{le_trans}
use lib.Dec.{eqb, leb}
use lib.ListN.{length, get_or, length-map}
use borrow.Author.Tests.{leb-true, not-true}
use Rattle.page.specs.Bytes.{Bytes, bytes, pick, same, all}
use Rattle.page.specs.Tables.{Named, columns, table_named}
use Rattle.page.specs.Records.{Datum, number, missing, words, Record}
use Rattle.page.specs.File.{same_datum, same_record, key_in, by_primary, referred}
use Rattle.page.specs.declared.Column.{Column}
use Rattle.page.specs.declared.Owner.{Owner}
use Rattle.page.proofs.TestLaws.{and_left, and_right}
use Rattle.page.proofs.TableLaws.{each}
use Rattle.tables.specs.Arrays.{fill}
use Rattle.tables.specs.Keys.{reference_at}
use Rattle.keys.specs.Numbers.{datum_number, seven, key_numbers, refer_numbers}
use Rattle.keys.proofs.PackLaws.{byte, packed_same}
use Rattle.tables.proofs.ReferenceLaws.{count, Small, short, counts, counts_at, reference_size, reference_counts, primary_count, primary_counts, small_primary}

-- a value as its column asks; its bytes are bytes
pub data Fits (c : Column) : Datum → Type 0 where
  fits_number : {n : ℕ} → c.text ≡ false → Fits c (number n)
  fits_missing : c.text ≡ false → c.optional ≡ true → Fits c missing
  fits_text : {o : Owner} {t : Bytes} → c.text ≡ true → length t ≤ c.hi → all byte t ≡ true → Fits c (words o t)

-- one value a column
pub data Fitting : List Named → Record → Type 0 where
  no_value : Fitting [] []
  a_value : {c : Named} {cs : List Named} {v : Datum} {vs : Record} → Fits c.column v → Fitting cs vs → Fitting (c ∷ cs) (v ∷ vs)

-- values that their numbers tell apart
data Alike : Datum → Datum → Type 0 where
  numbers : {a b : ℕ} → Alike (number a) (number b)
  texts : {o p : Owner} {t u : Bytes} → length t ≤ 7 → length u ≤ 7 → all byte t ≡ true → all byte u ≡ true → Alike (words o t) (words p u)

data Alikes : Record → Record → Type 0 where
  none : Alikes [] []
  more : {u v : Datum} {us vs : Record} → Alike u v → Alikes us vs → Alikes (u ∷ us) (v ∷ vs)

alike_same : {u v : Datum} → Alike u v → eqb (datum_number u) (datum_number v) ≡ same_datum u v
unfolding datum_number
alike_same numbers = refl
alike_same (texts {t} {u} h k e f) = packed_same t u h k e f

alikes_same : {us vs : Record} → Alikes us vs → same (map datum_number us) (map datum_number vs) ≡ same_record us vs
unfolding same same_record
alikes_same none = refl
alikes_same (more h k) = rw (alike_same h, alikes_same k)

alikes_length : {us vs : Record} → Alikes us vs → length us ≡ length vs
alikes_length none = refl
alikes_length (more h k) = ap suc (alikes_length k)

-- what stands in the seven places is told by what fills them
filled_same : (n : ℕ) (xs ys : List ℕ) → length xs ≡ length ys → length xs ≤ n → same (fill n 0 xs) (fill n 0 ys) ≡ same xs ys
unfolding fill same
filled_same zero [] [] l h = refl
filled_same zero [] (y ∷ ys) l h = absurd (omega arith)
filled_same zero (x ∷ xs) ys l h = absurd (omega arith)
filled_same (suc n) [] [] l h = filled_same n [] [] refl (omega arith)
filled_same (suc n) [] (y ∷ ys) l h = absurd (omega arith)
filled_same (suc n) (x ∷ xs) [] l h = absurd (omega arith)
filled_same (suc n) (x ∷ xs) (y ∷ ys) l h = rw (filled_same n xs ys (omega arith) (omega arith))

seven_same : {us vs : Record} → Alikes us vs → length us ≤ 7 → same (seven (map datum_number us)) (seven (map datum_number vs)) ≡ same_record us vs
unfolding seven
seven_same {us} {vs} a h =
    let l = alikes_length a in
    let x = length-map us datum_number in
    let y = length-map vs datum_number in
    filled_same 7 (map datum_number us) (map datum_number vs) (omega arith) (omega arith) ∙ alikes_same a

-- a key of two records of a table

short_fits : (p : Column → Bool) (c : Named) → short p c ≡ true → p c.column ≡ true → {u v : Datum} → Fits c.column u → Fits c.column v → Alike u v
short_fits p c s e f g = by f g
  where
    parts : (c.column.optional ≡ false) × ((not c.column.text || leb c.column.hi 7) ≡ true)
    parts =
        let a : (not c.column.optional && (not c.column.text || leb c.column.hi 7)) ≡ true = rw e at s in (
          not-true _ (and_left (not c.column.optional) (not c.column.text || leb c.column.hi 7) a),
          and_right (not c.column.optional) (not c.column.text || leb c.column.hi 7) a,
        )

    by : {u v : Datum} → Fits c.column u → Fits c.column v → Alike u v
    by (fits_number a) (fits_number b) = numbers
    by (fits_number a) (fits_missing b o) = absurd (false≢true (sym parts.0 ∙ o))
    by (fits_number a) (fits_text b h q) = absurd (false≢true (sym a ∙ b))
    by (fits_missing a o) g = absurd (false≢true (sym parts.0 ∙ o))
    by (fits_text a h q) (fits_number b) = absurd (false≢true (sym b ∙ a))
    by (fits_text a h q) (fits_missing b o) = absurd (false≢true (sym parts.0 ∙ o))
    by (fits_text a h q) (fits_text b k r) =
        let l : c.column.hi ≤ 7 = leb-true c.column.hi 7 (rw a at parts.1) in
        texts (le_trans h l) (le_trans k l) q r

keys_alike : (p : Column → Bool) (cs : List Named) → each (short p) cs ≡ true → {us vs : Record} → Fitting cs us → Fitting cs vs → Alikes (key_in p cs us) (key_in p cs vs)
unfolding each key_in
keys_alike p [] s no_value no_value = none
keys_alike p (c ∷ cs) s (a_value {v = u} {vs = us} h k) (a_value {v = v} {vs = vs} g l) = by (p c.column) refl (keys_alike p cs a.1 k l)
  where
    a : (short p c ≡ true) × (each (short p) cs ≡ true)
    a = (and_left (short p c) (each (short p) cs) s, and_right (short p c) (each (short p) cs) s)

    by : (b : Bool) → p c.column ≡ b → Alikes (key_in p cs us) (key_in p cs vs)
        → Alikes (pick b (u ∷ key_in p cs us) (key_in p cs us)) (pick b (v ∷ key_in p cs vs) (key_in p cs vs))
    by true e r = more (short_fits p c a.0 e h g) r
    by false e r = r

key_length : (p : Column → Bool) (cs : List Named) {us : Record} → Fitting cs us → length (key_in p cs us) ≡ count p cs
unfolding key_in count
key_length p [] no_value = refl
key_length p (c ∷ cs) (a_value {v = v} {vs = vs} h k) = by (p c.column) (key_length p cs k)
  where
    by : (b : Bool) → length (key_in p cs vs) ≡ count p cs → length (pick b (v ∷ key_in p cs vs) (key_in p cs vs)) ≡ pick b (suc (count p cs)) (count p cs)
    by true e = ap suc e
    by false e = e

pub key_same : {p : Column → Bool} → Small p → (t : ℕ) (us vs : Record) → Fitting (columns t) us → Fitting (columns t) vs
    → same (key_numbers p t us) (key_numbers p t vs) ≡ same_record (key_in p (columns t) us) (key_in p (columns t) vs)
unfolding key_numbers
key_same {p} s t us vs h k = seven_same (keys_alike p (columns t) (s.texts t) h k) (let l = key_length p (columns t) h in omega (arith, s.few t))

-- a reference, and the primary key of a record of its target

data Plain : Record → Type 0 where
  all_plain : Plain []
  a_plain : {n : ℕ} {vs : Record} → Plain vs → Plain (number n ∷ vs)

data IsNumber : Datum → Type 0 where
  is_number : {n : ℕ} → IsNumber (number n)

plain_first : {v : Datum} {vs : Record} → IsNumber v → Plain vs → Plain (v ∷ vs)
plain_first is_number r = a_plain r

counted : (c : Column) {v : Datum} → Fits c v → counts c ≡ true → IsNumber v
counted c (fits_number t) e = is_number
counted c (fits_missing t o) e = absurd (false≢true (sym (not-true c.optional (and_right (not c.text) (not c.optional) e)) ∙ o))
counted c (fits_text t l q) e = absurd (false≢true (sym (not-true c.text (and_left (not c.text) (not c.optional) e)) ∙ t))

counted_value : (cs : List Named) {vs : Record} → Fitting cs vs → (k : ℕ) → counts_at cs k ≡ true → IsNumber (get_or vs k (number 0))
counted_value [] no_value k e = is_number
counted_value (c ∷ cs) (a_value f h) zero e = counted c.column f e
counted_value (c ∷ cs) (a_value f h) (suc k) e = counted_value cs h k e

plain_alike : {us vs : Record} → Plain us → Plain vs → length us ≡ length vs → Alikes us vs
plain_alike all_plain all_plain e = none
plain_alike all_plain (a_plain k) e = absurd (let z : ⊥ = omega arith in z)
plain_alike (a_plain h) all_plain e = absurd (let z : ⊥ = omega arith in z)
plain_alike (a_plain h) (a_plain k) e = more numbers (plain_alike h k (omega arith))

primary_numbers : (cs : List Named) → each primary_count cs ≡ true → {us : Record} → Fitting cs us → Plain (key_in by_primary cs us)
unfolding each key_in
primary_numbers [] s no_value = all_plain
primary_numbers (c ∷ cs) s (a_value {v} {vs} h k) =
    by c.column.primary (and_left (primary_count c) (each primary_count cs) s) (primary_numbers cs (and_right (primary_count c) (each primary_count cs) s) k)
  where
    by : (b : Bool) → (not b || counts c.column) ≡ true → Plain (key_in by_primary cs vs) → Plain (pick b (v ∷ key_in by_primary cs vs) (key_in by_primary cs vs))
    by true e r = plain_first (counted c.column h e) r
    by false e r = r

referred_numbers : (cs : List Named) {vs : Record} → Fitting cs vs → (ks : List ℕ) → each (counts_at cs) ks ≡ true → Plain (referred ks vs)
unfolding each referred
referred_numbers cs h [] e = all_plain
referred_numbers cs {vs} h (k ∷ ks) e =
    plain_first (counted_value cs h k (and_left (counts_at cs k) (each (counts_at cs) ks) e)) (referred_numbers cs h ks (and_right (counts_at cs k) (each (counts_at cs) ks) e))

referred_length : (ks : List ℕ) (vs : Record) → length (referred ks vs) ≡ length ks
unfolding referred
referred_length ks vs = length-map ks (λ (k : ℕ). get_or vs k (number 0))

pub reference_same : (t r : ℕ) (us vs : Record) → Fitting (columns t) us → Fitting (columns (table_named (bytes (reference_at t r).target))) vs
    → same (key_numbers by_primary (table_named (bytes (reference_at t r).target)) vs) (refer_numbers (reference_at t r).columns us)
    ≡ same_record (key_in by_primary (columns (table_named (bytes (reference_at t r).target))) vs) (referred (reference_at t r).columns us)
unfolding key_numbers refer_numbers
reference_same t r us vs h k =
    let u = table_named (bytes (reference_at t r).target) in
    let ks = (reference_at t r).columns in
    let l = key_length by_primary (columns u) k in
    let n : length (key_in by_primary (columns u) vs) ≡ length (referred ks us) = l ∙ sym (reference_size t r) ∙ sym (referred_length ks us) in
    seven_same (plain_alike (primary_numbers (columns u) (primary_counts u) k) (referred_numbers (columns t) h ks (reference_counts t r)) n) (omega (arith, small_primary.few u))
