-- The file's records, section by section. Where each table stands at most once, a repeated key is a matter of one section, and a
-- reference a matter of the one section of its target. Assumes nothing.
use mathlib.Core.Path.{◌≡◌, refl, ap, sym, ◌∙◌}
use mathlib.Core.Bool.{Bool, true, false, ◌&&◌, ◌||◌, false≢true}
use mathlib.Core.List.{List, [], ◌∷◌, ◌++◌, map}
use Prim.Native.Nat.{ℕ, zero, suc, ◌+◌, ◌<◌, ◌≤◌}
use native.Mathlib.Omega.{arith}
use native.Mathlib.Nat.{add-zero}
use borrow.Author.Tests.{ne_eqb}
use lib.Dec.{eqb}
use lib.ListN.{length, get_or, take, drop}
use lib.Seq.{drop-cons, drop-length}
use Rattle.page.specs.declared.Column.{Column}
use Rattle.page.specs.declared.Refusal.{Refusal}
use Rattle.page.specs.Bytes.{bytes, pick}
use Rattle.page.specs.Tables.{Reference, table_named}
use Rattle.page.specs.Cut.{Section}
use Rattle.page.specs.Records.{Entry, entries_of, table_index}
use Rattle.page.specs.Answers.{refusal, sound, earlier}
use Rattle.page.specs.Rules.{Apart}
use Rattle.page.specs.File.{any, Filed, filed_in, filed, key_of, by_primary, same_record, repeats, referred, meets, first_record}
use Rattle.page.proofs.CutLaws.{no_section}
use Rattle.page.proofs.KeyLaws.{any_no, any_onto, any_append, onto, no_filed, faulty}
use Rattle.page.proofs.TestLaws.{or_false}

pub earlier_sound : (r : Refusal) → earlier sound r ≡ r
unfolding earlier
earlier_sound r = refl

pub earlier_refused : (v i l : ℕ) (r : Refusal) → (v ≡ 0 → ⊥) → earlier (refusal v i l) r ≡ refusal v i l
unfolding earlier
earlier_refused v i l r n = rw (ne_eqb v 0 n)

-- records after records
pub record_append : (v : ℕ) (bad : List Filed → Filed → Bool) → (v ≡ 0 → ⊥) → (b xs ys : List Filed)
    → first_record v bad b (xs ++ ys) ≡ earlier (first_record v bad b xs) (first_record v bad (onto xs b) ys)
unfolding first_record onto
record_append v bad n b [] ys = sym (earlier_sound (first_record v bad b ys))
record_append v bad n b (x ∷ xs) ys = by (bad b x) (record_append v bad n (x ∷ b) xs ys)
  where
    by : (q : Bool)
        → first_record v bad (x ∷ b) (xs ++ ys) ≡ earlier (first_record v bad (x ∷ b) xs) (first_record v bad (onto xs (x ∷ b)) ys)
        → pick q (refusal v x.section x.line) (first_record v bad (x ∷ b) (xs ++ ys))
        ≡ earlier (pick q (refusal v x.section x.line) (first_record v bad (x ∷ b) xs)) (first_record v bad (onto xs (x ∷ b)) ys)
    by true ih = sym (earlier_refused v x.section x.line (first_record v bad (onto xs (x ∷ b)) ys) n)
    by false ih = ih

-- two faults that are the same at each record
pub record_same : (v : ℕ) (bad bad' : List Filed → Filed → Bool) (b b' es : List Filed)
    → ((m : ℕ) → m < length es → faulty bad b es m ≡ faulty bad' b' es m) → first_record v bad b es ≡ first_record v bad' b' es
unfolding first_record faulty onto
record_same v bad bad' b b' [] h = refl
record_same v bad bad' b b' (e ∷ es) h =
    rw (h 0 (omega arith), record_same v bad bad' (e ∷ b) (e ∷ b') es (λ m l. h (suc m) (omega arith)))

-- the first section that is refused
unfoldable pub first_section : (ℕ → Section → Refusal) → ℕ → List Section → Refusal
first_section f i [] = sound
first_section f i (x ∷ xs) = earlier (f i x) (first_section f (suc i) xs)

module _ (f : ℕ → Section → Refusal) where
  -- past sections of which none is refused
  pub section_skip : (k i : ℕ) (xs : List Section) → k ≤ length xs → ((m : ℕ) → m < k → f (i + m) (get_or xs m no_section) ≡ sound)
      → first_section f i xs ≡ first_section f (i + k) (drop k xs)
  unfolding first_section
  section_skip zero i xs h p = rw add-zero
  section_skip (suc k) i [] h p = absurd (omega arith)
  section_skip (suc k) i (x ∷ xs) h p =
      let e : f i x ≡ sound = ap (λ (n : ℕ). f n x) (sym (add-zero i)) ∙ p 0 (omega arith) in
      let n : i + suc k ≡ suc i + k = omega arith in
      rw (e, n) (earlier_sound (first_section f (suc i) xs) ∙ section_skip k (suc i) xs (omega arith) (λ m l. next m ∙ p (suc m) (omega arith)))
    where
      next : (m : ℕ) → f (suc i + m) (get_or xs m no_section) ≡ f (i + suc m) (get_or xs m no_section)
      next m = ap (λ (n : ℕ). f n (get_or xs m no_section)) (let n : suc i + m ≡ i + suc m = omega arith in n)

  pub section_none : (i : ℕ) (xs : List Section) → ((m : ℕ) → m < length xs → f (i + m) (get_or xs m no_section) ≡ sound) → first_section f i xs ≡ sound
  unfolding first_section
  section_none i xs p =
      section_skip (length xs) i xs (omega arith) p ∙ ap (λ (l : List Section). first_section f (i + length xs) l) (drop-length xs)

  pub section_at : (k i : ℕ) (xs : List Section) → k < length xs → ((m : ℕ) → m < k → f (i + m) (get_or xs m no_section) ≡ sound)
      → (v n l : ℕ) → (v ≡ 0 → ⊥) → f (i + k) (get_or xs k no_section) ≡ refusal v n l → first_section f i xs ≡ refusal v n l
  unfolding first_section
  section_at k i xs h p v n l z e =
      section_skip k i xs (omega arith) p
      ∙ rw (drop-cons xs k no_section h, e) (earlier_refused v n l (first_section f (suc (i + k)) (drop (suc k) xs)) z)

-- the records of a section

abbrev filing : ℕ → ℕ → Entry → Filed
filing i t e = record { section = i; table = t; line = e.line; values = e.values }

abbrev pub no_entry : Entry
no_entry = record { line = 0; values = [] }

module _ (latin : Bool) (i : ℕ) (x : Section) where
  pub filed_at : (m : ℕ) → m < length (filed_in latin i x)
      → get_or (filed_in latin i x) m no_filed
      ≡ record { section = i; table = table_index x.lines; line = (get_or (entries_of latin x.lines) m no_entry).line; values = (get_or (entries_of latin x.lines) m no_entry).values }
  unfolding filed_in
  filed_at m h = go (entries_of latin x.lines) m h
    where
      go : (es : List Entry) (m : ℕ) → m < length (map (filing i (table_index x.lines)) es)
          → get_or (map (filing i (table_index x.lines)) es) m no_filed ≡ filing i (table_index x.lines) (get_or es m no_entry)
      go [] m h = absurd (omega arith)
      go (e ∷ es) zero h = refl
      go (e ∷ es) (suc m) h = go es m (omega arith)

  pub filed_table : (m : ℕ) → m < length (filed_in latin i x) → (get_or (filed_in latin i x) m no_filed).table ≡ table_index x.lines
  filed_table m h = ap (λ (e : Filed). e.table) (filed_at m h)

-- a fault that does not look at the records before
pub by_section : (v : ℕ) (bad : Filed → Bool) → (v ≡ 0 → ⊥) → (latin : Bool) (i : ℕ) (xs : List Section) (b : List Filed)
    → first_record v (λ before. bad) b (filed latin i xs) ≡ first_section (λ j x. first_record v (λ before. bad) [] (filed_in latin j x)) i xs
unfolding filed first_section first_record faulty
by_section v bad n latin i [] b = refl
by_section v bad n latin i (x ∷ xs) b =
    record_append v (λ before. bad) n b (filed_in latin i x) (filed latin (suc i) xs)
    ∙ rw (by_section v bad n latin (suc i) xs (onto (filed_in latin i x) b), record_same v (λ before. bad) (λ before. bad) b [] (filed_in latin i x) same)
  where
    same : (m : ℕ) → m < length (filed_in latin i x) → faulty (λ before. bad) b (filed_in latin i x) m ≡ faulty (λ before. bad) [] (filed_in latin i x) m
    same m h = refl

-- no record of b is of table t
abbrev Without : ℕ → List Filed → Type 0
Without t b = any (λ (d : Filed). eqb d.table t) b ≡ false

without_any : (t : ℕ) (f : Filed → Bool) (b : List Filed) → Without t b → any (λ (d : Filed). eqb d.table t && f d) b ≡ false
unfolding any
without_any t f [] h = refl
without_any t f (d ∷ b) h = by (eqb d.table t) refl h (without_any t f b)
  where
    by : (q : Bool) → eqb d.table t ≡ q → (q || any (λ (d : Filed). eqb d.table t) b) ≡ false → (Without t b → any (λ (d : Filed). eqb d.table t && f d) b ≡ false)
        → (q && f d || any (λ (d : Filed). eqb d.table t && f d) b) ≡ false
    by true q h ih = absurd (false≢true (sym h))
    by false q h ih = ih h

module _ (latin : Bool) (i : ℕ) (x : Section) where
  pub filed_without : (t : ℕ) → (table_index x.lines ≡ t → ⊥) → any (λ (d : Filed). eqb d.table t) (filed_in latin i x) ≡ false
  filed_without t n =
      any_no (λ (d : Filed). eqb d.table t) no_filed (filed_in latin i x) (λ j h.
      ne_eqb (get_or (filed_in latin i x) j no_filed).table t (λ e. n (sym (filed_table latin i x j h) ∙ e)))

  -- records of other tables before a section repeat none of its keys
  repeats_within : (p : Column → Bool) (b : List Filed) → Without (table_index x.lines) b → (m : ℕ) → m < length (filed_in latin i x)
      → faulty (repeats p) b (filed_in latin i x) m ≡ faulty (repeats p) [] (filed_in latin i x) m
  unfolding faulty repeats any
  repeats_within p b w m h = rw (any_onto f (take m es) b, any_onto f (take m es) [], none)
    where
      es : List Filed
      es = filed_in latin i x

      e : Filed
      e = get_or es m no_filed

      f : Filed → Bool
      f d = eqb d.table e.table && same_record (key_of p d) (key_of p e)

      none : any f b ≡ false
      none = without_any e.table (λ d. same_record (key_of p d) (key_of p e)) b (rw (filed_table latin i x m h) w)

abbrev table_in : Section → ℕ
table_in x = table_index x.lines

apart_tail : (x : Section) (xs : List Section) → Apart no_section table_in (x ∷ xs) → Apart no_section table_in xs
apart_tail x xs a i j h l = a (suc i) (suc j) (omega arith) (omega arith)

-- a key is repeated within its section: the first that is repeated is found section by section
pub repeats_by_section : (v : ℕ) (p : Column → Bool) → (v ≡ 0 → ⊥) → (latin : Bool) (i : ℕ) (xs : List Section) (b : List Filed)
    → ((j : ℕ) → j < length xs → any (λ (d : Filed). eqb d.table (table_index (get_or xs j no_section).lines)) b ≡ false)
    → Apart no_section (λ (x : Section). table_index x.lines) xs
    → first_record v (repeats p) b (filed latin i xs) ≡ first_section (λ j x. first_record v (repeats p) [] (filed_in latin j x)) i xs
unfolding filed first_section first_record
repeats_by_section v p n latin i [] b w a = refl
repeats_by_section v p n latin i (x ∷ xs) b w a =
    record_append v (repeats p) n b (filed_in latin i x) (filed latin (suc i) xs)
    ∙ rw (
      record_same v (repeats p) (repeats p) b [] (filed_in latin i x) (repeats_within latin i x p b (w 0 (omega arith))),
      repeats_by_section v p n latin (suc i) xs (onto (filed_in latin i x) b) further (apart_tail x xs a),
    )
  where
    further : (j : ℕ) → j < length xs → Without (table_index (get_or xs j no_section).lines) (onto (filed_in latin i x) b)
    further j h =
        let t = table_index (get_or xs j no_section).lines in
        any_onto (λ (d : Filed). eqb d.table t) (filed_in latin i x) b
        ∙ rw (filed_without latin i x t (a 0 (suc j) (omega arith) (omega arith)), w (suc j) (omega arith))

-- a reference is looked for in the one section of its target
module _ (latin : Bool) (e : Filed) (r : Reference) where
  abbrev target : ℕ
  target = table_named (bytes r.target)

  meets_other : (i : ℕ) (x : Section) → (table_index x.lines ≡ target → ⊥) → any (meets e r) (filed_in latin i x) ≡ false
  unfolding meets
  meets_other i x n =
      without_any target (λ d. same_record (key_of by_primary d) (referred r.columns e.values)) (filed_in latin i x) (filed_without latin i x target n)

  -- no section of the target: the reference is lost
  pub meets_nowhere : (i : ℕ) (xs : List Section) → ((k : ℕ) → k < length xs → table_index (get_or xs k no_section).lines ≡ table_named (bytes r.target) → ⊥)
      → any (meets e r) (filed latin i xs) ≡ false
  unfolding filed any
  meets_nowhere i [] h = refl
  meets_nowhere i (x ∷ xs) h =
      any_append (meets e r) (filed_in latin i x) (filed latin (suc i) xs)
      ∙ rw (meets_other i x (h 0 (omega arith)), meets_nowhere (suc i) xs (λ k l. h (suc k) (omega arith)))

  pub meets_in : (i : ℕ) (xs : List Section) (k : ℕ) → k < length xs → Apart no_section (λ (x : Section). table_index x.lines) xs
      → table_index (get_or xs k no_section).lines ≡ table_named (bytes r.target)
      → any (meets e r) (filed latin i xs) ≡ any (meets e r) (filed_in latin (i + k) (get_or xs k no_section))
  unfolding filed any
  meets_in i [] k h a q = absurd (omega arith)
  meets_in i (x ∷ xs) zero h a q =
      any_append (meets e r) (filed_in latin i x) (filed latin (suc i) xs)
      ∙ rw (meets_nowhere (suc i) xs (λ j l z. a 0 (suc j) (omega arith) (omega arith) (q ∙ sym z)), add-zero i) (or_false (any (meets e r) (filed_in latin i x)))
  meets_in i (x ∷ xs) (suc k) h a q =
      let n : i + suc k ≡ suc i + k = omega arith in
      any_append (meets e r) (filed_in latin i x) (filed latin (suc i) xs)
      ∙ rw (meets_other i x (λ z. a 0 (suc k) (omega arith) (omega arith) (z ∙ sym q)), n) (meets_in (suc i) xs k (omega arith) (apart_tail x xs a) q)

-- 17: where no table is refused, no two rows are of one table
