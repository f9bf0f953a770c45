-- What holds of each reference is computed over the one list of tables. Assumes nothing.
use mathlib.Core.Path.{◌≡◌, refl, ap, sym, ◌∙◌}
use mathlib.Core.Bool.{Bool, true, false, not, ◌&&◌, ◌||◌}
use mathlib.Core.List.{List, [], ◌∷◌, map}
use Prim.Native.Nat.{ℕ, zero, suc, ◌+◌, ◌<◌, ◌≤◌}
use native.Mathlib.Nat.{add-zero}
use native.Mathlib.Omega.{arith}
use lib.Dec.{eqb, leb}
use lib.ListN.{length, get_or, get_or-map}
use lib.Seq.{ext_get_or}
use borrow.Author.Tests.{eqb-true, leb-true}
use Rattle.page.specs.Bytes.{bytes, pick, same}
use Rattle.page.specs.Lines.{find}
use Rattle.page.specs.Tables.{Named, Reference, Table, all_tables, WIDEST, no_column, table_at, columns, column_at, table_named}
use Rattle.page.specs.File.{any, by_primary, by_second}
use Rattle.page.specs.declared.Column.{Column}
use Rattle.page.proofs.TestLaws.{same_true}
use Rattle.page.proofs.TableLaws.{each, each_at, table_test}
use Rattle.tables.specs.Keys.{by_key, key_columns, no_reference, reference_at, flags, refer_columns}
use Rattle.tables.proofs.ArrayLaws.{fill_is}

pub reference_test : (p : Table → Reference → Bool) → ((x : Table) → p x no_reference ≡ true)
    → each (λ (x : Table). each (p x) x.references) all_tables ≡ true → (t r : ℕ) → p (table_at t) (reference_at t r) ≡ true
unfolding reference_at each
reference_test p h e t r =
    each_at (p (table_at t)) no_reference (h (table_at t)) (table_at t).references
    (table_test (λ (x : Table). each (p x) x.references) refl e t) r

-- the places that are flagged, the first counted as i
unfoldable pub flagged : ℕ → List Bool → List ℕ
flagged i [] = []
flagged i (b ∷ bs) = pick b (i ∷ flagged (suc i) bs) (flagged (suc i) bs)

-- the columns of each reference rise, and are columns: computed of the tables as they stand, since unfolded over a reference that is not
-- known each place would double the term

unfoldable rising : List ℕ → Bool
rising ks = same (flagged 0 (flags WIDEST 0 ks)) ks

none_rise : rising [] ≡ true
unfolding rising flags flagged same any
none_rise = refl

all_rise : each (λ (x : Table). each (λ (y : Reference). rising y.columns) x.references) all_tables ≡ true
unfolding rising all_tables each flags flagged same any
all_rise = refl

pub flags_columns : (t r : ℕ) → flagged 0 (flags WIDEST 0 (reference_at t r).columns) ≡ (reference_at t r).columns
unfolding rising
flags_columns t r = same_true _ _ (reference_test (λ x (y : Reference). rising y.columns) (λ x. none_rise) all_rise t r)

-- how many columns a key has
unfoldable pub count : (Column → Bool) → List Named → ℕ
count p [] = 0
count p (c ∷ cs) = pick (p c.column) (suc (count p cs)) (count p cs)

-- a reference has as many columns as its target's primary key
pub reference_size : (t r : ℕ) → length (reference_at t r).columns ≡ count by_primary (columns (table_named (bytes (reference_at t r).target)))
unfolding all_tables each count columns table_at table_named find same bytes
reference_size t r =
    eqb-true _ _
    (reference_test (λ x (y : Reference). eqb (length y.columns) (count by_primary (columns (table_named (bytes y.target))))) (λ x. refl) refl t r)

-- and they hold numbers, none of which may be missing
abbrev pub counts : Column → Bool
counts c = not c.text && not c.optional

abbrev pub counts_at : List Named → ℕ → Bool
counts_at cs k = counts (get_or cs k no_column).column

pub reference_counts : (t r : ℕ) → each (counts_at (columns t)) (reference_at t r).columns ≡ true
unfolding all_tables each columns
reference_counts t r = reference_test (λ x (y : Reference). each (counts_at x.columns) y.columns) (λ x. refl) refl t r

-- a key has at most seven columns; none of them may be missing, and its texts have at most seven bytes
abbrev pub short : (Column → Bool) → Named → Bool
short p c = not (p c.column) || (not c.column.optional && (not c.column.text || leb c.column.hi 7))

pub record Small (p : Column → Bool) : Type 0 where
  pub few : (t : ℕ) → count p (columns t) ≤ 7
  pub texts : (t : ℕ) → each (short p) (columns t) ≡ true

pub small_primary : Small by_primary
unfolding all_tables each count columns
small_primary =
    record {
      few = λ t. leb-true _ _ (table_test (λ (x : Table). leb (count by_primary x.columns) 7) refl refl t);
      texts = λ t. table_test (λ (x : Table). each (short by_primary) x.columns) refl refl t;
    }

pub small_second : Small by_second
unfolding all_tables each count columns
small_second =
    record {
      few = λ t. leb-true _ _ (table_test (λ (x : Table). leb (count by_second x.columns) 7) refl refl t);
      texts = λ t. table_test (λ (x : Table). each (short by_second) x.columns) refl refl t;
    }

-- a primary key has numbers only
abbrev pub primary_count : Named → Bool
primary_count c = not c.column.primary || counts c.column

pub primary_counts : (t : ℕ) → each primary_count (columns t) ≡ true
unfolding all_tables each columns
primary_counts t = table_test (λ (x : Table). each primary_count x.columns) refl refl t

-- a key's columns, and those of a reference, place by place

key_none : (b : Bool) → false ≡ by_key b no_column.column
key_none true = refl
key_none false = refl

pub key_is : (b : Bool) (t : ℕ) (r : List Bool) → length r ≡ WIDEST → ((k : ℕ) → k < WIDEST → get_or r k false ≡ by_key b (column_at t k))
    → r ≡ key_columns (by_key b) t
unfolding key_columns column_at
key_is b t r l h =
    let f : Named → Bool = λ c. by_key b c.column in
    fill_is WIDEST false (map f (columns t)) r l
    (λ k i. h k i ∙ sym (get_or-map f (columns t) k no_column) ∙ ap (get_or (map f (columns t)) k) (sym (key_none b)))

flags_length : (n i : ℕ) (ks : List ℕ) → length (flags n i ks) ≡ n
unfolding flags
flags_length zero i ks = refl
flags_length (suc n) i ks = ap suc (flags_length n (suc i) ks)

flags_at : (n i k : ℕ) (ks : List ℕ) → k < n → get_or (flags n i ks) k false ≡ any (eqb (i + k)) ks
unfolding flags
flags_at zero i k ks h = absurd (omega arith)
flags_at (suc n) i zero ks h = rw add-zero
flags_at (suc n) i (suc k) ks h = let z : i + suc k ≡ suc i + k = omega arith in rw z (flags_at n (suc i) k ks (omega arith))

pub refer_is : (t j : ℕ) (r : List Bool) → length r ≡ WIDEST → ((k : ℕ) → k < WIDEST → get_or r k false ≡ any (eqb k) (reference_at t j).columns)
    → r ≡ refer_columns t j
unfolding refer_columns
refer_is t j r l h =
    let ks = (reference_at t j).columns in
    ext_get_or false r (flags WIDEST 0 ks) (l ∙ sym (flags_length WIDEST 0 ks))
    (λ k m.
    let i : k < WIDEST = omega arith in
    let z : 0 + k ≡ k = omega arith in
    h k i ∙ sym (rw z at (flags_at WIDEST 0 k ks i)))
