-- The fixed tables: what holds of each entry is computed over the one list of tables. Assumes nothing.
use mathlib.Core.Path.{◌≡◌, refl, ap, sym, ◌∙◌}
use mathlib.Core.Logic.{⊎_elim}
use mathlib.Core.Bool.{Bool, true, false, false≢true, not, ◌&&◌, ◌||◌}
use mathlib.Core.List.Memᴰ
use mathlib.Core.List.{List, [], ◌∷◌, map, Memᴰ}
use Prim.Native.Nat.{ℕ, zero, suc, ◌+◌, ◌-◌, ◌<◌, ◌≤◌}
use native.Mathlib.Nat.{lt_of_not-le, eq-or-lt_of_le, le_of_suc-le-suc}
use native.Mathlib.Omega.{arith}
use lib.Dec.{eqb, leb}
use lib.ListN.{length, get_or, get_or-map, get_or-eq_default}
use borrow.Author.Tests.{leb-true, not-true}
use Rattle.page.specs.declared.Column.{Column}
use Rattle.page.specs.Bytes.{Bytes, bytes, pick, same}
use Rattle.page.specs.Lines.{find}
use Rattle.page.specs.Tables.{Named, Rule, points_differ, feeder_combined, rule_number, Table, all_tables, TABLES, WIDEST, MOST, no_table, no_column, table_at, number_at, columns, width, column_at, name_at, rules, table_named}
use Rattle.page.specs.Order.{Order, arranged, standing, place}
use Rattle.page.specs.Marks.{may_mark}
use Rattle.page.proofs.NameLaws.{found}
use Rattle.page.proofs.OrderLaws.{place_at, standing_length, standing_column}
use Rattle.page.proofs.TestLaws.{and_left, and_right}

-- the list is as long as it is said to be, and an entry past its end is no table
pub tables_counted : length all_tables ≡ TABLES
unfolding all_tables
tables_counted = refl

pub past_tables : (t : ℕ) → TABLES ≤ t → table_at t ≡ no_table
unfolding table_at all_tables
past_tables t h = get_or-eq_default all_tables no_table h

pub past_width : (t : ℕ) → TABLES ≤ t → width t ≡ 0
unfolding width columns
past_width t h = ap (λ (x : Table). length x.columns) (past_tables t h)

-- a test that each entry of a list passes

unfoldable pub each : {A : Type 0} → (A → Bool) → List A → Bool
each p [] = true
each p (x ∷ xs) = p x && each p xs

pub each_at : {A : Type 0} (p : A → Bool) (d : A) → p d ≡ true → (l : List A) → each p l ≡ true → (n : ℕ) → p (get_or l n d) ≡ true
unfolding each
each_at p d h [] e n = h
each_at p d h (x ∷ xs) e zero = and_left (p x) (each p xs) e
each_at p d h (x ∷ xs) e (suc n) = each_at p d h xs (and_right (p x) (each p xs) e) n

pub table_test : (p : Table → Bool) → p no_table ≡ true → each p all_tables ≡ true → (t : ℕ) → p (table_at t) ≡ true
unfolding table_at
table_test p h e t = each_at p no_table h all_tables e t

pub column_test : (p : Column → Bool) → p no_column.column ≡ true
    → each (λ (x : Table). each (λ (c : Named). p c.column) x.columns) all_tables ≡ true → (t k : ℕ) → p (column_at t k) ≡ true
unfolding column_at columns each
column_test p h e t k =
    each_at (λ (c : Named). p c.column) no_column h (table_at t).columns
    (table_test (λ (x : Table). each (λ (c : Named). p c.column) x.columns) refl e t) k

pub width_le : (t : ℕ) → width t ≤ WIDEST
unfolding width columns all_tables each
width_le t = leb-true _ _ (table_test (λ (x : Table). leb (length x.columns) WIDEST) refl refl t)

pub references_le : (t : ℕ) → length (table_at t).references ≤ MOST
unfolding all_tables each
references_le t = leb-true _ _ (table_test (λ (x : Table). leb (length x.references) MOST) refl refl t)

pub past_names : (t k : ℕ) → width t ≤ k → name_at t k ≡ ""
unfolding name_at width
past_names t k h = ap (λ (c : Named). c.name) (get_or-eq_default (columns t) no_column h)

pub past_columns : (t k : ℕ) → width t ≤ k → column_at t k ≡ no_column.column
unfolding column_at width
past_columns t k h = ap (λ (c : Named). c.column) (get_or-eq_default (columns t) no_column h)

-- "Where a column there allows NULL": no text does, and no key
pub optional_plain : (t k : ℕ) → (column_at t k).optional ≡ true → ((column_at t k).text ≡ false) × ((column_at t k).primary ≡ false) × ((column_at t k).second ≡ false)
unfolding all_tables each
optional_plain t k e =
    let c = column_at t k in
    let plain : Bool = not c.text && (not c.primary && not c.second) in
    let a : (not c.optional || plain) ≡ true =
    column_test (λ (x : Column). not x.optional || (not x.text && (not x.primary && not x.second))) refl refl t k in
    let b : plain ≡ true = rw e at a in
    let d = and_right (not c.text) (not c.primary && not c.second) b in (
      not-true _ (and_left (not c.text) (not c.primary && not c.second) b),
      not-true _ (and_left (not c.primary) (not c.second) d),
      not-true _ (and_right (not c.primary) (not c.second) d),
    )

-- the fields that may be marked

pub fillable_within : (t k : ℕ) → (column_at t k).fillable ≡ true → (k < width t) × (t < TABLES)
fillable_within t k e =
    let h : k < width t = lt_of_not-le (λ l. false≢true (sym (ap (λ (c : Column). c.fillable) (past_columns t k l)) ∙ e)) in
    let g : t < TABLES = lt_of_not-le (λ l. let z = past_width t l in omega arith) in
    (h, g)

-- at most one column of a table may be marked

unfoldable once : {A : Type 0} → (A → Bool) → List A → Bool
once p [] = true
once p (x ∷ xs) = pick (p x) (each (λ y. not (p y)) xs) (once p xs)

module _ {A : Type 0} (p : A → Bool) (d : A) (n : p d ≡ false) where
  once_here : (x : A) (xs : List A) (b : Bool) → p x ≡ b → p x ≡ true → pick b (each (λ y. not (p y)) xs) (once p xs) ≡ true
      → (j : ℕ) → p (get_or xs j d) ≡ false
  once_here x xs true q e o j = not-true _ (each_at (λ y. not (p y)) d (ap not n) xs o j)
  once_here x xs false q e o j = absurd (false≢true (sym q ∙ e))

  once_past : (x : A) (xs : List A) (b : Bool) → p x ≡ b → pick b (each (λ y. not (p y)) xs) (once p xs) ≡ true → (i j : ℕ)
      → p (get_or xs i d) ≡ true → p (get_or xs j d) ≡ true → (once p xs ≡ true → i ≡ j) → i ≡ j
  once_past x xs true q o i j e f k = absurd (false≢true (sym (not-true _ (each_at (λ y. not (p y)) d (ap not n) xs o i)) ∙ e))
  once_past x xs false q o i j e f k = k o

  once_same : (l : List A) → once p l ≡ true → (i j : ℕ) → p (get_or l i d) ≡ true → p (get_or l j d) ≡ true → i ≡ j
  unfolding once
  once_same [] o i j e f = absurd (false≢true (sym n ∙ e))
  once_same (x ∷ xs) o zero zero e f = refl
  once_same (x ∷ xs) o zero (suc j) e f = absurd (false≢true (sym (once_here x xs (p x) refl e o j) ∙ f))
  once_same (x ∷ xs) o (suc i) zero e f = absurd (false≢true (sym (once_here x xs (p x) refl f o i) ∙ e))
  once_same (x ∷ xs) o (suc i) (suc j) e f = ap suc (once_past x xs (p x) refl o i j e f (λ h. once_same xs h i j e f))

pub one_fillable : (t k l : ℕ) → (column_at t k).fillable ≡ true → (column_at t l).fillable ≡ true → k ≡ l
unfolding column_at columns once each all_tables
one_fillable t k l e f =
    once_same (λ (c : Named). c.column.fillable) no_column refl (table_at t).columns
    (table_test (λ (x : Table). once (λ (c : Named). c.column.fillable) x.columns) refl refl t) k l e f

-- a field that may be marked is there, and its column may be filled
pub mark_parts : (t : ℕ) (o : Order) (i : ℕ) → may_mark t o i ≡ true → (1 ≤ i) × (i ≤ length o) × ((column_at t (get_or o (i - 1) 0)).fillable ≡ true)
unfolding may_mark
mark_parts t o i e =
    let l : 1 ≤ i = leb-true 1 i (and_left (leb 1 i) (get_or (standing t o) (i - 1) no_column).column.fillable e) in
    let f = and_right (leb 1 i) (get_or (standing t o) (i - 1) no_column).column.fillable e in
    let h : i - 1 < length o =
    lt_of_not-le (λ k. false≢true (sym (ap (λ (c : Named). c.column.fillable) (get_or-eq_default (standing t o) no_column (omega (arith, standing_length t o)))) ∙ f)) in
    (l, omega arith, sym (ap (λ (c : Column). c.fillable) (standing_column t o (i - 1) h)) ∙ f)

pub one_markable : (t : ℕ) (o : Order) → arranged (width t) o ≡ true → (i j : ℕ) → may_mark t o i ≡ true → may_mark t o j ≡ true → i ≡ j
one_markable t o r i j e f =
    let a = mark_parts t o i e in
    let b = mark_parts t o j f in
    let g : get_or o (i - 1) 0 ≡ get_or o (j - 1) 0 = one_fillable t (get_or o (i - 1) 0) (get_or o (j - 1) 0) a.2 b.2 in
    let k : i - 1 ≡ j - 1 =
    sym (place_at (width t) o r (i - 1) (omega (arith, a.0))) ∙ ap (λ (c : ℕ). place c o) g ∙ place_at (width t) o r (j - 1) (omega (arith, b.0)) in
    omega arith

pub may_mark_within : (t : ℕ) (o : Order) (i : ℕ) → may_mark t o i ≡ true → (1 ≤ i) × (i ≤ length o) × (t < TABLES)
may_mark_within t o i e =
    let a = mark_parts t o i e in
    (a.0, a.1, (fillable_within t (get_or o (i - 1) 0) a.2).1)

-- what two functions of a table's place give alike at each of the tables, computed as one equation

unfoldable pub listed : {A : Type 0} → (ℕ → A) → ℕ → List A
listed f zero = []
listed f (suc n) = f n ∷ listed f n

listed_at : {A : Type 0} (f g : ℕ → A) (n : ℕ) → listed f n ≡ listed g n → (t : ℕ) → t < n → f t ≡ g t
unfolding listed
listed_at f g zero e t h = absurd (omega arith)
listed_at f g (suc n) e t h =
    ⊎_elim (λ (q : t ≡ n). let z : f n ≡ g n = cc in rw q z)
    (λ (l : t < n). let z : listed f n ≡ listed g n = cc in listed_at f g n z t l) (eq-or-lt_of_le (le_of_suc-le-suc h))

pub each_table : {A : Type 0} (f g : ℕ → A) → listed f TABLES ≡ listed g TABLES → (t : ℕ) → t < TABLES → f t ≡ g t
each_table f g e t h = listed_at f g TABLES e t h

-- a table is told by its number

unfoldable pub numbered : ℕ → List Table → ℕ
numbered n [] = 0
numbered n (x ∷ xs) = pick (eqb n x.number) 0 (suc (numbered n xs))

pub number_tells : (t : ℕ) → t < TABLES → numbered (number_at t) all_tables ≡ t
unfolding listed numbered number_at table_at all_tables
number_tells = each_table (λ (t : ℕ). numbered (number_at t) all_tables) (λ (t : ℕ). t) refl

pub number_injective : (t u : ℕ) → t < TABLES → u < TABLES → number_at t ≡ number_at u → t ≡ u
number_injective t u h k e = sym (number_tells t h) ∙ ap (λ (n : ℕ). numbered n all_tables) e ∙ number_tells u k

-- and by its name

pub name_tells : (t : ℕ) → t < TABLES → table_named (bytes (table_at t).name) ≡ t
unfolding listed table_named find same bytes table_at all_tables
name_tells = each_table (λ (t : ℕ). table_named (bytes (table_at t).name)) (λ (t : ℕ). t) refl

pub named_is : (w : Bytes) → table_named w < TABLES → bytes (table_at (table_named w)).name ≡ w
unfolding table_named table_at all_tables
named_is w h =
    let n = map (λ (t : Table). t.name) all_tables in
    let z : table_named w - 0 ≡ table_named w = omega arith in
    ap bytes (sym (get_or-map (λ (t : Table). t.name) all_tables (table_named w) no_table))
    ∙ rw z at (found 0 n w h)

-- the rules of a table

pub rule_some : (r : Rule) → eqb (rule_number r) 0 ≡ false
rule_some (points_differ p) = refl
rule_some (feeder_combined c x) = refl

pub each_in : {A : Type 0} (p : A → Bool) (l : List A) → each p l ≡ true → (x : A) → Memᴰ x l → p x ≡ true
unfolding each
each_in p [] e x m = absurd (Memᴰ.not-nil m)
each_in p (y ∷ l) e x m =
    ⊎_elim (λ (q : x ≡ y). rw q (and_left (p y) (each p l) e)) (λ (n : Memᴰ x l). each_in p l (and_right (p y) (each p l) e) x n) (Memᴰ.cases_cons m)

-- a column that is there and has a number that is never missing, and one that has a text that is never filled
pub record Counted (cs : List Named) (k : ℕ) : Type 0 where
  pub within : k < length cs
  pub number : (get_or cs k no_column).column.text ≡ false
  pub given : (get_or cs k no_column).column.optional ≡ false

pub record Worded (cs : List Named) (k : ℕ) : Type 0 where
  pub within : k < length cs
  pub text : (get_or cs k no_column).column.text ≡ true
  pub own : (get_or cs k no_column).column.fillable ≡ false

counts : List Named → ℕ → Bool
counts cs k = leb (suc k) (length cs) && (not (get_or cs k no_column).column.text && not (get_or cs k no_column).column.optional)

words : List Named → ℕ → Bool
words cs k = leb (suc k) (length cs) && ((get_or cs k no_column).column.text && not (get_or cs k no_column).column.fillable)

counted : (cs : List Named) (k : ℕ) → counts cs k ≡ true → Counted cs k
unfolding counts
counted cs k e =
    let c = (get_or cs k no_column).column in
    let b = and_right (leb (suc k) (length cs)) (not c.text && not c.optional) e in
    record {
      within = leb-true (suc k) (length cs) (and_left (leb (suc k) (length cs)) (not c.text && not c.optional) e);
      number = not-true _ (and_left (not c.text) (not c.optional) b);
      given = not-true _ (and_right (not c.text) (not c.optional) b);
    }

worded : (cs : List Named) (k : ℕ) → words cs k ≡ true → Worded cs k
unfolding words
worded cs k e =
    let c = (get_or cs k no_column).column in
    let b = and_right (leb (suc k) (length cs)) (c.text && not c.fillable) e in
    record {
      within = leb-true (suc k) (length cs) (and_left (leb (suc k) (length cs)) (c.text && not c.fillable) e);
      text = and_left c.text (not c.fillable) b;
      own = not-true _ (and_right c.text (not c.fillable) b);
    }

abbrev four : ℕ → List ℕ
four p = p ∷ (p + 1) ∷ (p + 2) ∷ (p + 3) ∷ []

abbrev three : ℕ → List ℕ
three x = x ∷ (x + 1) ∷ (x + 2) ∷ []

abbrev rule_stands : List Named → Rule → Bool
rule_stands cs (points_differ p) = each (counts cs) (four p)
rule_stands cs (feeder_combined c x) = each (counts cs) (four c) && each (words cs) (three x)

rule_there : (t : ℕ) (r : Rule) → Memᴰ r (rules t) → rule_stands (columns t) r ≡ true
unfolding columns rules each all_tables counts words
rule_there t r m = each_in (rule_stands (columns t)) (rules t) (table_test (λ (x : Table). each (rule_stands x.columns) x.rules) refl refl t) r m

-- four columns, the first of them p, that are so
pub record Four (cs : List Named) (p : ℕ) : Type 0 where
  pub first : Counted cs p
  pub second : Counted cs (p + 1)
  pub third : Counted cs (p + 2)
  pub fourth : Counted cs (p + 3)

all_four : (cs : List Named) (p : ℕ) → each (counts cs) (four p) ≡ true → Four cs p
all_four cs p e =
    record {
      first = counted cs p (each_in (counts cs) (four p) e p (Memᴰ.head refl));
      second = counted cs (p + 1) (each_in (counts cs) (four p) e (p + 1) (Memᴰ.tail (Memᴰ.head refl)));
      third = counted cs (p + 2) (each_in (counts cs) (four p) e (p + 2) (Memᴰ.tail (Memᴰ.tail (Memᴰ.head refl))));
      fourth = counted cs (p + 3) (each_in (counts cs) (four p) e (p + 3) (Memᴰ.tail (Memᴰ.tail (Memᴰ.tail (Memᴰ.head refl)))));
    }

-- the four columns of the two points
pub points_there : (t p : ℕ) → Memᴰ (points_differ p) (rules t) → Four (columns t) p
points_there t p m = all_four (columns t) p (rule_there t (points_differ p) m)

-- the four numbers and the three texts by which a feeder is told
pub record Fed (cs : List Named) (c x : ℕ) : Type 0 where
  pub numbers : Four cs c
  pub line_id : Worded cs x
  pub direction_id : Worded cs (x + 1)
  pub area_id : Worded cs (x + 2)

pub feeder_there : (t c x : ℕ) → Memᴰ (feeder_combined c x) (rules t) → Fed (columns t) c x
feeder_there t c x m =
    let cs = columns t in
    let a = rule_there t (feeder_combined c x) m in
    let e = and_right (each (counts cs) (four c)) (each (words cs) (three x)) a in
    record {
      numbers = all_four cs c (and_left (each (counts cs) (four c)) (each (words cs) (three x)) a);
      line_id = worded cs x (each_in (words cs) (three x) e x (Memᴰ.head refl));
      direction_id = worded cs (x + 1) (each_in (words cs) (three x) e (x + 1) (Memᴰ.tail (Memᴰ.head refl)));
      area_id = worded cs (x + 2) (each_in (words cs) (three x) e (x + 2) (Memᴰ.tail (Memᴰ.tail (Memᴰ.head refl))));
    }
