-- An entry of a row of all columns is the property of the column that it stands for, and a name stands where it begins: the two laws that
-- docs/ARCHITECTURE.md names. Assumes nothing.
use mathlib.Core.Path.{◌≡◌, refl, ap, sym, ◌∙◌}
use mathlib.Core.List.{List, [], ◌∷◌, ◌++◌, map}
use Prim.Native.Nat.{ℕ, zero, suc, ◌+◌, ◌-◌, ◌<◌, ◌≤◌}
use Prim.Native.String.{String}
use native.Mathlib.Nat.{zero-add}
use native.Mathlib.Numerals.{add-one}
use native.Mathlib.Omega.{arith}
use lib.ListN.{length, get_or, take, drop, length-append, length-map, get_or-map}
use lib.Seq.{take-append_seam, drop-append-add, get_or-append-add}
use Rattle.page.specs.Bytes.{bytes}
use Rattle.page.specs.Lines.{joined}
use Rattle.page.specs.Tables.{Named, Table, all_tables, TABLES, no_table, no_column, table_at, columns, width}
use Rattle.page.proofs.TableLaws.{tables_counted}
use Rattle.tables.specs.Flat.{flat, row_given, COLUMNS, columns_before, first_column, words, word, row, Reads}
use Rattle.tables.proofs.ArrayLaws.{map_at}

-- where a table's columns stand in a row

front_at : {A : Type 0} (xs ys : List A) (k : ℕ) (d e : A) → k < length xs → get_or (xs ++ ys) k d ≡ get_or xs k e
front_at [] ys k d e h = absurd (omega arith)
front_at (x ∷ xs) ys zero d e h = refl
front_at (x ∷ xs) ys (suc k) d e h = front_at xs ys k d e (omega arith)

flat_at : {A : Type 0} (f : Table → List A) → ((x : Table) → length (f x) ≡ length x.columns) → (xs : List Table) (t k : ℕ) (d e : A)
    → k < length (get_or xs t no_table).columns → get_or (flat f xs) (columns_before t xs + k) d ≡ get_or (f (get_or xs t no_table)) k e
unfolding flat columns_before
flat_at f z [] t k d e h = absurd (omega arith)
flat_at f z (x ∷ xs) zero k d e h = rw zero-add (front_at (f x) (flat f xs) k d e (omega (arith, z x)))
flat_at f z (x ∷ xs) (suc t) k d e h =
    let n : length x.columns + columns_before t xs + k ≡ length (f x) + (columns_before t xs + k) = omega (arith, z x) in
    rw n (get_or-append-add (f x) (flat f xs) (columns_before t xs + k) d ∙ flat_at f z xs t k d e h)

columns_counted : length (flat (λ (x : Table). x.columns) all_tables) ≡ COLUMNS
unfolding flat all_tables
columns_counted = refl

row_length : {A : Type 0} (f : Named → A) (xs : List Table)
    → length (flat (λ (x : Table). map f x.columns) xs) ≡ length (flat (λ (x : Table). x.columns) xs)
unfolding flat
row_length f [] = refl
row_length f (x ∷ xs) =
    omega (
      arith,
      length-append (map f x.columns) (flat (λ (x : Table). map f x.columns) xs),
      length-append x.columns (flat (λ (x : Table). x.columns) xs),
      length-map x.columns f,
      row_length f xs,
    )

row_counted : {A : Type 0} (f : Named → A) → length (row_given f) ≡ COLUMNS
unfolding row_given
row_counted f = row_length f all_tables ∙ columns_counted

-- what is read out of a row that says f of each table's columns
part_read : {A B : Type 0} (row : List A) (a : A) (read : A → B) (f : Table → List B) → ((x : Table) → length (f x) ≡ length x.columns)
    → map read row ≡ flat f all_tables → (t k i : ℕ) (d : B) → i ≡ first_column t + k → k < width t → read (get_or row i a) ≡ get_or (f (table_at t)) k d
unfolding first_column width columns table_at
part_read {B = B} row a read f z told t k i d e h =
    sym (get_or-map read row i a) ∙ ap (λ (l : List B). get_or l i (read a)) told ∙ ap (λ (j : ℕ). get_or (flat f all_tables) j (read a)) e
    ∙ flat_at f z all_tables t k (read a) d h

module _ {A B : Type 0} (row : List A) (a : A) (read : A → B) (f : Named → B) (told : map read row ≡ row_given f) where
  pub read_at : (t k i : ℕ) → i ≡ first_column t + k → k < width t → read (get_or row i a) ≡ f (get_or (columns t) k no_column)
  unfolding row_given columns width
  read_at t k i e h =
      part_read row a read (λ (x : Table). map f x.columns) (λ x. length-map x.columns f) told t k i (read a) e h
      ∙ map_at f (columns t) k no_column (read a) h

-- how many words there are
abbrev pub WORDS : ℕ
WORDS = 1 + (COLUMNS + TABLES)

words_counted : length words ≡ WORDS
unfolding words
words_counted =
    let names : List String = row_given (λ (c : Named). c.name) in
    let titles : List String = map (λ (x : Table). x.name) all_tables in
    omega (
      arith,
      length-append names titles,
      row_counted (λ (c : Named). c.name),
      length-map all_tables (λ (x : Table). x.name),
      tables_counted,
    )

-- where each word begins, the first at n, and where the last ends
unfoldable pub starts_from : ℕ → List String → List ℕ
starts_from n [] = n ∷ []
starts_from n (w ∷ ws) = n ∷ starts_from (n + length (bytes w)) ws

unfoldable pub starts : List ℕ
starts = starts_from 0 words

abbrev start : ℕ → ℕ
start n = get_or starts n 0

start_here : (i : ℕ) (ws : List String) → get_or (starts_from i ws) 0 0 ≡ i
unfolding starts_from
start_here i [] = refl
start_here i (w ∷ ws) = refl

-- a word stands from where it begins to where the next one does
record Between (i : ℕ) (ws : List String) (n : ℕ) : Type 0 where
  first : i ≤ get_or (starts_from i ws) n 0
  ordered : get_or (starts_from i ws) n 0 ≤ get_or (starts_from i ws) (suc n) 0
  within : get_or (starts_from i ws) (suc n) 0 ≤ i + length (joined (map bytes ws))
  is : take (get_or (starts_from i ws) (suc n) 0 - get_or (starts_from i ws) n 0) (drop (get_or (starts_from i ws) n 0 - i) (joined (map bytes ws)))
      ≡ bytes (get_or ws n "")

between : (i : ℕ) (ws : List String) (n : ℕ) → n < length ws → Between i ws n
unfolding starts_from joined
between i [] n h = absurd (omega arith)
between i (w ∷ ws) zero h =
    let e = start_here (i + length (bytes w)) ws in
    let a : i + length (bytes w) - i ≡ length (bytes w) = omega arith in
    let b : i - i ≡ 0 = omega arith in
    record {
      first = omega arith;
      ordered = omega arith;
      within = omega (arith, length-append (bytes w) (joined (map bytes ws)));
      is = rw (e, a, b) (take-append_seam (bytes w) (joined (map bytes ws)));
    }
between i (w ∷ ws) (suc n) h =
    let l = length (bytes w) in
    let s = get_or (starts_from (i + l) ws) n 0 in
    let x = between (i + l) ws n (omega arith) in
    let f = x.first in
    let a : s - i ≡ l + (s - (i + l)) = omega arith in
    record {
      first = omega arith;
      ordered = x.ordered;
      within = omega (arith, x.within, length-append (bytes w) (joined (map bytes ws)));
      is = rw (a, drop-append-add (bytes w) (joined (map bytes ws)) (s - (i + l))) x.is;
    }

pub reads_word : (n : ℕ) → n < WORDS → Reads (record { from = start n; to = start (n + 1) }) (word n)
unfolding starts row word
reads_word n h =
    let b = between 0 words n (omega (arith, words_counted)) in
    let z : start n - 0 ≡ start n = omega arith in
    rw add-one (record { ordered = b.ordered; within = omega (arith, b.within); is = rw z at b.is })
