-- A choice, place by place from the last one on, and which of a key's numbers a column is. Assumes nothing.
use mathlib.Core.Path.{◌≡◌, refl, ap, sym, ◌∙◌}
use mathlib.Core.Bool.{Bool, true, false, false≢true, not, ◌||◌}
use mathlib.Core.List.{List, [], ◌∷◌, map}
use Prim.Native.Nat.{ℕ, zero, suc, ◌+◌, ◌-◌, ◌*◌, ◌^◌, ◌<◌, ◌≤◌}
use native.Mathlib.Nat.{pow-zero, pow-suc, pow-le-pow_right, mul-le-mul_right}
use native.Mathlib.Numerals.{add-one}
use native.Mathlib.Omega.{arith}
use lib.Dec.{eqb, leb, lit<}
use lib.ListN.{length, get_or, drop, drop_of_length-le, length-drop}
use lib.Seq.{drop-cons}
use borrow.Author.Tests.{leb-true, ne_eqb}
use Rattle.page.specs.Bytes.{pick}
use Rattle.page.specs.Tables.{Named, Reference, Table, all_tables, WIDEST, no_column, columns, column_at, width}
use Rattle.page.specs.Order.{Order, arranged, place}
use Rattle.page.specs.File.{any, has_key}
use Rattle.page.specs.declared.Column.{Column}
use Rattle.page.proofs.TableLaws.{each, table_test, width_le}
use Rattle.page.proofs.KeyLaws.{any_yes, any_no}
use Rattle.page.proofs.OrderLaws.{arranged_below, place_in}
use Rattle.arrangement.specs.Orders.{held, Orderly}
use Rattle.arrangement.proofs.OrderLaws.{held_length, held_at}
use Rattle.tables.specs.Arrays.{fill}
use Rattle.tables.specs.Keys.{by_key, key_columns, refer_columns, flags}
use Rattle.choices.specs.Choices.{coded, kind_of, total, rank, choice_of, key_choice}
use Rattle.tables.proofs.ArrayLaws.{fill_at, map_at}
use Rattle.tables.proofs.ReferenceLaws.{reference_test}

-- the columns taken before a column

pub rank_first : (bs : List Bool) → rank bs 0 ≡ 0
unfolding rank
rank_first [] = refl
rank_first (b ∷ bs) = refl

pub rank_step : (bs : List Bool) (c : ℕ) → rank bs (c + 1) ≡ rank bs c + pick (get_or bs c false) 1 0
unfolding rank
rank_step [] c = refl
rank_step (b ∷ bs) zero = let z = rank_first bs in omega arith
rank_step (b ∷ bs) (suc c) =
    let ih = rank_step bs c in
    let n : suc c + 1 ≡ suc (c + 1) = omega arith in
    rw n (omega arith)

pub rank_le : (bs : List Bool) (c : ℕ) → rank bs c ≤ total bs
unfolding rank total
rank_le [] c = omega arith
rank_le (b ∷ bs) zero = omega arith
rank_le (b ∷ bs) (suc c) = omega (arith, rank_le bs c)

pub rank_lt : (bs : List Bool) (c : ℕ) → get_or bs c false ≡ true → rank bs c < total bs
unfolding rank total
rank_lt [] c e = absurd (false≢true e)
rank_lt (b ∷ bs) zero e = rw e (omega arith)
rank_lt (b ∷ bs) (suc c) e = omega (arith, rank_lt bs c e)

pub rank_up : (bs : List Bool) (c d : ℕ) → c < d → get_or bs c false ≡ true → rank bs c < rank bs d
unfolding rank
rank_up [] c d h e = absurd (false≢true e)
rank_up (b ∷ bs) c zero h e = absurd (omega arith)
rank_up (b ∷ bs) zero (suc d) h e = rw e (omega arith)
rank_up (b ∷ bs) (suc c) (suc d) h e = omega (arith, rank_up bs c d (omega arith) e)

-- the column of each number of a key
pub record Ranked (bs : List Bool) (n s : ℕ) : Type 0 where
  pub column : ℕ
  pub within : column < n
  pub taken : get_or bs column false ≡ true
  pub is : rank bs column ≡ s

pub rank_find : (bs : List Bool) (n s : ℕ) → s < rank bs n → Ranked bs n s
unfolding rank
rank_find [] n s h = absurd (omega arith)
rank_find (b ∷ bs) zero s h = absurd (omega arith)
rank_find (true ∷ bs) (suc n) zero h = record { column = 0; within = omega arith; taken = refl; is = refl }
rank_find (true ∷ bs) (suc n) (suc s) h =
    let r = rank_find bs n s (omega arith) in
    let i = r.is in
    let w = r.within in
    record { column = suc r.column; within = omega arith; taken = r.taken; is = omega arith }
rank_find (false ∷ bs) (suc n) s h =
    let r = rank_find bs n s (omega arith) in
    let i = r.is in
    let w = r.within in
    record { column = suc r.column; within = omega arith; taken = r.taken; is = omega arith }

-- no key and no reference has more than seven columns
pub key_few : (second : Bool) (t : ℕ) → total (key_columns (by_key second) t) ≤ 7
unfolding all_tables each total fill key_columns columns
key_few true t = leb-true _ _ (table_test (λ (x : Table). leb (total (fill WIDEST false (map (λ (c : Named). c.column.second) x.columns))) 7) refl refl t)
key_few false t = leb-true _ _ (table_test (λ (x : Table). leb (total (fill WIDEST false (map (λ (c : Named). c.column.primary) x.columns))) 7) refl refl t)

pub refer_few : (t r : ℕ) → total (refer_columns t r) ≤ 7
unfolding all_tables each total flags any refer_columns
refer_few t r = leb-true _ _ (reference_test (λ x (y : Reference). leb (total (flags WIDEST 0 y.columns)) 7) (λ x. refl) refl t r)

-- a number of digits below b

coded_lt : (b : ℕ) (f : ℕ → ℕ) → 0 < b → ((c : ℕ) → f c < b) → (o : Order) → coded b (map f o) < b ^ length o
unfolding coded
coded_lt b f n h [] = rw (pow-zero b) (omega arith)
coded_lt b f n h (c ∷ o) =
    let ih = coded_lt b f n h o in
    let p : b ^ suc (length o) ≡ b ^ length o * b = pow-suc b (length o) in
    let k = h c in
    let m : (coded b (map f o) + 1) * b ≤ b ^ length o * b = mul-le-mul_right b (omega arith) in
    rw p (omega arith)

module _ (bs : List Bool) (t : ℕ) where
  abbrev kind_at : ℕ → ℕ
  kind_at c = kind_of (get_or bs c false) (column_at t c)

  kind_lt : (c : ℕ) → kind_at c < 4
  unfolding kind_of
  kind_lt c = by (get_or bs c false) (column_at t c).text
    where
      by : (b x : Bool) → pick b (pick x 2 1) 0 < 4
      by true true = omega arith
      by true false = omega arith
      by false x = omega arith

  -- the places from k on
  unfoldable pub kinds_from : Order → ℕ → ℕ
  kinds_from o k = coded 4 (map kind_at (drop k o))

  unfoldable pub slots_from : Order → ℕ → ℕ
  slots_from o k = coded 8 (map (rank bs) (drop k o))

  module _ (o : Order) (k : ℕ) where
    pub kinds_end : length o ≤ k → kinds_from o k ≡ 0
    unfolding kinds_from coded
    kinds_end h = rw (drop_of_length-le o h)

    pub slots_end : length o ≤ k → slots_from o k ≡ 0
    unfolding slots_from coded
    slots_end h = rw (drop_of_length-le o h)

    kinds_down : k < length o → kinds_from o k ≡ kinds_from o (k + 1) * 4 + kind_of (get_or bs (get_or o k 0) false) (column_at t (get_or o k 0))
    unfolding kinds_from coded
    kinds_down h = rw (add-one, drop-cons o k 0 h)

    slots_down : k < length o → slots_from o k ≡ slots_from o (k + 1) * 8 + rank bs (get_or o k 0)
    unfolding slots_from coded
    slots_down h = rw (add-one, drop-cons o k 0 h)

    few : length o ≤ WIDEST → length (drop k o) ≤ WIDEST
    few h = omega (arith, length-drop k o)

    kinds_small : length o ≤ WIDEST → kinds_from o k < 4 ^ WIDEST
    unfolding kinds_from
    kinds_small h =
        let a = coded_lt 4 kind_at (omega arith) kind_lt (drop k o) in
        let b : 4 ^ length (drop k o) ≤ 4 ^ WIDEST = pow-le-pow_right (lit< tt) (few h) in
        omega arith

    slots_small : total bs ≤ 7 → length o ≤ WIDEST → slots_from o k < 8 ^ WIDEST
    unfolding slots_from
    slots_small e h =
        let a = coded_lt 8 (rank bs) (omega arith) (λ c. omega (arith, rank_le bs c)) (drop k o) in
        let b : 8 ^ length (drop k o) ≤ 8 ^ WIDEST = pow-le-pow_right (lit< tt) (few h) in
        omega arith

  pub choice_all : (o : Order) → record { kinds = kinds_from o 0; slots = slots_from o 0 } ≡ choice_of bs t o
  unfolding kinds_from slots_from choice_of
  choice_all o = refl

-- one place more, from the last one on: the column that stands before place k
pub record Down (bs : List Bool) (t : ℕ) (a : List ℕ) (k : ℕ) : Type 0 where
  pub below : get_or a (k - 1) 0 < WIDEST
  pub kinds : kinds_from bs t (held t a) (k - 1)
      ≡ kinds_from bs t (held t a) k * 4 + kind_of (get_or bs (get_or a (k - 1) 0) false) (column_at t (get_or a (k - 1) 0))
  pub slots : slots_from bs t (held t a) (k - 1) ≡ slots_from bs t (held t a) k * 8 + rank bs (get_or a (k - 1) 0)
  pub kinds_fit : kinds_from bs t (held t a) k < 4 ^ WIDEST
  pub slots_fit : slots_from bs t (held t a) k < 8 ^ WIDEST
  pub ranked : rank bs (get_or a (k - 1) 0) ≤ 7

pub choice_down : (bs : List Bool) (t : ℕ) (a : List ℕ) (k : ℕ) → Orderly a × (total bs ≤ 7) → 0 < k → k ≤ width t → Down bs t a k
choice_down bs t a k y p h =
    let o = held t a in
    let n : length o ≡ width t = held_length t a y.0 in
    let w = width_le t in
    let m : k - 1 + 1 ≡ k = omega arith in
    let x : get_or o (k - 1) 0 ≡ get_or a (k - 1) 0 = held_at t a (k - 1) (omega arith) in
    record {
      below = y.0.small (k - 1);
      kinds = rw (m, x) at (kinds_down bs t o (k - 1) (omega arith));
      slots = rw (m, x) at (slots_down bs t o (k - 1) (omega arith));
      kinds_fit = kinds_small bs t o k (omega arith);
      slots_fit = slots_small bs t o k y.1 (omega arith);
      ranked = omega (arith, rank_le bs (get_or a (k - 1) 0), y.1);
    }

-- a table has a key exactly if a field is chosen for it

same_none : (a b : Bool) → (a ≡ false → b ≡ false) → (b ≡ false → a ≡ false) → a ≡ b
same_none true true f g = refl
same_none true false f g = g refl
same_none false b f g = sym (f refl)

any_none : {A : Type 0} (p : A → Bool) (d : A) (xs : List A) → any p xs ≡ false → (j : ℕ) → j < length xs → p (get_or xs j d) ≡ false
any_none p d xs e j h = by (p (get_or xs j d)) refl
  where
    by : (b : Bool) → p (get_or xs j d) ≡ b → b ≡ false
    by true q = absurd (false≢true (sym e ∙ any_yes p d xs j h q))
    by false q = refl

kinds_none : (bs : List Bool) (t : ℕ) (o : Order) → eqb (choice_of bs t o).kinds 0 ≡ not (any (λ (c : ℕ). get_or bs c false) o)
unfolding choice_of coded any kind_of
kinds_none bs t [] = refl
kinds_none bs t (x ∷ o) = by (get_or bs x false) (column_at t x).text (kinds_none bs t o)
  where
    by : (b y : Bool) → eqb (choice_of bs t o).kinds 0 ≡ not (any (λ (c : ℕ). get_or bs c false) o)
        → eqb ((choice_of bs t o).kinds * 4 + pick b (pick y 2 1) 0) 0 ≡ not (b || any (λ (c : ℕ). get_or bs c false) o)
    by true true ih = ne_eqb ((choice_of bs t o).kinds * 4 + 2) 0 (λ e. omega arith)
    by true false ih = ne_eqb ((choice_of bs t o).kinds * 4 + 1) 0 (λ e. omega arith)
    by false y ih = zero_times (choice_of bs t o).kinds ∙ ih
      where
        zero_times : (q : ℕ) → eqb (q * 4 + 0) 0 ≡ eqb q 0
        zero_times zero = refl
        zero_times (suc q) = ne_eqb (suc q * 4 + 0) 0 (λ e. omega arith) ∙ sym (ne_eqb (suc q) 0 (λ e. omega arith))

module _ (p : Column → Bool) (t : ℕ) (o : Order) (a : arranged (width t) o ≡ true) where
  abbrev in_key : ℕ → Bool
  in_key c = get_or (key_columns p t) c false

  in_key_is : (c : ℕ) → c < width t → in_key c ≡ p (get_or (columns t) c no_column).column
  unfolding key_columns width
  in_key_is c h =
      fill_at false false WIDEST (map (λ (c : Named). p c.column) (columns t)) c (omega (arith, width_le t))
      ∙ map_at (λ (c : Named). p c.column) (columns t) c no_column false h

  keyed : any in_key o ≡ has_key p t
  unfolding has_key width
  keyed =
      same_none (any in_key o) (any (λ (c : Named). p c.column) (columns t))
      (λ e. any_no (λ (c : Named). p c.column) no_column (columns t) (λ c h.
      let l = place_in (width t) o a c h in
      sym (in_key_is c h) ∙ ap in_key (sym l.1) ∙ any_none in_key 0 o e (place c o) l.0))
      (λ e. any_no in_key 0 o (λ k h.
      let l = arranged_below (width t) o a k h in
      in_key_is (get_or o k 0) l ∙ any_none (λ (c : Named). p c.column) no_column (columns t) e (get_or o k 0) l))

  pub has_choice : has_key p t ≡ not (eqb (key_choice p t o).kinds 0)
  unfolding key_choice
  has_choice = sym (ap not (kinds_none (key_columns p t) t o) ∙ not_not (any in_key o) ∙ keyed)
    where
      not_not : (b : Bool) → not (not b) ≡ b
      not_not true = refl
      not_not false = refl
