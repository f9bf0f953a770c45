-- What the names of an `atr` line say, field by field, and what makes them no arrangement. Assumes nothing.
use mathlib.Core.Path.{◌≡◌, refl, ap, sym, ◌∙◌}
use mathlib.Core.Bool.{Bool, true, false, false≢true}
use mathlib.Core.List.{List, [], ◌∷◌, map}
use Prim.Native.Nat.{ℕ, zero, suc, ◌+◌, ◌-◌, ◌<◌, ◌≤◌}
use Prim.Native.String.{String}
use native.Mathlib.Omega.{arith}
use lib.ListN.{length, get_or, take, drop, length-map, length-drop, get_or-map}
use borrow.Author.Tests.{eq-eqb, ne_eqb}
use Rattle.page.specs.Bytes.{Bytes, bytes, same, trim}
use Rattle.page.specs.Lines.{lines, content, command, rest, Atr}
use Rattle.page.specs.Fields.{fields, field_size}
use Rattle.page.specs.Tables.{Named, Table, TABLES, WIDEST, all_tables, no_table, no_column, table_at, columns, width, name_at}
use Rattle.page.proofs.TableLaws.{tables_counted}
use Rattle.page.specs.Order.{upto, order_of, arranged}
use Rattle.page.specs.Records.{table_index, atr_in, order_in}
use Rattle.page.proofs.TestLaws.{same_true}
use Rattle.page.proofs.LineLaws.{lines_end}
use Rattle.page.proofs.FieldLaws.{from, from_more, from_end, end_in, next_left, head_left}
use Rattle.page.proofs.OrderLaws.{arranged_long, arranged_below}
use Rattle.page.proofs.ArrangeLaws.{name_found, order_length, arranged_arrangement}
use Rattle.arrangement.specs.Orders.{held}
use Rattle.arrangement.proofs.OrderLaws.{listed_stands}
use Rattle.names.specs.Told.{column_named, Told}

abbrev pub titles : List String
titles = map (λ (x : Table). x.name) all_tables

pub titles_length : length titles ≡ TABLES
titles_length = length-map all_tables (λ (x : Table). x.name) ∙ tables_counted

pub title_listed : (t : ℕ) → get_or titles t "" ≡ (table_at t).name
unfolding table_at
title_listed t = get_or-map (λ (x : Table). x.name) all_tables t no_table

abbrev pub names : ℕ → List String
names t = map (λ (c : Named). c.name) (columns t)

pub names_length : (t : ℕ) → length (names t) ≡ width t
unfolding width
names_length t = length-map (columns t) (λ (c : Named). c.name)

pub name_listed : (t k : ℕ) → get_or (names t) k "" ≡ name_at t k
unfolding name_at
name_listed t k = get_or-map (λ (c : Named). c.name) (columns t) k no_column

-- a column's own name
pub column_own : (t k : ℕ) (f : Bytes) → k < width t → same f (bytes (name_at t k)) ≡ true → k ≡ column_named t f
column_own t k f h e = sym (ap (column_named t) (same_true f (bytes (name_at t k)) e) ∙ name_found t k h)

pub order_at : (t : ℕ) (fs : List Bytes) (p : ℕ) → p < length fs → get_or (order_of t fs) p 0 ≡ column_named t (get_or fs p [])
unfolding order_of
order_at t [] p h = absurd (omega arith)
order_at t (f ∷ fs) zero h = refl
order_at t (f ∷ fs) (suc p) h = order_at t fs p (omega arith)

-- the fields that are left at a place
module _ (w : Bytes) (k at : ℕ) (d : drop k (fields w) ≡ from w at) (l : k ≤ length (fields w)) where
  pub no_left : length w < at → length (fields w) ≡ k
  no_left h = omega (arith, ap length (d ∙ from_end w at h), length-drop k (fields w))

  pub some_left : at ≤ length w → k < length (fields w)
  some_left h = omega (arith, ap length (d ∙ from_more w at (at + field_size false (drop at w)) h refl), length-drop k (fields w))

-- the field that begins at a place, and the column that it names
pub record Heads (t : ℕ) (w : Bytes) (k at e c : ℕ) : Type 0 where
  pub there : k < length (fields w)
  pub named : c ≡ column_named t (get_or (fields w) k [])
  pub next : drop (k + 1) (fields w) ≡ from w (e + 1)
  pub within : e ≤ length w
  pub from : at ≤ e

pub heads : (t : ℕ) (w : Bytes) (k at e c : ℕ) → drop k (fields w) ≡ from w at → k ≤ length (fields w) → at ≤ length w → e ≡ at + field_size false (drop at w)
    → c ≡ column_named t (trim (take (e - at) (drop at w))) → Heads t w k at e c
heads t w k at e c d l h q n =
    let m = from_more w at e h q in
    let x = end_in w at e h q in
    record {
      there = some_left w k at d l h;
      named = n ∙ ap (column_named t) (sym (head_left (fields w) k _ _ (d ∙ m)));
      next = next_left (fields w) k _ _ (d ∙ m);
      within = omega arith;
      from = omega arith;
    }

-- no arrangement: too few or too many, a name that is none, a name twice

unless : (b : Bool) → (b ≡ true → ⊥) → b ≡ false
unless true f = absurd (f refl)
unless false f = refl

module _ (t : ℕ) (fs : List Bytes) where
  pub not_many : ¬ (length fs ≡ width t) → arranged (width t) (order_of t fs) ≡ false
  not_many n = unless _ (λ a. n (sym (order_length t fs) ∙ arranged_long (width t) (order_of t fs) a))

  pub not_named : (k : ℕ) → k < length fs → width t ≤ column_named t (get_or fs k []) → arranged (width t) (order_of t fs) ≡ false
  not_named k h l =
      unless _ (λ a.
      let b = arranged_below (width t) (order_of t fs) a k (omega (arith, order_length t fs)) in
      let e = order_at t fs k h in
      omega arith)

  pub not_once : (p k : ℕ) → p < k → k < length fs → column_named t (get_or fs p []) ≡ column_named t (get_or fs k [])
      → arranged (width t) (order_of t fs) ≡ false
  not_once p k l h e =
      unless _ (λ a.
      let n = order_length t fs in
      let z : p ≡ k =
      (arranged_arrangement t (order_of t fs) a).once p k (omega arith) (omega arith) (order_at t fs p (omega arith) ∙ e ∙ sym (order_at t fs k h)) in
      omega arith)

  -- document 01's own order stands where none is stated
  pub told_none : (a : List ℕ) → arranged (width t) (order_of t fs) ≡ false → a ≡ upto 0 WIDEST
      → (arranged (width t) (order_of t fs) ≡ false) × Told t fs a
  told_none a n e = (n, record { stands = rw e (listed_stands t); is = λ z. absurd (false≢true (sym n ∙ z)) })

-- a section's `atr` line

module _ (ls ms : List Bytes) (l : Bytes) (q : ls ≡ l ∷ ms) where
  pub atr_here : command (content l) ≡ Atr → atr_in ls ≡ rest (content l)
  unfolding atr_in
  atr_here e = rw (q, eq-eqb (command (content l)) Atr e)

  pub atr_later : ¬ (command (content l) ≡ Atr) → atr_in ls ≡ atr_in ms
  unfolding atr_in
  atr_later n = rw (q, ne_eqb (command (content l)) Atr n)

pub atr_none : (s : Bytes) (at : ℕ) → length s ≤ at → atr_in (lines (drop at s)) ≡ []
unfolding atr_in
atr_none s at h = rw (lines_end s at h)

-- and the order that it states, in a section that has each column of its table once
pub told_order : (ls : List Bytes) (t : ℕ) (a : List ℕ) → t ≡ table_index ls → Told t (fields (atr_in ls)) a
    → arranged (width (table_index ls)) (order_in ls) ≡ true → held t a ≡ order_in ls
unfolding order_in
told_order ls t a e k r = let x = rw e at k in rw e (x.is r)
