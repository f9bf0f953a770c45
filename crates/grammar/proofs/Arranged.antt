-- A record in any order of the columns: the tests on its fields as they stand decide what the grammar says of its values by column. Assumes nothing.
use mathlib.Core.Path.{◌≡◌, refl, ap, sym, ◌∙◌}
use mathlib.Core.Bool.{Bool, true, false}
use mathlib.Core.List.{List, [], ◌∷◌, map, Memᴰ}
use Prim.Native.Nat.{ℕ, zero, suc, ◌-◌, ◌<◌, ◌≤◌}
use native.Mathlib.Omega.{arith}
use lib.Dec.{ltb}
use lib.ListN.{length, get_or, get_or-eq_default}
use lib.Seq.{drop-cons}
use borrow.Author.Tests.{le-leb, ne_eqb}
use Rattle.page.specs.Bytes.{Bytes}
use Rattle.page.specs.Tables.{Rule, columns, rules, width}
use Rattle.page.specs.Order.{Order, arranged, standing, place, by_column, column_in}
use Rattle.page.specs.Marks.{owner_of}
use Rattle.page.specs.Section.{record_text, first_wrong, broken, no_bytes, empty_at, empty_marked}
use Rattle.page.specs.Records.{words, Record, values_of}
use Rattle.page.specs.Grammar.{Values, Breaks, Reads}
use Rattle.page.specs.Refusals.{marks_of}
use Rattle.page.specs.declared.Owner.TheVariants as O
use Rattle.page.specs.declared.Phase.{Phase}
use Rattle.page.specs.declared.Phase.TheVariants as P
use Rattle.page.proofs.OrderLaws.{arranged_long, arranged_below, place_at, by_column_length, by_column_at, sound_by_column, owner_column}
use Rattle.laws.proofs.Decides.{Decides, holds, fails, below}
use Rattle.grammar.proofs.Values.{values_once, values_are, values_right, right_values, held, empty_d}
use Rattle.grammar.proofs.Rules.{rule_decided}

-- what holds of the order that the machine carries: once `atr` has stated it, it is an arrangement of the table's columns
abbrev pub Ordered : Phase → Order → Type 0
Ordered P.Tbl o = Unit
Ordered (P.Atr t) o = Unit
Ordered (P.Frm t) o = arranged (width t) o ≡ true
Ordered (P.Rows t m n) o = arranged (width t) o ≡ true
Ordered (P.Ended t n) o = arranged (width t) o ≡ true

mark_stands : (o : Order) (m : ℕ) → m < length o → get_or o m m ≡ get_or o m 0
mark_stands o m h = let x = drop-cons o m m h in let y = drop-cons o m 0 h in cc

marked_at : (fs : List Bytes) (m : ℕ) → empty_marked (suc m) fs ≡ empty_at fs m
unfolding empty_marked
marked_at fs m = let z : suc m - 1 ≡ m = omega arith in rw (le-leb 1 (suc m) (omega arith), z)

-- the column of the one mark is the one column marked
pub marks_by_column : (o : Order) (m : ℕ) → map (column_in o) (marks_of m) ≡ marks_of (column_in o m)
unfolding column_in
marks_by_column o zero = refl
marks_by_column o (suc m) = refl

-- a record's fields are read in one way only
pub reads_once : {t : ℕ} {o : Order} {ms : List ℕ} {fs : List Bytes} {vs us : Record} → Reads t o ms fs vs → Reads t o ms fs us → vs ≡ us
reads_once h g = values_once h.values g.values

-- where the mark of field m waits
module _ (t : ℕ) (o : Order) (m : ℕ) {fs : List Bytes} {vs : Record} (h : Reads t o (marks_of m) fs vs) where
  pub reads_values : Values (marks_of (column_in o m)) 1 (columns t) (by_column o fs) vs
  reads_values = rw (marks_by_column o m) at h.values

  -- the grammar's values are those handed out
  pub reads_are : vs ≡ values_of (column_in o m) 1 (columns t) (by_column o fs)
  reads_are = values_are (column_in o m) (omega arith) reads_values

  -- 14, 25
  pub reads_rule : (r : Rule) → Memᴰ r (rules t) → Decides (Breaks vs r) (broken r (by_column o fs))
  reads_rule = rule_decided t (held h.values)

module _ (t : ℕ) (o : Order) (a : arranged (width t) o ≡ true) where
  -- 11 to 13
  pub reads_right : {ms : List ℕ} {fs : List Bytes} {vs : Record} → Reads t o ms fs vs → first_wrong (standing t o) fs ≡ 0
  reads_right {fs = fs} h = (sound_by_column t o fs a h.many).1 (values_right h.values)

  pub right_reads : (ms : List ℕ) (fs : List Bytes) → length fs ≡ length o → first_wrong (standing t o) fs ≡ 0 → (vs : Record) × Reads t o ms fs vs
  unfolding width
  right_reads ms fs l e =
      let x = right_values (map (column_in o) ms) 1 (columns t) (by_column o fs) (by_column_length o fs ∙ arranged_long (width t) o a) ((sound_by_column t o fs a l).0 e) in
      (x.0, record { many = l; values = x.1 })

  -- 15: the field that is marked is that of the marked column
  pub empty_by_column : (fs : List Bytes) → length fs ≡ length o → (m : ℕ) → empty_marked m fs ≡ empty_marked (column_in o m) (by_column o fs)
  unfolding column_in empty_marked
  empty_by_column fs l zero = refl
  empty_by_column fs l (suc m) =
      marked_at fs m ∙ ap (λ (f : Bytes). no_bytes (record_text f)) (by (ltb m (length o)) (below m (length o))) ∙ sym (marked_at (by_column o fs) (get_or o m m))
    where
      by : (b : Bool) → Decides (m < length o) b → get_or fs m [] ≡ get_or (by_column o fs) (get_or o m m) []
      by true (holds h) =
          let n = arranged_long (width t) o a in
          let s = arranged_below (width t) o a m h in
          let e : get_or o m m ≡ get_or o m 0 = mark_stands o m h in
          rw (e, by_column_at o fs (get_or o m 0) (omega arith), place_at (width t) o a m h)
      by false (fails n) =
          rw (get_or-eq_default o m (let k : length o ≤ m = omega arith in k))
          (get_or-eq_default fs [] (omega arith) ∙ sym (get_or-eq_default (by_column o fs) [] (omega (arith, by_column_length o fs))))

  pub reads_empty : (m : ℕ) {fs : List Bytes} {vs : Record} → Reads t o (marks_of m) fs vs → Decides (Memᴰ (words O.Suggestion []) vs) (empty_marked m fs)
  reads_empty m {fs} h = rw (empty_by_column fs h.many m) (empty_d (column_in o m) (reads_values t o m h))

-- whose a text is, by column and by place, also past the columns
place_past : (c : ℕ) (o : Order) → ((p : ℕ) → p < length o → ¬ (get_or o p 0 ≡ c)) → place c o ≡ length o
unfolding place
place_past c [] h = refl
place_past c (x ∷ o) h = rw (ne_eqb x c (h 0 (omega arith))) (ap suc (place_past c o (λ p k. h (suc p) (omega arith))))

operator : (m i : ℕ) → ¬ (m ≡ i) → owner_of m i ≡ O.Operator
unfolding owner_of
operator m i n = rw (ne_eqb m i n)

pub owner_place : (n : ℕ) (o : Order) → arranged n o ≡ true → (m c : ℕ) → m ≤ length o → owner_of (column_in o m) (suc c) ≡ owner_of m (suc (place c o))
unfolding column_in
owner_place n o a m c h = by (ltb c n) (below c n)
  where
    past : ¬ (c < n) → place c o ≡ length o
    past k = place_past c o (λ p l e. let x = arranged_below n o a p l in k (omega arith))

    beyond : ¬ (c < n) → (m : ℕ) → m ≤ length o → ¬ (column_in o m ≡ suc c)
    beyond k zero h e = omega arith
    beyond k (suc m) h e =
        let x = arranged_below n o a m (omega arith) in
        let y = mark_stands o m (omega arith) in
        k (omega arith)

    by : (b : Bool) → Decides (c < n) b → owner_of (column_in o m) (suc c) ≡ owner_of m (suc (place c o))
    by true (holds k) = owner_column n o a m c k
    by false (fails k) = operator (column_in o m) (suc c) (beyond k m h) ∙ sym (operator m (suc (place c o)) (λ e. let x = past k in omega arith))
