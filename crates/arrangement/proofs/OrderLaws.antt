-- An order as an array: what holds at its places, and document 01's own. Assumes nothing.
use mathlib.Core.Path.{◌≡◌, refl, ap, sym, ◌∙◌}
use mathlib.Core.Bool.{Bool, true, false}
use mathlib.Core.List.{List, ◌∷◌}
use Prim.Native.Nat.{ℕ, zero, suc, ◌+◌, ◌-◌, ◌<◌, ◌≤◌}
use native.Mathlib.Numerals.{add-one}
use native.Mathlib.Omega.{arith}
use lib.Dec.{ltb}
use lib.ListN.{length, get_or, take, drop, drop_of_length-le, get_or-eq_default}
use lib.Seq.{drop-cons, length-take-le, get_or-take, ext_get_or}
use borrow.Author.Tests.{eq-eqb, ne_eqb, lt-leb, le-leb, ltb-true, ltb-false}
use Rattle.page.specs.Tables.{Named, WIDEST, no_column, width, column_at}
use Rattle.page.specs.Order.{upto, listed_order, standing, place, column_in}
use Rattle.page.specs.Marks.{may_mark}
use Rattle.page.specs.declared.Column.{Column}
use Rattle.page.proofs.OrderLaws.{upto_length, upto_at, listed_length, listed_at, listed_arranged, standing_length, standing_column}
use Rattle.page.proofs.TableLaws.{width_le}
use Rattle.arrangement.specs.Orders.{held, Orderly, Stands}

-- the places that count

pub held_length : (t : ℕ) (a : List ℕ) → Orderly a → length (held t a) ≡ width t
held_length t a x = length-take-le (width t) a (omega (arith, width_le t, x.long))

pub held_at : (t : ℕ) (a : List ℕ) (p : ℕ) → p < width t → get_or (held t a) p 0 ≡ get_or a p 0
held_at t a p h = get_or-take (width t) a p 0 h

pub held_standing : (t : ℕ) (a : List ℕ) → Orderly a → length (standing t (held t a)) ≡ width t
held_standing t a x = standing_length t (held t a) ∙ held_length t a x

pub held_column : (t : ℕ) (a : List ℕ) (p : ℕ) → Orderly a → p < width t → (get_or (standing t (held t a)) p no_column).column ≡ column_at t (get_or a p 0)
held_column t a p x h = standing_column t (held t a) p (omega (arith, held_length t a x)) ∙ ap (column_at t) (held_at t a p h)

-- document 01's own order

upto_take : (i n m : ℕ) → n ≤ m → take n (upto i m) ≡ upto i n
unfolding upto
upto_take i zero m h = refl
upto_take i (suc n) zero h = absurd (omega arith)
upto_take i (suc n) (suc m) h = ap (λ l. i ∷ l) (upto_take (suc i) n m (omega arith))

pub listed_held : (t : ℕ) → held t (upto 0 WIDEST) ≡ listed_order t
unfolding listed_order
listed_held t = upto_take 0 (width t) WIDEST (width_le t)

pub listed_orderly : Orderly (upto 0 WIDEST)
listed_orderly = record { long = upto_length 0 WIDEST; small = λ p. by p (ltb p WIDEST) refl }
  where
    by : (p : ℕ) (b : Bool) → ltb p WIDEST ≡ b → get_or (upto 0 WIDEST) p 0 < WIDEST
    by p true e = let h = ltb-true p WIDEST e in omega (arith, upto_at 0 WIDEST p 0 h)
    by p false e =
        let h = ltb-false p WIDEST e in
        omega (arith, get_or-eq_default (upto 0 WIDEST) 0 {n = p} (omega (arith, upto_length 0 WIDEST)))

pub listed_stands : (t : ℕ) → Stands t (upto 0 WIDEST)
listed_stands t = record { orderly = listed_orderly; arranged = rw (listed_held t) (listed_arranged t) }

pub listed_if : (t : ℕ) (a : List ℕ) → Orderly a → ((p : ℕ) → p < width t → get_or a p 0 ≡ p) → held t a ≡ listed_order t
listed_if t a x f =
    let n = held_length t a x in
    ext_get_or 0 (held t a) (listed_order t) (n ∙ sym (listed_length t))
    (λ p h.
    let k : p < width t = omega arith in
    held_at t a p k ∙ f p k ∙ sym (listed_at t p k))

-- where a column stands, place by place

module _ (c : ℕ) (o : List ℕ) (p : ℕ) where
  pub place_hit : p < length o → get_or o p 0 ≡ c → place c (drop p o) ≡ 0
  unfolding place
  place_hit h e = rw (drop-cons o p 0 h, eq-eqb (get_or o p 0) c e)

  pub place_more : p < length o → (get_or o p 0 ≡ c → ⊥) → place c (drop p o) ≡ suc (place c (drop (p + 1) o))
  unfolding place
  place_more h e = rw (add-one, drop-cons o p 0 h, ne_eqb (get_or o p 0) c e)

  pub place_end : length o ≤ p → place c (drop p o) ≡ 0
  unfolding place
  place_end h = rw (drop_of_length-le o h)

-- the column of a field

module _ (t : ℕ) (a : List ℕ) (x : Orderly a) where
  pub column_none : (m : ℕ) → m < 1 → 0 ≡ column_in (held t a) m
  unfolding column_in
  column_none zero h = refl
  column_none (suc m) h = absurd (omega arith)

  pub column_past : (m : ℕ) → 1 ≤ m → width t ≤ m - 1 → m ≡ column_in (held t a) m
  unfolding column_in
  column_past zero h k = absurd (omega arith)
  column_past (suc m) h k =
      let n : length (held t a) ≤ m = omega (arith, held_length t a x) in
      ap suc (sym (get_or-eq_default (held t a) m n))

  pub column_there : (m : ℕ) → 1 ≤ m → m - 1 < width t → get_or a (m - 1) 0 + 1 ≡ column_in (held t a) m
  unfolding column_in
  column_there zero h k = absurd (omega arith)
  column_there (suc m) h k =
      let z : suc m - 1 ≡ m = omega arith in
      let l : m < length (held t a) = omega (arith, held_length t a x) in
      let first : List ℕ → ℕ = λ (r : List ℕ). get_or r 0 0 in
      let e : get_or (held t a) m m ≡ get_or (held t a) m 0 = sym (ap first (drop-cons (held t a) m m l)) ∙ ap first (drop-cons (held t a) m 0 l) in
      rw (z, add-one) (ap suc (sym (e ∙ held_at t a m (rw z at k))))

-- which field may be marked

module _ (t : ℕ) (a : List ℕ) (x : Orderly a) (i : ℕ) where
  abbrev o : List ℕ
  o = held t a

  pub mark_none : i < 1 → false ≡ may_mark t o i
  unfolding may_mark
  mark_none h = rw (lt-leb 1 i h)

  pub mark_past : 1 ≤ i → width t ≤ i - 1 → false ≡ may_mark t o i
  unfolding may_mark
  mark_past h k =
      let n : length (standing t o) ≤ i - 1 = omega (arith, held_standing t a x) in
      rw (le-leb 1 i h) (sym (ap (λ (c : Named). c.column.fillable) (get_or-eq_default (standing t o) no_column n)))

  pub mark_column : 1 ≤ i → i - 1 < width t → (column_at t (get_or a (i - 1) 0)).fillable ≡ may_mark t o i
  unfolding may_mark
  mark_column h k = rw (le-leb 1 i h) (ap (λ (c : Column). c.fillable) (sym (held_column t a (i - 1) x k)))
