-- The names of an `atr` line entered one after the other, with the columns that were seen. Assumes nothing.
use mathlib.Core.Path.{◌≡◌, refl, ap, sym, ◌∙◌}
use mathlib.Core.Logic.{⊎_elim}
use mathlib.Core.Bool.{Bool, true, false, false≢true}
use mathlib.Core.List.{List, []}
use Prim.Native.Nat.{ℕ, zero, suc, ◌+◌, ◌<◌, ◌≤◌}
use native.Mathlib.Nat.{eq-or-lt_of_le}
use native.Mathlib.Omega.{arith}
use lib.Dec.{eqb}
use lib.ListN.{length, get_or, set, length-set}
use lib.Seq.{get_or-set_same, get_or-set_other, ext_get_or}
use borrow.Author.Tests.{eqb-true, eqb-false}
use Rattle.page.specs.Bytes.{Bytes, pick}
use Rattle.page.specs.Tables.{WIDEST, width}
use Rattle.page.specs.Order.{upto, order_of, arranged}
use Rattle.page.specs.Grammar.{Arrangement}
use Rattle.page.proofs.TableLaws.{width_le}
use Rattle.page.proofs.ArrangeLaws.{order_length, arrangement_arranged}
use Rattle.tables.specs.Arrays.{fill}
use Rattle.arrangement.specs.Orders.{held, Orderly}
use Rattle.tables.proofs.ArrayLaws.{fill_length, fill_none}
use Rattle.arrangement.proofs.OrderLaws.{held_length, held_at, listed_orderly}
use Rattle.names.specs.Told.{column_named, Told}
use Rattle.names.proofs.ToldLaws.{order_at}

-- how many of the first n are marked
unfoldable pub marked : ℕ → List Bool → ℕ
marked zero s = 0
marked (suc n) s = pick (get_or s n false) 1 0 + marked n s

marked_le : (n : ℕ) (s : List Bool) → marked n s ≤ n
unfolding marked
marked_le zero s = omega arith
marked_le (suc n) s = by (get_or s n false) (marked_le n s)
  where
    by : (b : Bool) → marked n s ≤ n → pick b 1 0 + marked n s ≤ suc n
    by true h = omega arith
    by false h = omega arith

-- as many as there are: each of them
marked_all : (n : ℕ) (s : List Bool) → marked n s ≡ n → (c : ℕ) → c < n → get_or s c false ≡ true
unfolding marked
marked_all zero s e c h = absurd (omega arith)
marked_all (suc n) s e c h = by (marked_all n s) (get_or s n false) refl e (eqb c n) refl
  where
    by : (marked n s ≡ n → (c : ℕ) → c < n → get_or s c false ≡ true) → (b : Bool) → get_or s n false ≡ b → pick b 1 0 + marked n s ≡ suc n
        → (q : Bool) → eqb c n ≡ q → get_or s c false ≡ true
    by ih true x y true q = let z : c ≡ n = eqb-true c n q in rw z x
    by ih true x y false q = let z = eqb-false c n q in ih (omega arith) c (omega arith)
    by ih false x y r q = absurd (omega (arith, marked_le n s))

marked_none : (n m : ℕ) → marked n (fill m false []) ≡ 0
unfolding marked
marked_none zero m = refl
marked_none (suc n) m = rw (fill_none m false n, marked_none n m)

marked_past : (n : ℕ) (s : List Bool) (c : ℕ) → n ≤ c → marked n (set s c true) ≡ marked n s
unfolding marked
marked_past zero s c h = refl
marked_past (suc n) s c h = rw (get_or-set_other s c n true false (λ (e : n ≡ c). omega arith), marked_past n s c (omega arith))

marked_more : (n : ℕ) (s : List Bool) (c : ℕ) → c < n → c < length s → get_or s c false ≡ false → marked n (set s c true) ≡ suc (marked n s)
unfolding marked
marked_more zero s c h l e = absurd (omega arith)
marked_more (suc n) s c h l e = by (marked_more n s c) (eqb c n) refl
  where
    by : (c < n → c < length s → get_or s c false ≡ false → marked n (set s c true) ≡ suc (marked n s)) → (b : Bool) → eqb c n ≡ b
        → pick (get_or (set s c true) n false) 1 0 + marked n (set s c true) ≡ suc (pick (get_or s n false) 1 0 + marked n s)
    by ih true q =
        let z : c ≡ n = eqb-true c n q in
        rw (sym z, get_or-set_same s c true false l, e, marked_past c s c (omega arith)) (omega arith)
    by ih false q =
        let z = eqb-false c n q in
        rw (get_or-set_other s c n true false (λ (x : n ≡ c). z (sym x)), ih (omega arith) l e) (omega arith)

-- the first k fields have been entered: each names a column that none before it names
pub record Entered (t : ℕ) (fs : List Bytes) (k : ℕ) (o : List ℕ) (seen : List Bool) : Type 0 where
  pub orderly : Orderly o
  pub wide : length seen ≡ WIDEST
  pub filled : (p : ℕ) → p < k → get_or o p 0 ≡ column_named t (get_or fs p [])
  pub below : (p : ℕ) → p < k → get_or o p 0 < width t
  pub apart : (p q : ℕ) → p < k → q < k → get_or o p 0 ≡ get_or o q 0 → p ≡ q
  pub noted : (p : ℕ) → p < k → get_or seen (get_or o p 0) false ≡ true
  pub known : (c : ℕ) → get_or seen c false ≡ true → (p : ℕ) × (p < k) × (get_or o p 0 ≡ c)
  pub counted : marked (width t) seen ≡ k

pub entered_none : (t : ℕ) (fs : List Bytes) (o : List ℕ) → o ≡ upto 0 WIDEST → Entered t fs 0 o (fill WIDEST false [])
entered_none t fs o e =
    record {
      orderly = rw e listed_orderly;
      wide = fill_length WIDEST false [];
      filled = λ p (h : p < 0). absurd (omega arith);
      below = λ p (h : p < 0). absurd (omega arith);
      apart = λ p q (h : p < 0) k x. absurd (omega arith);
      noted = λ p (h : p < 0). absurd (omega arith);
      known = λ c x. absurd (false≢true (sym (fill_none WIDEST false c) ∙ x));
      counted = marked_none (width t) WIDEST;
    }

module _ (t : ℕ) (fs : List Bytes) (k : ℕ) (o : List ℕ) (seen : List Bool) (x : Entered t fs k o seen) where
  module _ (c : ℕ) (e : c ≡ column_named t (get_or fs k [])) (l : c < width t) (i : k < WIDEST) (n : get_or seen c false ≡ false) where
    abbrev o' : List ℕ
    o' = set o k c

    abbrev seen' : List Bool
    seen' = set seen c true

    wide_column : c < WIDEST
    wide_column = omega (arith, width_le t)

    here : get_or o' k 0 ≡ c
    here = get_or-set_same o k c 0 (omega (arith, x.orderly.long))

    there : (p : ℕ) → p < k → get_or o' p 0 ≡ get_or o p 0
    there p h = get_or-set_other o k p c 0 (λ (q : p ≡ k). omega arith)

    by_place : {A : Type 0} (p : ℕ) → p < k + 1 → (p ≡ k → A) → (p < k → A) → A
    by_place p h f g = let j : p ≤ k = omega arith in ⊎_elim f g (eq-or-lt_of_le j)

    noted_now : get_or seen' c false ≡ true
    noted_now = get_or-set_same seen c true false (omega (arith, x.wide, wide_column))

    noted_still : (d : ℕ) → get_or seen d false ≡ true → get_or seen' d false ≡ true
    noted_still d h = by (eqb d c) refl
      where
        by : (b : Bool) → eqb d c ≡ b → get_or seen' d false ≡ true
        by true q = let z : d ≡ c = eqb-true d c q in rw z noted_now
        by false q = get_or-set_other seen c d true false (eqb-false d c q) ∙ h

    small : (p : ℕ) → get_or o' p 0 < WIDEST
    small p = by (eqb p k) refl
      where
        by : (b : Bool) → eqb p k ≡ b → get_or o' p 0 < WIDEST
        by true q = let z : p ≡ k = eqb-true p k q in rw (z, here) wide_column
        by false q = rw (get_or-set_other o k p c 0 (eqb-false p k q)) (x.orderly.small p)

    another : (p : ℕ) → p < k → ¬ (get_or o' p 0 ≡ c)
    another p h q = let z : get_or o p 0 ≡ c = sym (there p h) ∙ q in absurd (false≢true (sym n ∙ (rw z at (x.noted p h))))

    known_now : (d : ℕ) → get_or seen' d false ≡ true → (p : ℕ) × (p < k + 1) × (get_or o' p 0 ≡ d)
    known_now d h = by (eqb d c) refl
      where
        by : (b : Bool) → eqb d c ≡ b → (p : ℕ) × (p < k + 1) × (get_or o' p 0 ≡ d)
        by true q = (k, omega arith, here ∙ sym (eqb-true d c q))
        by false q =
            let y = x.known d (sym (get_or-set_other seen c d true false (eqb-false d c q)) ∙ h) in
            let z = y.1 in
            (y.0, omega arith, there y.0 y.1 ∙ y.2)

    pub entered_more : Entered t fs (k + 1) o' seen'
    entered_more =
        record {
          orderly = record { long = length-set o k c ∙ x.orderly.long; small = small };
          wide = length-set seen c true ∙ x.wide;
          filled = λ p h. by_place p h (λ (q : p ≡ k). rw (q, here) e) (λ (j : p < k). there p j ∙ x.filled p j);
          below = λ p h. by_place p h (λ (q : p ≡ k). rw (q, here) l) (λ (j : p < k). rw (there p j) (x.below p j));
          apart = λ p q h g y.
              by_place p h
              (λ (a : p ≡ k).
              by_place q g (λ (b : q ≡ k). a ∙ sym b) (λ (j : q < k). absurd (another q j (sym y ∙ ap (λ (v : ℕ). get_or o' v 0) a ∙ here))))
              (λ (j : p < k).
              by_place q g (λ (b : q ≡ k). absurd (another p j (y ∙ ap (λ (v : ℕ). get_or o' v 0) b ∙ here)))
              (λ (m : q < k). x.apart p q j m (sym (there p j) ∙ y ∙ there q m)));
          noted = λ p h.
              by_place p h (λ (q : p ≡ k). rw (q, here) noted_now) (λ (j : p < k). rw (there p j) (noted_still (get_or o p 0) (x.noted p j)));
          known = known_now;
          counted = omega (arith, marked_more (width t) seen c l (omega (arith, x.wide, wide_column)) n, x.counted);
        }

  -- every column was seen: the fields arrange them
  module _ (a : k ≡ width t) (m : length fs ≡ width t) where
    long : length (held t o) ≡ width t
    long = held_length t o x.orderly

    at : (p : ℕ) → p < length (held t o) → get_or (held t o) p 0 ≡ get_or o p 0
    at p h = held_at t o p (omega (arith, long))

    within : (p : ℕ) → p < length (held t o) → p < k
    within p h = omega (arith, long)

    order_is : held t o ≡ order_of t fs
    order_is =
        ext_get_or 0 (held t o) (order_of t fs) (long ∙ sym m ∙ sym (order_length t fs))
        (λ p h. let i = within p h in at p h ∙ x.filled p i ∙ sym (order_at t fs p (omega arith)))

    arrangement : Arrangement t (held t o)
    arrangement =
        record {
          only = λ p h. rw (at p h) (x.below p (within p h));
          there = λ c h.
              let y = x.known c (marked_all (width t) seen (x.counted ∙ a) c h) in
              let j = y.1 in
              let i : y.0 < length (held t o) = omega (arith, long) in
              (y.0, i, at y.0 i ∙ y.2);
          once = λ p q h g e. x.apart p q (within p h) (within q g) (sym (at p h) ∙ e ∙ at q g);
        }

    pub entered_all : (arranged (width t) (order_of t fs) ≡ true) × Told t fs o
    entered_all =
        let r = arrangement_arranged t (held t o) arrangement in
        (rw order_is at r, record { stands = record { orderly = x.orderly; arranged = r }; is = λ z. order_is })
