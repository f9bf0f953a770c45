-- A column's place and a place's column undo each other where each column stands once; document 01's own order changes nothing.
-- Assumes nothing.
use mathlib.Core.Path.{◌≡◌, refl, ap, sym, ◌∙◌}
use mathlib.Core.Logic.{◌↔◌}
use mathlib.Core.Bool.{Bool, true, false}
use mathlib.Core.List.{List, [], ◌∷◌, map}
use Prim.Native.Nat.{ℕ, zero, suc, ◌+◌, ◌<◌, ◌≤◌}
use native.Mathlib.Nat.{add-zero, zero-add}
use native.Mathlib.Omega.{arith}
use lib.Dec.{eqb, ltb}
use lib.ListN.{length, get_or, length-map, get_or-eq_default}
use lib.Seq.{ext_get_or}
use borrow.Author.Tests.{eqb-true, eqb-false, eq-eqb, ne_eqb, lt-ltb, le-ltb, ltb-true, ltb-false}
use Rattle.page.specs.Bytes.{Bytes, pick, all}
use Rattle.page.specs.Tables.{Named, no_column, columns, width, column_at}
use Rattle.page.specs.Order.{Order, upto, listed_order, often, arranged, standing, place, by_column, column_in}
use Rattle.page.specs.Marks.{owner_of}
use Rattle.page.specs.Section.{field_of, field_number, first_wrong}
use Rattle.page.specs.declared.Owner.TheVariants as O
use Rattle.page.proofs.TestLaws.{and_left, and_right}

-- numbers from i on

pub upto_length : (i n : ℕ) → length (upto i n) ≡ n
unfolding upto
upto_length i zero = refl
upto_length i (suc n) = ap suc (upto_length (suc i) n)

pub upto_at : (i n p d : ℕ) → p < n → get_or (upto i n) p d ≡ i + p
unfolding upto
upto_at i zero p d h = absurd (omega arith)
upto_at i (suc n) zero d h = sym (add-zero i)
upto_at i (suc n) (suc p) d h = upto_at (suc i) n p d (omega arith) ∙ omega arith

pub all_upto : (p : ℕ → Bool) (i n : ℕ) → all p (upto i n) ≡ true → (k : ℕ) → k < n → p (i + k) ≡ true
unfolding all upto
all_upto p i zero e k h = absurd (omega arith)
all_upto p i (suc n) e zero h = rw (add-zero i) (and_left (p i) (all p (upto (suc i) n)) e)
all_upto p i (suc n) e (suc k) h =
    let z : suc i + k ≡ i + suc k = omega arith in
    rw z at (all_upto p (suc i) n (and_right (p i) (all p (upto (suc i) n)) e) k (omega arith))

upto_all : (p : ℕ → Bool) (i n : ℕ) → ((k : ℕ) → k < n → p (i + k) ≡ true) → all p (upto i n) ≡ true
unfolding all upto
upto_all p i zero h = refl
upto_all p i (suc n) h =
    let z : i + 0 ≡ i = add-zero i in
    rw (rw z at (h 0 (omega arith)))
    (upto_all p (suc i) n (λ k l. let z : suc i + k ≡ i + suc k = omega arith in rw z (h (suc k) (omega arith))))

-- how many places of an order the columns below n have

unfoldable sum : ℕ → Order → ℕ
sum zero o = 0
sum (suc n) o = often n o + sum n o

sum_none : (n : ℕ) → sum n [] ≡ 0
unfolding sum often
sum_none zero = refl
sum_none (suc n) = omega (arith, sum_none n)

sum_more : (n x : ℕ) (o : Order) → sum n (x ∷ o) ≡ pick (ltb x n) 1 0 + sum n o
unfolding sum often
sum_more zero x o = rw (le-ltb x 0 (omega arith))
sum_more (suc n) x o = by (sum_more n x o) (eqb x n) refl (ltb x n) refl
  where
    by : sum n (x ∷ o) ≡ pick (ltb x n) 1 0 + sum n o → (b : Bool) → eqb x n ≡ b → (l : Bool) → ltb x n ≡ l
        → (pick (eqb x n) 1 0 + often n o) + sum n (x ∷ o) ≡ pick (ltb x (suc n)) 1 0 + (often n o + sum n o)
    by ih true e true f =
        let p = eqb-true x n e in
        let q = ltb-true x n f in
        absurd (omega arith)
    by ih true e false f =
        let p = eqb-true x n e in
        rw (ih, e, f, lt-ltb x (suc n) (omega arith)) (omega arith)
    by ih false e true f =
        let q = ltb-true x n f in
        rw (ih, e, f, lt-ltb x (suc n) (omega arith)) (omega arith)
    by ih false e false f =
        let p = eqb-false x n e in
        let q = ltb-false x n f in
        rw (ih, e, f, le-ltb x (suc n) (omega arith)) (omega arith)

sum_le : (n : ℕ) (o : Order) → sum n o ≤ length o
sum_le n [] = rw (sum_none n) (omega arith)
sum_le n (x ∷ o) = rw (sum_more n x o) (by (sum_le n o) (ltb x n))
  where
    by : sum n o ≤ length o → (b : Bool) → pick b 1 0 + sum n o ≤ suc (length o)
    by ih true = omega arith
    by ih false = omega arith

-- as many places as the columns below n have: no other column stands there
sum_below : (n : ℕ) (o : Order) → sum n o ≡ length o → (p : ℕ) → p < length o → get_or o p 0 < n
sum_below n [] e p h = absurd (omega arith)
sum_below n (x ∷ o) e p h = by (sum_below n o) (ltb x n) refl (sym (sum_more n x o) ∙ e) p h
  where
    by : (sum n o ≡ length o → (p : ℕ) → p < length o → get_or o p 0 < n) → (b : Bool) → ltb x n ≡ b
        → pick (ltb x n) 1 0 + sum n o ≡ suc (length o) → (p : ℕ) → p < suc (length o) → get_or (x ∷ o) p 0 < n
    by ih true f q zero h = ltb-true x n f
    by ih true f q (suc p) h = let r = rw f at q in ih (omega arith) p (omega arith)
    by ih false f q p h = let r = rw f at q in absurd (omega (arith, sum_le n o))

below_sum : (n : ℕ) (o : Order) → ((p : ℕ) → p < length o → get_or o p 0 < n) → sum n o ≡ length o
below_sum n [] h = sum_none n
below_sum n (x ∷ o) h =
    let l : x < n = h 0 (omega arith) in
    let ih = below_sum n o (λ p k. h (suc p) (omega arith)) in
    rw (sum_more n x o, lt-ltb x n l) (omega arith)

once_sum : (n : ℕ) (o : Order) → ((c : ℕ) → c < n → often c o ≡ 1) → sum n o ≡ n
unfolding sum
once_sum zero o h = refl
once_sum (suc n) o h =
    let a = h n (omega arith) in
    let ih = once_sum n o (λ c k. h c (omega arith)) in
    omega arith

-- an arrangement is as long as there are columns, and has each once and no other

module _ (n : ℕ) (o : Order) (a : arranged n o ≡ true) where
  pub arranged_long : length o ≡ n
  unfolding arranged
  arranged_long = eqb-true (length o) n (and_left (eqb (length o) n) (all (λ (c : ℕ). eqb (often c o) 1) (upto 0 n)) a)

  pub arranged_once : (c : ℕ) → c < n → often c o ≡ 1
  unfolding arranged
  arranged_once c h =
      let z : 0 + c ≡ c = zero-add c in
      eqb-true (often c o) 1
      (rw z at (all_upto (λ (c : ℕ). eqb (often c o) 1) 0 n (and_right (eqb (length o) n) (all (λ (c : ℕ). eqb (often c o) 1) (upto 0 n)) a) c h))

  pub arranged_below : (p : ℕ) → p < length o → get_or o p 0 < n
  arranged_below p h = sum_below n o (once_sum n o arranged_once ∙ sym arranged_long) p h

pub arranged_if : (n : ℕ) (o : Order) → ((c : ℕ) → c < n → often c o ≡ 1) → ((p : ℕ) → p < length o → get_or o p 0 < n) → arranged n o ≡ true
unfolding arranged
arranged_if n o once small =
    rw (eq-eqb (length o) n (sym (below_sum n o small) ∙ once_sum n o once))
    (upto_all (λ (c : ℕ). eqb (often c o) 1) 0 n (λ c h. let z : 0 + c ≡ c = zero-add c in rw z (eq-eqb (often c o) 1 (once c h))))

-- where a column stands

place_found : (c : ℕ) (o : Order) → 1 ≤ often c o → (place c o < length o) × (get_or o (place c o) 0 ≡ c)
unfolding often place
place_found c [] h = absurd (omega arith)
place_found c (x ∷ o) h = by (place_found c o) (eqb x c) refl h
  where
    by : (1 ≤ often c o → (place c o < length o) × (get_or o (place c o) 0 ≡ c)) → (b : Bool) → eqb x c ≡ b → 1 ≤ pick b 1 0 + often c o
        → (pick b 0 (suc (place c o)) < suc (length o)) × (get_or (x ∷ o) (pick b 0 (suc (place c o))) 0 ≡ c)
    by ih true e h = (omega arith, eqb-true x c e)
    by ih false e h = let i = ih (omega arith) in (omega arith, i.1)

often_at : (o : Order) (p : ℕ) → p < length o → 1 ≤ often (get_or o p 0) o
unfolding often
often_at [] p h = absurd (omega arith)
often_at (x ∷ o) zero h = rw (eq-eqb x x refl) (omega arith)
often_at (x ∷ o) (suc p) h = omega (arith, often_at o p (omega arith))

place_back : (o : Order) (p : ℕ) → p < length o → often (get_or o p 0) o ≡ 1 → place (get_or o p 0) o ≡ p
unfolding often place
place_back [] p h e = absurd (omega arith)
place_back (x ∷ o) zero h e = rw (eq-eqb x x refl)
place_back (x ∷ o) (suc p) h e = by (place_back o p (omega arith)) (eqb x (get_or o p 0)) e
  where
    by : (often (get_or o p 0) o ≡ 1 → place (get_or o p 0) o ≡ p) → (b : Bool) → pick b 1 0 + often (get_or o p 0) o ≡ 1
        → pick b 0 (suc (place (get_or o p 0) o)) ≡ suc p
    by ih true e = absurd (omega (arith, often_at o p (omega arith)))
    by ih false e = ap suc (ih (omega arith))

module _ (n : ℕ) (o : Order) (a : arranged n o ≡ true) where
  -- the place of a column, and the column that stands there
  pub place_in : (c : ℕ) → c < n → (place c o < length o) × (get_or o (place c o) 0 ≡ c)
  place_in c h = place_found c o (omega (arith, arranged_once n o a c h))

  pub place_at : (p : ℕ) → p < length o → place (get_or o p 0) o ≡ p
  place_at p h = place_back o p h (arranged_once n o a (get_or o p 0) (arranged_below n o a p h))

-- the columns as they stand

pub standing_length : (t : ℕ) (o : Order) → length (standing t o) ≡ length o
unfolding standing
standing_length t o = length-map o (λ (c : ℕ). get_or (columns t) c no_column)

pub standing_at : (t : ℕ) (o : Order) (p : ℕ) → p < length o → get_or (standing t o) p no_column ≡ get_or (columns t) (get_or o p 0) no_column
unfolding standing
standing_at t [] p h = absurd (omega arith)
standing_at t (x ∷ o) zero h = refl
standing_at t (x ∷ o) (suc p) h = standing_at t o p (omega arith)

pub standing_column : (t : ℕ) (o : Order) (p : ℕ) → p < length o → (get_or (standing t o) p no_column).column ≡ column_at t (get_or o p 0)
unfolding column_at
standing_column t o p h = ap (λ (c : Named). c.column) (standing_at t o p h)

-- a record's fields by column

pub by_column_length : (o : Order) (fs : List Bytes) → length (by_column o fs) ≡ length o
unfolding by_column
by_column_length o fs = length-map (upto 0 (length o)) (λ (c : ℕ). get_or fs (place c o) []) ∙ upto_length 0 (length o)

pub columns_many : (t : ℕ) (o : Order) (fs : List Bytes) → arranged (width t) o ≡ true → length (by_column o fs) ≡ length (columns t)
unfolding width
columns_many t o fs a = by_column_length o fs ∙ arranged_long (width t) o a

map_at : {A : Type 0} (f : ℕ → A) (d : A) (l : List ℕ) (p : ℕ) → p < length l → get_or (map f l) p d ≡ f (get_or l p 0)
map_at f d [] p h = absurd (omega arith)
map_at f d (x ∷ l) zero h = refl
map_at f d (x ∷ l) (suc p) h = map_at f d l p (omega arith)

pub by_column_at : (o : Order) (fs : List Bytes) (c : ℕ) → c < length o → get_or (by_column o fs) c [] ≡ get_or fs (place c o) []
unfolding by_column
by_column_at o fs c h =
    map_at (λ (c : ℕ). get_or fs (place c o) []) [] (upto 0 (length o)) c (omega (arith, upto_length 0 (length o)))
    ∙ ap (λ (x : ℕ). get_or fs (place x o) []) (upto_at 0 (length o) c 0 h ∙ zero-add c)

-- no field is wrong, as they stand, exactly if none is by column

abbrev wrong_at : List Named → List Bytes → ℕ → ℕ
wrong_at cs fs p = field_number (field_of (get_or cs p no_column).column (get_or fs p []))

pub none_wrong : (cs : List Named) (fs : List Bytes) → first_wrong cs fs ≡ 0 → (p : ℕ) → p < length cs → p < length fs → wrong_at cs fs p ≡ 0
unfolding first_wrong
none_wrong [] fs e p h k = absurd (omega arith)
none_wrong (c ∷ cs) [] e p h k = absurd (omega arith)
none_wrong (c ∷ cs) (f ∷ fs) e p h k = by (none_wrong cs fs) (eqb (field_number (field_of c.column f)) 0) refl e p h k
  where
    by : (first_wrong cs fs ≡ 0 → (p : ℕ) → p < length cs → p < length fs → wrong_at cs fs p ≡ 0)
        → (b : Bool) → eqb (field_number (field_of c.column f)) 0 ≡ b → pick b (first_wrong cs fs) (field_number (field_of c.column f)) ≡ 0
        → (p : ℕ) → p < suc (length cs) → p < suc (length fs) → wrong_at (c ∷ cs) (f ∷ fs) p ≡ 0
    by ih true q e zero h k = eqb-true _ 0 q
    by ih true q e (suc p) h k = ih e p (omega arith) (omega arith)
    by ih false q e p h k = absurd (eqb-false _ 0 q e)

wrong_none : (cs : List Named) (fs : List Bytes) → ((p : ℕ) → p < length cs → p < length fs → wrong_at cs fs p ≡ 0) → first_wrong cs fs ≡ 0
unfolding first_wrong
wrong_none [] fs h = refl
wrong_none (c ∷ cs) [] h = refl
wrong_none (c ∷ cs) (f ∷ fs) h =
    rw (eq-eqb _ 0 (h 0 (omega arith) (omega arith))) (wrong_none cs fs (λ p i j. h (suc p) (omega arith) (omega arith)))

pub sound_by_column : (t : ℕ) (o : Order) (fs : List Bytes) → arranged (width t) o ≡ true → length fs ≡ length o
    → first_wrong (standing t o) fs ≡ 0 ↔ first_wrong (columns t) (by_column o fs) ≡ 0
unfolding width
sound_by_column t o fs a m = (
  (λ e. wrong_none (columns t) (by_column o fs) (λ c h k.
      let l = place_in (width t) o a c h in
      let i : c < length o = omega (arith, n) in
      let w = none_wrong (standing t o) fs e (place c o) (omega (arith, standing_length t o)) (omega arith) in
      rw (by_column_at o fs c i) (rw (standing_at t o (place c o) l.0, l.1) at w))),
  (λ e. wrong_none (standing t o) fs (λ p h k.
      let i : p < length o = omega (arith, standing_length t o) in
      let s : get_or o p 0 < length (columns t) = arranged_below (width t) o a p i in
      let w = none_wrong (columns t) (by_column o fs) e (get_or o p 0) s (omega (arith, n, by_column_length o fs)) in
      rw (standing_at t o p i) (rw (by_column_at o fs (get_or o p 0) (omega (arith, n)), place_at (width t) o a p i) at w))),
)
  where
    n : length o ≡ length (columns t)
    n = arranged_long (width t) o a

-- whose a text is, by column and by place

default_free : (o : Order) (m x y : ℕ) → m < length o → get_or o m x ≡ get_or o m y
default_free [] m x y h = absurd (omega arith)
default_free (c ∷ o) zero x y h = refl
default_free (c ∷ o) (suc m) x y h = default_free o m x y (omega arith)

pub owner_column : (n : ℕ) (o : Order) → arranged n o ≡ true → (m c : ℕ) → c < n → owner_of (column_in o m) (suc c) ≡ owner_of m (suc (place c o))
unfolding owner_of column_in
owner_column n o a zero c h = same_owner (ne_eqb 0 (suc c) (λ e. omega arith) ∙ sym (ne_eqb 0 (suc (place c o)) (λ e. omega arith)))
  where
    same_owner : {x y : Bool} → x ≡ y → pick x O.Suggestion O.Operator ≡ pick y O.Suggestion O.Operator
    same_owner e = rw e
owner_column n o a (suc m) c h = same_owner (by (ltb m (length o)) refl)
  where
    same_owner : {x y : Bool} → x ≡ y → pick x O.Suggestion O.Operator ≡ pick y O.Suggestion O.Operator
    same_owner e = rw e

    l : (place c o < length o) × (get_or o (place c o) 0 ≡ c)
    l = place_in n o a c h

    by : (b : Bool) → ltb m (length o) ≡ b → eqb (suc (get_or o m m)) (suc c) ≡ eqb (suc m) (suc (place c o))
    by true e = here (eqb m (place c o)) refl
      where
        k : m < length o
        k = ltb-true m (length o) e

        d : get_or o m m ≡ get_or o m 0
        d = default_free o m m 0 k

        here : (b : Bool) → eqb m (place c o) ≡ b → eqb (suc (get_or o m m)) (suc c) ≡ eqb (suc m) (suc (place c o))
        here true q =
            let r : m ≡ place c o = eqb-true m (place c o) q in
            let x : get_or o m 0 ≡ c = rw r l.1 in
            eq-eqb (suc (get_or o m m)) (suc c) (ap suc (d ∙ x)) ∙ sym (eq-eqb (suc m) (suc (place c o)) (ap suc r))
        here false q =
            let r = eqb-false m (place c o) q in
            ne_eqb (suc (get_or o m m)) (suc c)
            (λ (x : suc (get_or o m m) ≡ suc c).
            let y : get_or o m 0 ≡ c = omega (arith, d) in
            r (sym (place_at n o a m k) ∙ ap (λ (v : ℕ). place v o) y))
            ∙ sym (ne_eqb (suc m) (suc (place c o)) (λ (x : suc m ≡ suc (place c o)). r (omega arith)))
    by false e =
        let k = ltb-false m (length o) e in
        let d : get_or o m m ≡ m = get_or-eq_default o m k in
        let j = arranged_long n o a in
        let i = l.0 in
        rw d (ne_eqb (suc m) (suc c) (λ (x : suc m ≡ suc c). omega arith) ∙ sym (ne_eqb (suc m) (suc (place c o)) (λ (x : suc m ≡ suc (place c o)). omega arith)))

-- document 01's own order

place_upto : (i n c : ℕ) → c < n → place (i + c) (upto i n) ≡ c
unfolding place upto
place_upto i zero c h = absurd (omega arith)
place_upto i (suc n) zero h = rw (eq-eqb i (i + 0) (sym (add-zero i)))
place_upto i (suc n) (suc c) h =
    let e : suc i + c ≡ i + suc c = omega arith in
    rw (ne_eqb i (i + suc c) (λ q. omega arith)) (ap suc (rw e at (place_upto (suc i) n c (omega arith))))

often_before : (i n c : ℕ) → c < i → often c (upto i n) ≡ 0
unfolding often upto
often_before i zero c h = refl
often_before i (suc n) c h = rw (ne_eqb i c (λ e. omega arith), often_before (suc i) n c (omega arith))

often_upto : (i n c : ℕ) → c < n → often (i + c) (upto i n) ≡ 1
unfolding often upto
often_upto i zero c h = absurd (omega arith)
often_upto i (suc n) zero h = rw (eq-eqb i (i + 0) (sym (add-zero i)), often_before (suc i) n (i + 0) (omega arith))
often_upto i (suc n) (suc c) h =
    let e : suc i + c ≡ i + suc c = omega arith in
    rw (ne_eqb i (i + suc c) (λ q. omega arith), rw e at (often_upto (suc i) n c (omega arith)))

module _ (t : ℕ) where
  pub listed_length : length (listed_order t) ≡ width t
  unfolding listed_order
  listed_length = upto_length 0 (width t)

  pub listed_at : (p : ℕ) → p < width t → get_or (listed_order t) p 0 ≡ p
  unfolding listed_order
  listed_at p h = upto_at 0 (width t) p 0 h ∙ zero-add p

  pub listed_place : (c : ℕ) → c < width t → place c (listed_order t) ≡ c
  unfolding listed_order
  listed_place c h = let z : 0 + c ≡ c = zero-add c in rw z at (place_upto 0 (width t) c h)

  pub listed_arranged : arranged (width t) (listed_order t) ≡ true
  unfolding listed_order
  listed_arranged =
      arranged_if (width t) (upto 0 (width t))
      (λ c h. ap (λ (x : ℕ). often x (upto 0 (width t))) (sym (zero-add c)) ∙ often_upto 0 (width t) c h)
      (λ p h. let k : p < width t = omega (arith, upto_length 0 (width t)) in omega (arith, upto_at 0 (width t) p 0 k))

  pub listed_standing : standing t (listed_order t) ≡ columns t
  unfolding width
  listed_standing =
      let n = standing_length t (listed_order t) ∙ listed_length in
      ext_get_or no_column (standing t (listed_order t)) (columns t) n
      (λ p h.
      let k : p < width t = omega (arith, n) in
      standing_at t (listed_order t) p (omega (arith, listed_length)) ∙ ap (λ (x : ℕ). get_or (columns t) x no_column) (listed_at p k))

  pub listed_column : (fs : List Bytes) → length fs ≡ width t → by_column (listed_order t) fs ≡ fs
  listed_column fs e =
      let m = by_column_length (listed_order t) fs ∙ listed_length in
      ext_get_or [] (by_column (listed_order t) fs) fs (m ∙ sym e)
      (λ p h.
      let k : p < width t = omega (arith, m) in
      by_column_at (listed_order t) fs p (omega (arith, listed_length)) ∙ ap (λ (x : ℕ). get_or fs x []) (listed_place p k))

  pub listed_mark : (m : ℕ) → column_in (listed_order t) m ≡ m
  unfolding column_in listed_order
  listed_mark zero = refl
  listed_mark (suc m) = ap suc (by (ltb m (width t)) refl)
    where
      by : (b : Bool) → ltb m (width t) ≡ b → get_or (upto 0 (width t)) m m ≡ m
      by true e = upto_at 0 (width t) m m (ltb-true m (width t) e) ∙ zero-add m
      by false e =
          let k = ltb-false m (width t) e in
          get_or-eq_default (upto 0 (width t)) m (omega (arith, upto_length 0 (width t)))
