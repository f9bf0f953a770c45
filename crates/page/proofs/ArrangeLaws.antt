-- The reading of an `atr` line is the arrangement that its names make. Assumes nothing.
use mathlib.Core.Path.{◌≡◌, refl, ap, sym, ◌∙◌}
use mathlib.Core.Logic.{◌↔◌}
use mathlib.Core.Bool.{Bool, true}
use mathlib.Core.List.{List, [], ◌∷◌, map}
use Prim.Native.Nat.{ℕ, zero, suc, ◌+◌, ◌-◌, ◌<◌}
use Prim.Native.String.{String}
use native.Mathlib.Nat.{zero-add}
use native.Mathlib.Omega.{arith}
use lib.Dec.{eqb}
use lib.ListN.{length, get_or, length-map, get_or-map}
use lib.Seq.{ext_get_or}
use borrow.Author.Tests.{eqb-true, eq-eqb, ne_eqb}
use Rattle.page.specs.Bytes.{Bytes, bytes, all, same}
use Rattle.page.specs.Lines.{find}
use Rattle.page.specs.Tables.{Named, Table, all_tables, no_column, columns, width, name_at}
use Rattle.page.specs.Order.{Order, upto, order_of, often, arranged, place}
use Rattle.page.specs.Grammar.{Arrangement}
use Rattle.page.proofs.NameLaws.{found}
use Rattle.page.proofs.TableLaws.{each, table_test}
use Rattle.page.proofs.OrderLaws.{all_upto, arranged_below, arranged_if, place_in, place_at}

abbrev names : ℕ → List String
names t = map (λ (c : Named). c.name) (columns t)

name_listed : (t c : ℕ) → get_or (names t) c "" ≡ name_at t c
unfolding name_at
name_listed t c = get_or-map (λ (c : Named). c.name) (columns t) c no_column

-- each name of a table is found at its own place: computed

abbrev own_names : List Named → Bool
own_names cs = all (λ (c : ℕ). eqb (find 0 (map (λ (x : Named). x.name) cs) (bytes (get_or cs c no_column).name)) c) (upto 0 (length cs))

pub name_found : (t c : ℕ) → c < width t → find 0 (names t) (bytes (name_at t c)) ≡ c
unfolding width columns name_at each all_tables all upto find same bytes
name_found t c h =
    let z : 0 + c ≡ c = zero-add c in
    eqb-true (find 0 (names t) (bytes (get_or (columns t) c no_column).name)) c
    (rw z at (all_upto (λ (c : ℕ). eqb (find 0 (names t) (bytes (get_or (columns t) c no_column).name)) c) 0 (width t)
    (table_test (λ (x : Table). own_names x.columns) refl refl t) c h))

-- the columns that fields name

pub order_length : (t : ℕ) (fs : List Bytes) → length (order_of t fs) ≡ length fs
unfolding order_of
order_length t fs = length-map fs (find 0 (names t))

order_at : (t : ℕ) (fs : List Bytes) (p : ℕ) → p < length fs → get_or (order_of t fs) p 0 ≡ find 0 (names t) (get_or fs p [])
unfolding order_of
order_at t [] p h = absurd (omega arith)
order_at t (f ∷ fs) zero h = refl
order_at t (f ∷ fs) (suc p) h = order_at t fs p (omega arith)

names_at : (t : ℕ) (o : Order) (p : ℕ) → p < length o → get_or (map (λ (c : ℕ). bytes (name_at t c)) o) p [] ≡ bytes (name_at t (get_or o p 0))
names_at t [] p h = absurd (omega arith)
names_at t (x ∷ o) zero h = refl
names_at t (x ∷ o) (suc p) h = names_at t o p (omega arith)

named_so : (t : ℕ) (f : Bytes) → find 0 (names t) f < width t → bytes (name_at t (find 0 (names t) f)) ≡ f
unfolding width
named_so t f h =
    let n : length (names t) ≡ length (columns t) = length-map (columns t) (λ (c : Named). c.name) in
    let z : find 0 (names t) f - 0 ≡ find 0 (names t) f = omega arith in
    ap bytes (sym (name_listed t (find 0 (names t) f))) ∙ rw z at (found 0 (names t) f (omega arith))

-- names of columns are read as these columns
pub order_named : (t : ℕ) (o : Order) → ((p : ℕ) → p < length o → get_or o p 0 < width t) → order_of t (map (λ (c : ℕ). bytes (name_at t c)) o) ≡ o
order_named t o small =
    let n = order_length t (map (λ (c : ℕ). bytes (name_at t c)) o) ∙ length-map o (λ (c : ℕ). bytes (name_at t c)) in
    ext_get_or 0 (order_of t (map (λ (c : ℕ). bytes (name_at t c)) o)) o n
    (λ p h.
    let k : p < length o = omega (arith, n) in
    order_at t (map (λ (c : ℕ). bytes (name_at t c)) o) p (omega (arith, length-map o (λ (c : ℕ). bytes (name_at t c))))
    ∙ ap (find 0 (names t)) (names_at t o p k) ∙ name_found t (get_or o p 0) (small p k))

-- and where each field names a column, the fields are its columns' names
pub named_order : (t : ℕ) (fs : List Bytes) → ((p : ℕ) → p < length (order_of t fs) → get_or (order_of t fs) p 0 < width t)
    → fs ≡ map (λ (c : ℕ). bytes (name_at t c)) (order_of t fs)
named_order t fs small =
    let n = order_length t fs in
    let m = length-map (order_of t fs) (λ (c : ℕ). bytes (name_at t c)) in
    ext_get_or [] fs (map (λ (c : ℕ). bytes (name_at t c)) (order_of t fs)) (sym (m ∙ n))
    (λ p h.
    let k : p < length (order_of t fs) = omega (arith, n) in
    let e = order_at t fs p h in
    let s = small p k in
    sym (names_at t (order_of t fs) p k ∙ ap (λ (c : ℕ). bytes (name_at t c)) e ∙ named_so t (get_or fs p []) (rw e at s)))

-- an arrangement stands each column once

often_none : (c : ℕ) (o : Order) → ((q : ℕ) → q < length o → ¬ (get_or o q 0 ≡ c)) → often c o ≡ 0
unfolding often
often_none c [] h = refl
often_none c (x ∷ o) h =
    rw (ne_eqb x c (h 0 (omega arith)), often_none c o (λ q k. h (suc q) (omega arith)))

often_one : (c : ℕ) (o : Order) (p : ℕ) → p < length o → get_or o p 0 ≡ c → ((q : ℕ) → q < length o → get_or o q 0 ≡ c → q ≡ p) → often c o ≡ 1
unfolding often
often_one c [] p h e u = absurd (omega arith)
often_one c (x ∷ o) zero h e u =
    rw (eq-eqb x c e, often_none c o (λ q k f. let z : suc q ≡ 0 = u (suc q) (omega arith) f in omega arith))
often_one c (x ∷ o) (suc p) h e u =
    rw (ne_eqb x c (λ f. let z : 0 ≡ suc p = u 0 (omega arith) f in omega arith))
    (zero-add (often c o) ∙ often_one c o p (omega arith) e (λ q k f. let z : suc q ≡ suc p = u (suc q) (omega arith) f in omega arith))

pub arrangement_arranged : (t : ℕ) (o : Order) → Arrangement t o → arranged (width t) o ≡ true
arrangement_arranged t o a =
    arranged_if (width t) o
    (λ c h.
    let x = a.there c h in
    let e = x.2 in
    often_one c o x.0 x.1 e (λ q k f. a.once q x.0 k x.1 (f ∙ sym e)))
    a.only

pub arranged_arrangement : (t : ℕ) (o : Order) → arranged (width t) o ≡ true → Arrangement t o
arranged_arrangement t o r =
    record {
      only = arranged_below (width t) o r;
      there = λ c h. let x = place_in (width t) o r c h in (place c o, x.0, x.1);
      once = λ p q h k e. sym (place_at (width t) o r p h) ∙ ap (λ (c : ℕ). place c o) e ∙ place_at (width t) o r q k;
    }

-- "8 is now given exactly if the names are no such arrangement"
pub arranged_exactly : (t : ℕ) (fs : List Bytes)
    → arranged (width t) (order_of t fs) ≡ true ↔ ((o : Order) × Arrangement t o × (fs ≡ map (λ (c : ℕ). bytes (name_at t c)) o))
arranged_exactly t fs = (
  (λ r. (order_of t fs, arranged_arrangement t (order_of t fs) r, named_order t fs (arranged_below (width t) (order_of t fs) r))),
  (λ x. let e = ap (order_of t) x.2 ∙ order_named t x.0 x.1.only in rw e (arrangement_arranged t x.0 x.1)),
)
