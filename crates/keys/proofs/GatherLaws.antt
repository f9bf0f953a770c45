-- The fields that a choice takes are the key's values, and those of a reference, by column, in whatever order the columns stand.
-- Assumes nothing.
use mathlib.Core.Path.{◌≡◌, refl, ap, sym, ◌∙◌}
use mathlib.Core.Bool.{Bool, true, false, false≢true}
use mathlib.Core.List.{List, [], ◌∷◌, map}
use Prim.Native.Nat.{ℕ, zero, suc, ◌+◌, ◌*◌, ◌/◌, ◌%◌, ◌<◌, ◌≤◌}
use native.Mathlib.Omega.{arith}
use lib.Dec.{eqb, ltb, leb}
use lib.ListN.{length, get_or, set, drop, replicate, length-set, length-map, length-replicate, drop_of_length-le, get_or-map, get_or-eq_default}
use lib.Seq.{drop-cons, ext_get_or, get_or-set_same, get_or-set_other}
use borrow.Author.Tests.{eqb-true, eqb-false, ltb-true, ltb-false, leb-true, leb-false, eq-eqb, ne_eqb}
use Rattle.page.specs.Bytes.{Bytes, pick}
use Rattle.page.specs.Fields.{number_of, text_of, digits}
use Rattle.page.specs.Tables.{Named, WIDEST, no_column, columns, column_at, width}
use Rattle.page.specs.Order.{Order, often, arranged, place, by_column}
use Rattle.page.specs.Marks.{owner_of}
use Rattle.page.specs.Section.{words_of, record_text, left_out, amount}
use Rattle.page.specs.Records.{Datum, number, missing, Record, datum_of, values_of}
use Rattle.page.specs.File.{key_in, referred}
use Rattle.page.specs.declared.Column.{Column}
use Rattle.page.specs.declared.Owner.{Owner}
use Rattle.page.proofs.OrderLaws.{arranged_long, arranged_once, arranged_below, by_column_length, by_column_at}
use Rattle.page.proofs.TableLaws.{width_le}
use Rattle.tables.specs.Arrays.{fill}
use Rattle.tables.proofs.ArrayLaws.{fill_at, fill_length}
use Rattle.tables.specs.Keys.{by_key, key_columns, flags, reference_at, refer_columns}
use Rattle.choices.specs.Choices.{coded, kind_of, total, rank, choice_of, key_choice, refer_choice}
use Rattle.choices.proofs.ChoiceLaws.{rank_le, rank_lt, rank_up, rank_find, key_few, refer_few}
use Rattle.tables.proofs.ReferenceLaws.{flagged, flags_columns}
use Rattle.keys.specs.Numbers.{datum_number, seven, key_numbers, refer_numbers, packed_from, packed, field_as, gather, gathered}
use Rattle.keys.proofs.StoreLaws.{put, gather_one, gather_none}

get_d_zeros : (n s : ℕ) → ◌≡◌ {A = ℕ} (get_or (replicate n 0) s 0) 0
get_d_zeros zero s = get_or-eq_default {A = ℕ} [] 0 {n = s} (omega arith)
get_d_zeros (suc n) zero = refl
get_d_zeros (suc n) (suc s) = get_d_zeros n s

often_below : (n x : ℕ) (o : Order) → ((p : ℕ) → p < length o → get_or o p 0 < n) → 1 ≤ often x o → x < n
unfolding often
often_below n x [] h e = absurd (omega arith)
often_below n x (y ∷ o) h e = by (eqb y x) refl e (often_below n x o (λ p l. h (suc p) (omega arith)))
  where
    by : (b : Bool) → eqb y x ≡ b → 1 ≤ pick b 1 0 + often x o → (1 ≤ often x o → x < n) → x < n
    by true q e ih = let l : y < n = h 0 (omega arith) in omega (arith, eqb-true y x q)
    by false q e ih = ih (omega arith)

-- the values of the columns that are taken

unfoldable pub selected : List Bool → Record → Record
selected [] vs = []
selected (b ∷ bs) [] = []
selected (b ∷ bs) (v ∷ vs) = pick b (v ∷ selected bs vs) (selected bs vs)

selected_length : (bs : List Bool) (vs : Record) → length (selected bs vs) ≡ rank bs (length vs)
unfolding selected rank
selected_length [] vs = refl
selected_length (b ∷ bs) [] = refl
selected_length (true ∷ bs) (v ∷ vs) = omega (arith, selected_length bs vs)
selected_length (false ∷ bs) (v ∷ vs) = omega (arith, selected_length bs vs)

selected_at : (bs : List Bool) (vs : Record) (c : ℕ) (d : Datum) → c < length vs → get_or bs c false ≡ true → get_or (selected bs vs) (rank bs c) d ≡ get_or vs c d
unfolding selected rank
selected_at [] vs c d h e = absurd (false≢true e)
selected_at (b ∷ bs) [] c d h e = absurd (omega arith)
selected_at (b ∷ bs) (v ∷ vs) zero d h e = rw e
selected_at (true ∷ bs) (v ∷ vs) (suc c) d h e =
    let n : 1 + rank bs c ≡ suc (rank bs c) = omega arith in
    rw n (selected_at bs vs c d (omega arith) e)
selected_at (false ∷ bs) (v ∷ vs) (suc c) d h e =
    let n : 0 + rank bs c ≡ rank bs c = omega arith in
    rw n (selected_at bs vs c d (omega arith) e)

-- a column's value

values_length : (m i : ℕ) (cs : List Named) (fs : List Bytes) → length fs ≡ length cs → length (values_of m i cs fs) ≡ length cs
unfolding values_of
values_length m i [] fs e = refl
values_length m i (c ∷ cs) [] e = absurd (omega arith)
values_length m i (c ∷ cs) (f ∷ fs) e = ap suc (values_length m (suc i) cs fs (omega arith))

values_at : (m i : ℕ) (cs : List Named) (fs : List Bytes) (k : ℕ) → length fs ≡ length cs → k < length cs
    → get_or (values_of m i cs fs) k (number 0) ≡ datum_of (owner_of m (i + k)) (get_or cs k no_column).column (get_or fs k [])
unfolding values_of
values_at m i [] fs k e h = absurd (omega arith)
values_at m i (c ∷ cs) [] k e h = absurd (omega arith)
values_at m i (c ∷ cs) (f ∷ fs) zero e h = let z : i + 0 ≡ i = omega arith in rw z
values_at m i (c ∷ cs) (f ∷ fs) (suc k) e h =
    let z : i + suc k ≡ suc i + k = omega arith in
    rw z (values_at m (suc i) cs fs k (omega arith) (omega arith))

abbrev taken_as : Column → Bytes → ℕ
taken_as c f = field_as (kind_of true c) f

-- a field that is not there is worth nothing
taken_none : (c : Column) → taken_as c [] ≡ 0
unfolding kind_of field_as number_of record_text words_of text_of digits packed packed_from
taken_none c = by c.text
  where
    by : (b : Bool) → field_as (pick b 2 1) [] ≡ 0
    by true = refl
    by false = refl

-- nor is a missing number
left_none : (optional : Bool) (f : Bytes) (v : ℕ) → (f ≡ [] → v ≡ 0) → datum_number (pick (left_out optional f) missing (number v)) ≡ v
unfolding datum_number
left_none true [] v h = sym (h refl)
left_none true (b ∷ f) v h = rw (ne_eqb (suc (length f)) 0 (λ e. omega arith))
left_none false f v h = refl

taken_datum : (o : Owner) (c : Column) (f : Bytes) → datum_number (datum_of o c f) ≡ taken_as c f
unfolding kind_of datum_of datum_number field_as
taken_datum o c f = by c.text refl
  where
    by : (b : Bool) → c.text ≡ b → datum_number (datum_of o c f) ≡ taken_as c f
    by true e = rw e
    by false e = rw e (left_none c.optional f (amount (number_of f)) (λ q. rw q (rw e at (taken_none c))))

-- which column each number of a key is of is told by its rank
rank_apart : (bs : List Bool) (c d : ℕ) → get_or bs c false ≡ true → get_or bs d false ≡ true → eqb c d ≡ false → rank bs c ≡ rank bs d → ⊥
rank_apart bs c d e f n q = by (ltb c d) refl
  where
    by : (b : Bool) → ltb c d ≡ b → ⊥
    by true l = omega (arith, rank_up bs c d (ltb-true c d l) e)
    by false l =
        let k = ltb-false c d l in
        let x : c ≡ d → ⊥ = eqb-false c d n in
        omega (arith, rank_up bs d c (omega arith) f)

-- the walk, where the columns stand in the order o
module _ (bs : List Bool) (t : ℕ) (few : total bs ≤ 7) where
  abbrev kinds : Order → ℕ
  kinds o = coded 4 (map (λ (c : ℕ). kind_of (get_or bs c false) (column_at t c)) o)

  abbrev slots : Order → ℕ
  slots o = coded 8 (map (rank bs) o)

  abbrev laid : ℕ → Bytes → List ℕ → List ℕ
  laid x f k = pick (get_or bs x false) (set k (rank bs x) (taken_as (column_at t x) f)) k

  put_is : (x : ℕ) (f : Bytes) (k : List ℕ) → put (kind_of (get_or bs x false) (column_at t x)) (rank bs x) f k ≡ laid x f k
  unfolding kind_of
  put_is x f k = by (get_or bs x false) (column_at t x).text
    where
      by : (b y : Bool) → put (pick b (pick y 2 1) 0) (rank bs x) f k ≡ pick b (set k (rank bs x) (field_as (pick y 2 1) f)) k
      by true true = refl
      by true false = refl
      by false y = refl

  kind_lt : (x : ℕ) → kind_of (get_or bs x false) (column_at t x) < 4
  unfolding kind_of
  kind_lt x = by (get_or bs x false) (column_at t x).text
    where
      by : (b y : Bool) → pick b (pick y 2 1) 0 < 4
      by true true = omega arith
      by true false = omega arith
      by false y = omega arith

  gather_more : (x : ℕ) (o : Order) (f : Bytes) (fs : List Bytes) (k : List ℕ)
      → gather (kinds (x ∷ o)) (slots (x ∷ o)) (f ∷ fs) k ≡ gather (kinds o) (slots o) fs (laid x f k)
  unfolding coded
  gather_more x o f fs k =
      let d = kind_of (get_or bs x false) (column_at t x) in
      let l = kind_lt x in
      let r = rank_le bs x in
      let a : (kinds o * 4 + d) % 4 ≡ d = omega arith in
      let b : (kinds o * 4 + d) / 4 ≡ kinds o = omega arith in
      let u : (slots o * 8 + rank bs x) % 8 ≡ rank bs x = omega arith in
      let v : (slots o * 8 + rank bs x) / 8 ≡ slots o = omega arith in
      gather_one (kinds o * 4 + d) (slots o * 8 + rank bs x) f fs k ∙ rw (a, b, u, v) (ap (gather (kinds o) (slots o) fs) (put_is x f k))

  laid_length : (x : ℕ) (f : Bytes) (k : List ℕ) → length (laid x f k) ≡ length k
  laid_length x f k = by (get_or bs x false)
    where
      by : (b : Bool) → length (pick b (set k (rank bs x) (taken_as (column_at t x) f)) k) ≡ length k
      by true = length-set k (rank bs x) (taken_as (column_at t x) f)
      by false = refl

  laid_other : (x : ℕ) (f : Bytes) (k : List ℕ) (s : ℕ) → (get_or bs x false ≡ true → rank bs x ≡ s → ⊥) → get_or (laid x f k) s 0 ≡ get_or k s 0
  laid_other x f k s n = by (get_or bs x false) refl
    where
      by : (b : Bool) → get_or bs x false ≡ b → get_or (pick b (set k (rank bs x) (taken_as (column_at t x) f)) k) s 0 ≡ get_or k s 0
      by true e = get_or-set_other k (rank bs x) s (taken_as (column_at t x) f) 0 (λ q. n e (sym q))
      by false e = refl

  gather_length : (o : Order) (fs : List Bytes) (k : List ℕ) → length (gather (kinds o) (slots o) fs k) ≡ length k
  unfolding gather coded
  gather_length [] fs k = ap length (gather_none 0 fs k)
  gather_length (x ∷ o) [] k = refl
  gather_length (x ∷ o) (f ∷ fs) k = ap length (gather_more x o f fs k) ∙ gather_length o fs (laid x f k) ∙ laid_length x f k

  -- a number of the key that no column there has
  kept : (s : ℕ) (o : Order) (fs : List Bytes) (k : List ℕ) → ((x : ℕ) → 1 ≤ often x o → get_or bs x false ≡ true → rank bs x ≡ s → ⊥)
      → get_or (gather (kinds o) (slots o) fs k) s 0 ≡ get_or k s 0
  unfolding gather often coded
  kept s [] fs k n = ap (λ (l : List ℕ). get_or l s 0) (gather_none 0 fs k)
  kept s (x ∷ o) [] k n = refl
  kept s (x ∷ o) (f ∷ fs) k n =
      ap (λ (l : List ℕ). get_or l s 0) (gather_more x o f fs k)
      ∙ kept s o fs (laid x f k) (λ y h. n y (omega arith))
      ∙ laid_other x f k s (n x (rw (eq-eqb x x refl) (omega arith)))

  -- the number of the key that column c is
  filled : (c : ℕ) → get_or bs c false ≡ true → (o : Order) (fs : List Bytes) (k : List ℕ) → length k ≡ 7 → get_or k (rank bs c) 0 ≡ 0 → often c o ≡ 1
      → get_or (gather (kinds o) (slots o) fs k) (rank bs c) 0 ≡ taken_as (column_at t c) (get_or fs (place c o) [])
  unfolding gather often place
  filled c e [] fs k l z h = absurd (omega arith)
  filled c e (x ∷ o) [] k l z h = z ∙ sym (ap (taken_as (column_at t c)) (get_or-eq_default {A = Bytes} [] [] {n = place c (x ∷ o)} (omega arith)) ∙ taken_none (column_at t c))
  filled c e (x ∷ o) (f ∷ fs) k l z h =
      ap (λ (l : List ℕ). get_or l (rank bs c) 0) (gather_more x o f fs k) ∙ by (eqb x c) refl h (filled c e o fs (laid x f k) (laid_length x f k ∙ l))
    where
      by : (b : Bool) → eqb x c ≡ b → pick b 1 0 + often c o ≡ 1
          → (get_or (laid x f k) (rank bs c) 0 ≡ 0 → often c o ≡ 1
          → get_or (gather (kinds o) (slots o) fs (laid x f k)) (rank bs c) 0 ≡ taken_as (column_at t c) (get_or fs (place c o) []))
          → get_or (gather (kinds o) (slots o) fs (laid x f k)) (rank bs c) 0 ≡ taken_as (column_at t c) (get_or (f ∷ fs) (pick b 0 (suc (place c o))) [])
      by true q g ih =
          let r : x ≡ c = eqb-true x c q in
          let w : rank bs c < 7 = omega (arith, rank_lt bs c e) in
          kept (rank bs c) o fs (laid x f k) (λ y i j m. other y i j m (eqb y c) refl)
          ∙ rw (r, e) (get_or-set_same k (rank bs c) (taken_as (column_at t c) f) 0 (omega arith))
        where
          other : (y : ℕ) → 1 ≤ often y o → get_or bs y false ≡ true → rank bs y ≡ rank bs c → (d : Bool) → eqb y c ≡ d → ⊥
          other y i j m true d = let a : often y o ≡ often c o = ap (λ (v : ℕ). often v o) (eqb-true y c d) in omega arith
          other y i j m false d = rank_apart bs y c j e d m
      by false q g ih = ih (laid_other x f k (rank bs c) (λ i j. rank_apart bs x c i e q j) ∙ z) (omega arith)

  -- all of them
  module _ (o : Order) (a : arranged (width t) o ≡ true) (m : ℕ) (fs : List Bytes) where
    abbrev vs : Record
    vs = values_of m 1 (columns t) (by_column o fs)

    by_long : length (by_column o fs) ≡ length (columns t)
    unfolding width
    by_long = by_column_length o fs ∙ arranged_long (width t) o a

    long : length vs ≡ width t
    unfolding width
    long = values_length m 1 (columns t) (by_column o fs) by_long

    value_is : (c : ℕ) → c < width t → datum_number (get_or vs c (number 0)) ≡ taken_as (column_at t c) (get_or fs (place c o) [])
    unfolding width column_at
    value_is c h =
        ap datum_number (values_at m 1 (columns t) (by_column o fs) c by_long h)
        ∙ taken_datum (owner_of m (1 + c)) (get_or (columns t) c no_column).column (get_or (by_column o fs) c [])
        ∙ ap (taken_as (get_or (columns t) c no_column).column) (by_column_at o fs c (omega (arith, arranged_long (width t) o a)))

    abbrev numbers : List ℕ
    numbers = map datum_number (selected bs vs)

    numbers_long : length numbers ≡ rank bs (width t)
    numbers_long = length-map (selected bs vs) datum_number ∙ selected_length bs vs ∙ ap (rank bs) long

    pub gathered_is : gathered (choice_of bs t o) fs ≡ seven numbers
    unfolding gathered choice_of seven datum_number
    gathered_is =
        let l : length (gather (kinds o) (slots o) fs (replicate 7 0)) ≡ 7 = gather_length o fs (replicate 7 0) ∙ length-replicate {A = ℕ} 7 0 in
        ext_get_or 0 (gather (kinds o) (slots o) fs (replicate 7 0)) (fill 7 0 numbers) (l ∙ sym (fill_length 7 0 numbers))
        (λ s h. let k : s < 7 = omega (arith, l) in by s (ltb s (rank bs (width t))) refl ∙ sym (fill_at 0 0 7 numbers s k))
      where
        by : (s : ℕ) (b : Bool) → ltb s (rank bs (width t)) ≡ b → get_or (gather (kinds o) (slots o) fs (replicate 7 0)) s 0 ≡ get_or numbers s 0
        by s true e =
            let r = rank_find bs (width t) s (ltb-true s (rank bs (width t)) e) in
            let c = r.column in
            let w : c < length vs = omega (arith, long, r.within) in
            rw (sym r.is)
            (filled c r.taken o fs (replicate 7 0) (length-replicate {A = ℕ} 7 0) (get_d_zeros 7 (rank bs c)) (arranged_once (width t) o a c r.within)
            ∙ sym (value_is c r.within)
            ∙ ap datum_number (sym (selected_at bs vs c (number 0) w r.taken))
            ∙ sym (get_or-map datum_number (selected bs vs) (rank bs c) (number 0)))
        by s false e =
            let n = ltb-false s (rank bs (width t)) e in
            kept s o fs (replicate 7 0) (λ x i j q.
            let y = often_below (width t) x o (arranged_below (width t) o a) i in
            omega (arith, rank_up bs x (width t) y j))
            ∙ get_d_zeros 7 s ∙ sym (get_or-eq_default numbers 0 {n = s} (omega (arith, numbers_long)))

-- a key's columns
key_selected : (p : Column → Bool) (cs : List Named) (vs : Record) → key_in p cs vs ≡ selected (map (λ (c : Named). p c.column) cs) vs
unfolding key_in selected
key_selected p [] vs = refl
key_selected p (c ∷ cs) [] = refl
key_selected p (c ∷ cs) (v ∷ vs) = rw (key_selected p cs vs)

-- what stands past a table's columns is not taken
selected_fill : (n : ℕ) (bs : List Bool) (vs : Record) → length vs ≤ length bs → length bs ≤ n → selected (fill n false bs) vs ≡ selected bs vs
unfolding selected fill
selected_fill zero [] vs h k = refl
selected_fill zero (b ∷ bs) vs h k = absurd (omega arith)
selected_fill (suc n) [] [] h k = refl
selected_fill (suc n) [] (v ∷ vs) h k = absurd (omega arith)
selected_fill (suc n) (b ∷ bs) [] h k = refl
selected_fill (suc n) (b ∷ bs) (v ∷ vs) h k = rw (selected_fill n bs vs (omega arith) (omega arith))

-- a line's key is that of its record
pub gathered_key : (second : Bool) (t : ℕ) (o : Order) → arranged (width t) o ≡ true → (m : ℕ) (fs : List Bytes)
    → gathered (key_choice (by_key second) t o) fs ≡ key_numbers (by_key second) t (values_of m 1 (columns t) (by_column o fs))
unfolding key_choice key_columns key_numbers width
gathered_key second t o a m fs =
    let p = by_key second in
    let cs = columns t in
    let bs = map (λ (c : Named). p c.column) cs in
    let vs = values_of m 1 cs (by_column o fs) in
    let n : length bs ≡ length cs = length-map cs (λ (c : Named). p c.column) in
    let l : length vs ≡ length cs = long (fill WIDEST false bs) t (key_few second t) o a m fs in
    gathered_is (fill WIDEST false bs) t (key_few second t) o a m fs
    ∙ ap (λ (r : Record). seven (map datum_number r))
    (selected_fill WIDEST bs vs (omega arith) (omega (arith, width_le t)) ∙ sym (key_selected p cs vs))

-- past the values all is 0
fill_none : (n i : ℕ) (bs : List Bool) (vs : Record) → length vs ≤ i → fill n 0 (map datum_number (referred (flagged i bs) vs)) ≡ fill n 0 []
unfolding fill referred flagged datum_number
fill_none zero i bs vs h = refl
fill_none (suc n) i [] vs h = refl
fill_none (suc n) i (true ∷ bs) vs h = rw (get_or-eq_default vs (number 0) h, fill_none n (suc i) bs vs (omega arith))
fill_none (suc n) i (false ∷ bs) vs h = fill_none (suc n) (suc i) bs vs (omega arith)

fill_flagged : (n i : ℕ) (bs : List Bool) (vs : Record)
    → fill n 0 (map datum_number (referred (flagged i bs) vs)) ≡ fill n 0 (map datum_number (selected bs (drop i vs)))
unfolding fill referred flagged selected
fill_flagged zero i bs vs = refl
fill_flagged (suc n) i [] vs = refl
fill_flagged (suc n) i (b ∷ bs) vs = by b (leb (length vs) i) refl (fill_flagged n (suc i) bs vs) (fill_flagged (suc n) (suc i) bs vs)
  where
    by : (b x : Bool) → leb (length vs) i ≡ x
        → fill n 0 (map datum_number (referred (flagged (suc i) bs) vs)) ≡ fill n 0 (map datum_number (selected bs (drop (suc i) vs)))
        → fill (suc n) 0 (map datum_number (referred (flagged (suc i) bs) vs)) ≡ fill (suc n) 0 (map datum_number (selected bs (drop (suc i) vs)))
        → fill (suc n) 0 (map datum_number (referred (flagged i (b ∷ bs)) vs)) ≡ fill (suc n) 0 (map datum_number (selected (b ∷ bs) (drop i vs)))
    by b true x e f =
        let h : length vs ≤ i = leb-true (length vs) i x in
        fill_none (suc n) i (b ∷ bs) vs h ∙ rw (drop_of_length-le vs h)
    by true false x e f =
        let h : i < length vs = leb-false (length vs) i x in
        rw (drop-cons vs i (number 0) h, e)
    by false false x e f =
        let h : i < length vs = leb-false (length vs) i x in
        rw (drop-cons vs i (number 0) h) f

pub gathered_reference : (t r : ℕ) (o : Order) → arranged (width t) o ≡ true → (m : ℕ) (fs : List Bytes)
    → gathered (refer_choice t r o) fs ≡ refer_numbers (reference_at t r).columns (values_of m 1 (columns t) (by_column o fs))
unfolding refer_choice refer_columns refer_numbers seven
gathered_reference t r o a m fs =
    let bs = flags WIDEST 0 (reference_at t r).columns in
    let vs = values_of m 1 (columns t) (by_column o fs) in
    gathered_is bs t (refer_few t r) o a m fs
    ∙ sym (fill_flagged 7 0 bs vs) ∙ ap (λ (ks : List ℕ). fill 7 0 (map datum_number (referred ks vs))) (flags_columns t r)
