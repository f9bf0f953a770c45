-- Seats taken one after the other, each table once. Assumes nothing.
use mathlib.Core.Path.{◌≡◌, refl, ap, sym, ◌∙◌}
use mathlib.Core.Bool.{Bool, true, false, ◌||◌}
use mathlib.Core.List.{List, [], ◌∷◌, map}
use Prim.Native.Nat.{ℕ, zero, suc, ◌+◌, ◌-◌, ◌<◌, ◌≤◌}
use native.Mathlib.Numerals.{add-one}
use native.Mathlib.Nat.{add-zero}
use native.Mathlib.Omega.{arith}
use borrow.Author.Tests.{eq-eqb, ne_eqb, eqb-true, eqb-false}
use lib.Dec.{eqb}
use lib.ListN.{length, get_or, take, drop, set, length-set, length-map, replicate, get_or-map}
use lib.Seq.{drop-cons, drop-length, get_or-set_same, get_or-set_other, get_or-take, length-take-le}
use Rattle.page.specs.Bytes.{Bytes, pick}
use Rattle.page.specs.Lines.{lines}
use Rattle.page.specs.Fields.{fields}
use Rattle.page.specs.Tables.{TABLES, number_at}
use Rattle.page.specs.Cut.{Section, sections}
use Rattle.page.specs.Head.{latin_of}
use Rattle.page.specs.Records.{table_index, atr_in}
use Rattle.page.specs.Answers.{refusal, sound}
use Rattle.page.specs.File.{any, row_given, row_of, rows_of, first_unsound, first_again}
use Rattle.page.specs.declared.Row.{Row}
use Rattle.page.proofs.KeyLaws.{any_yes, any_no, any_onto, onto}
use Rattle.page.proofs.TableLaws.{number_injective}
use Rattle.page.proofs.CutLaws.{no_section, sections_from, sections_all, sections_end}
use Rattle.names.specs.Told.{Told}
use Rattle.cut.specs.Walk.{section_size, section_from, Settled, Next}
use Rattle.cut.specs.Sections.{SectionAt}
use Rattle.cut.specs.declared.sections.Section.{Section as Found}
use Rattle.seats.specs.declared.seating.Seat.{Seat}
use Rattle.seats.specs.Seating.{no_seat, seat_lines, Sits, Seated, Stating, Ready}
use Rattle.seats.proofs.WalkLaws.{sound_here, Among, among}

-- 17, by the places of the rows

abbrev table_in : Row → ℕ
table_in r = r.table

module _ (d : Row) where
  abbrev met : List Row → ℕ → Bool
  met rs m = any (eqb (get_or rs m d).table) (map table_in (take m rs))

  again_skip : (k i : ℕ) (seen : List ℕ) (rs : List Row) → k ≤ length rs
      → ((m : ℕ) → m < k → any (eqb (get_or rs m d).table) (onto (map table_in (take m rs)) seen) ≡ false)
      → first_again seen i rs ≡ first_again (onto (map table_in (take k rs)) seen) (i + k) (drop k rs)
  unfolding first_again onto
  again_skip zero i seen rs h p = rw add-zero
  again_skip (suc k) i seen [] h p = absurd (omega arith)
  again_skip (suc k) i seen (r ∷ rs) h p =
      let n : i + suc k ≡ suc i + k = omega arith in
      rw (p 0 (omega arith), n) (again_skip k (suc i) (r.table ∷ seen) rs (omega arith) (λ m l. p (suc m) (omega arith)))

  met_onto : (rs : List Row) (m : ℕ) (b : Bool) → met rs m ≡ b → any (eqb (get_or rs m d).table) (onto (map table_in (take m rs)) []) ≡ b
  unfolding any
  met_onto rs m b e = any_onto (eqb (get_or rs m d).table) (map table_in (take m rs)) [] ∙ rw e (by b)
    where
      by : (b : Bool) → (b || false) ≡ b
      by true = refl
      by false = refl

  module _ (rs : List Row) (m : ℕ) (l : m ≤ length rs) where
    at_map : (j : ℕ) → j < m → get_or (map table_in (take m rs)) j d.table ≡ (get_or rs j d).table
    at_map j h = get_or-map table_in (take m rs) j d ∙ ap table_in (get_or-take m rs j d h)

    map_long : length (map table_in (take m rs)) ≡ m
    map_long = length-map (take m rs) table_in ∙ length-take-le m rs l

    met_no : ((j : ℕ) → j < m → (get_or rs m d).table ≡ (get_or rs j d).table → ⊥) → met rs m ≡ false
    met_no p =
        any_no (eqb (get_or rs m d).table) d.table (map table_in (take m rs))
        (λ j h. let k : j < m = omega (arith, map_long) in rw (at_map j k) (ne_eqb (get_or rs m d).table (get_or rs j d).table (p j k)))

    met_yes : (j : ℕ) → j < m → (get_or rs m d).table ≡ (get_or rs j d).table → met rs m ≡ true
    met_yes j h e =
        any_yes (eqb (get_or rs m d).table) d.table (map table_in (take m rs)) j (omega (arith, map_long))
        (rw (at_map j h) (eq-eqb (get_or rs m d).table (get_or rs j d).table e))

  abbrev Fresh : List Row → ℕ → Type 0
  Fresh rs n = (m : ℕ) → m < n → (j : ℕ) → j < m → (get_or rs m d).table ≡ (get_or rs j d).table → ⊥

  skipped : (rs : List Row) (n : ℕ) → n ≤ length rs → Fresh rs n → first_again [] 1 rs ≡ first_again (onto (map table_in (take n rs)) []) (1 + n) (drop n rs)
  skipped rs n h p = again_skip n 1 [] rs h (λ m l. met_onto rs m false (met_no rs m (omega arith) (p m l)))

  again_none : (rs : List Row) → Fresh rs (length rs) → first_again [] 1 rs ≡ sound
  unfolding first_again
  again_none rs p = skipped rs (length rs) (omega arith) p ∙ rw (drop-length rs)

  again_at : (rs : List Row) (n : ℕ) → n < length rs → Fresh rs n → (j : ℕ) → j < n → (get_or rs n d).table ≡ (get_or rs j d).table → first_again [] 1 rs ≡ refusal 17 (n + 1) 1
  unfolding first_again
  again_at rs n h p j l e =
      let k : 1 + n ≡ n + 1 = omega arith in
      skipped rs n (omega arith) p
      ∙ rw (drop-cons rs n d h, met_onto rs n true (met_yes rs n (omega arith) j l e), k)

-- how many places are taken

unfoldable pub filled : List ℕ → ℕ
filled [] = 0
filled (x ∷ xs) = pick (eqb x 0) (filled xs) (suc (filled xs))

filled_le : (xs : List ℕ) → filled xs ≤ length xs
unfolding filled
filled_le [] = omega arith
filled_le (x ∷ xs) = by (eqb x 0) (filled_le xs)
  where
    by : (b : Bool) → filled xs ≤ length xs → pick b (filled xs) (suc (filled xs)) ≤ suc (length xs)
    by true h = omega arith
    by false h = omega arith

filled_room : (xs : List ℕ) (t : ℕ) → t < length xs → get_or xs t 0 ≡ 0 → filled xs < length xs
unfolding filled
filled_room [] t h e = absurd (omega arith)
filled_room (x ∷ xs) zero h e = rw (eq-eqb x 0 e) (omega (arith, filled_le xs))
filled_room (x ∷ xs) (suc t) h e = by (eqb x 0) (filled_room xs t (omega arith) e)
  where
    by : (b : Bool) → filled xs < length xs → pick b (filled xs) (suc (filled xs)) < suc (length xs)
    by true h = omega arith
    by false h = omega arith

filled_set : (xs : List ℕ) (t v : ℕ) → t < length xs → get_or xs t 0 ≡ 0 → filled (set xs t (suc v)) ≡ suc (filled xs)
unfolding filled
filled_set [] t v h e = absurd (omega arith)
filled_set (x ∷ xs) zero v h e = rw (eq-eqb x 0 e, ne_eqb (suc v) 0 (λ z. omega arith))
filled_set (x ∷ xs) (suc t) v h e = by (eqb x 0) (filled_set xs t v (omega arith) e)
  where
    by : (b : Bool) → filled (set xs t (suc v)) ≡ suc (filled xs)
        → pick b (filled (set xs t (suc v))) (suc (filled (set xs t (suc v)))) ≡ suc (pick b (filled xs) (suc (filled xs)))
    by true q = q
    by false q = ap suc q

filled_none : (n : ℕ) (xs : List ℕ) → ((k : ℕ) → k < length xs → get_or xs k 0 ≡ 0) → filled xs ≡ 0
unfolding filled
filled_none n [] h = refl
filled_none n (x ∷ xs) h = rw (eq-eqb x 0 (h 0 (omega arith))) (filled_none n xs (λ k l. h (suc k) (omega arith)))

-- the walk from section to section: n have their seats, and the next one begins at a place
pub record Going (s : Bytes) (n at : ℕ) (seats : List Seat) (place : List ℕ) : Type 0 where
  pub within : at ≤ length s
  pub settled : Settled s at
  pub rest : sections_from s at ≡ drop n (sections s)
  pub passed : n ≤ length (sections s)
  pub long : length seats ≡ TABLES
  pub wide : length place ≡ TABLES
  pub many : filled place ≡ n
  pub seated : Seated s n seats place

pub going_few : (s : Bytes) (n at : ℕ) (seats : List Seat) (place : List ℕ) → Going s n at seats place → n ≤ TABLES
going_few s n at seats place g = omega (arith, filled_le place, g.many, g.wide)

pub none_taken : (n k : ℕ) → ◌≡◌ {A = ℕ} (get_or (replicate n 0) k 0) 0
none_taken zero k = refl
none_taken (suc n) zero = refl
none_taken (suc n) (suc k) = none_taken n k

pub going_first : (s : Bytes) (at : ℕ) → Next s 0 at → (seats : List Seat) → length seats ≡ TABLES → (place : List ℕ) → length place ≡ TABLES
    → ((k : ℕ) → get_or place k 0 ≡ 0) → Going s 0 at seats place
going_first s at x seats l place w z =
    record {
      within = x.within;
      settled = x.settled;
      rest = x.same ∙ sections_all s;
      passed = omega arith;
      long = l;
      wide = w;
      many = filled_none 0 place (λ k h. z k);
      seated =
          record {
            sits = λ i h. absurd (omega arith);
            placed = λ i h. absurd (omega arith);
            taken = λ t k e. absurd (let n : ◌≡◌ {A = ℕ} 0 (suc k) = sym (z t) ∙ e in omega arith);
          };
    }

-- the order of the columns of each section

pub stating_none : (s : Bytes) (seats : List Seat) → Stating s 0 seats
stating_none s seats = record { each = λ i h. absurd (omega arith) }

module _ (s : Bytes) (n : ℕ) (seats : List Seat) (l : n < length seats) (g : Stating s n seats) (a : Seat) (f : Told a.table (fields (atr_in (seat_lines s a))) a.order) where
  pub stating_more : Stating s (n + 1) (set seats n a)
  stating_more = record { each = λ i h. by i h (eqb i n) refl }
    where
      by : (i : ℕ) → i < n + 1 → (c : Bool) → eqb i n ≡ c
          → Told (get_or (set seats n a) i no_seat).table (fields (atr_in (seat_lines s (get_or (set seats n a) i no_seat)))) (get_or (set seats n a) i no_seat).order
      by i h true y =
          let w : i ≡ n = eqb-true i n y in
          rw (w, get_or-set_same seats n a no_seat l) f
      by i h false y =
          let w = eqb-false i n y in
          let m : i < n = omega arith in
          rw (get_or-set_other seats n i a no_seat (λ z. omega arith)) (g.each i m)

module _ (s : Bytes) (v : first_unsound 1 (rows_of s) ≡ sound) where
  row_table : (k : ℕ) → k < length (sections s) → (get_or (rows_of s) k (row_of (latin_of s) no_section)).table ≡ number_at (table_index (get_or (sections s) k no_section).lines)
  unfolding rows_of row_of row_given
  row_table k h = ap table_in (get_or-map (row_of (latin_of s)) (sections s) k no_section) ∙ (sound_here s v k h).number

  rows_long : length (rows_of s) ≡ length (sections s)
  unfolding rows_of
  rows_long = length-map (sections s) (row_of (latin_of s))

  same_table : (i j : ℕ) → i < length (sections s) → j < length (sections s)
      → (get_or (rows_of s) i (row_of (latin_of s) no_section)).table ≡ (get_or (rows_of s) j (row_of (latin_of s) no_section)).table
      → table_index (get_or (sections s) i no_section).lines ≡ table_index (get_or (sections s) j no_section).lines
  same_table i j h l e =
      number_injective (table_index (get_or (sections s) i no_section).lines) (table_index (get_or (sections s) j no_section).lines)
      (sound_here s v i h).known (sound_here s v j l).known (sym (row_table i h) ∙ e ∙ row_table j l)

  module _ (n : ℕ) (seats : List Seat) (place : List ℕ) (l : n ≤ length (sections s)) (g : Seated s n seats place) where
    pub seats_apart : (i j : ℕ) → i < n → j < n → table_index (get_or (sections s) i no_section).lines ≡ table_index (get_or (sections s) j no_section).lines → i ≡ j
    seats_apart i j h k e =
        let a : (get_or seats i no_seat).table ≡ (get_or seats j no_seat).table = (g.sits i h).table ∙ e ∙ sym (g.sits j k).table in
        let b : suc i ≡ suc j = sym (g.placed i h) ∙ ap (λ (t : ℕ). get_or place t 0) a ∙ g.placed j k in
        omega arith

    fresh : Fresh (row_of (latin_of s) no_section) (rows_of s) n
    fresh m h j k e = let z : m ≡ j = seats_apart m j h (omega arith) (same_table m j (omega arith) (omega arith) e) in omega arith

  -- the section that the walk has come to, of table t
  module _ (n at : ℕ) (seats : List Seat) (place : List ℕ) (g : Going s n at seats place) (x : Found) (r : ℕ) (f : SectionAt s at x r)
      (t : ℕ) (q : t ≡ table_index (section_from s x.at).lines) where
    here : Among s at n
    here = among s at f.before g.settled n g.rest

    is_table : t ≡ table_index (section_from s at).lines
    is_table = rw f.at at q

    pub table_known : t < TABLES
    table_known =
        let k = (sound_here s v n here.within).known in
        let y : t ≡ table_index (get_or (sections s) n no_section).lines = is_table ∙ ap (λ (a : Section). table_index a.lines) (sym here.is) in
        omega arith

    -- its table stands before
    pub going_again : (get_or place t 0 ≡ 0 → ⊥) → first_again [] 1 (rows_of s) ≡ refusal 17 (n + 1) 1
    going_again z = by (get_or place t 0) refl
      where
        by : (p : ℕ) → get_or place t 0 ≡ p → first_again [] 1 (rows_of s) ≡ refusal 17 (n + 1) 1
        by zero y = absurd (z y)
        by (suc k) y =
            let w = g.seated.taken t k y in
            let i = here.within in
            let a : table_index (get_or (sections s) n no_section).lines ≡ table_index (get_or (sections s) k no_section).lines =
            ap (λ (a : Section). table_index a.lines) here.is ∙ sym is_table ∙ sym w.1 ∙ (g.seated.sits k w.0).table in
            again_at (row_of (latin_of s) no_section) (rows_of s) n (omega (arith, rows_long)) (fresh n seats place g.passed g.seated) k w.0
            (row_table n i ∙ ap number_at a ∙ sym (row_table k (omega arith)))

    pub seat_room : get_or place t 0 ≡ 0 → n < TABLES
    seat_room z = omega (arith, filled_room place t (omega (arith, g.wide, table_known)) z, g.many, g.wide)

    -- its seat goes up to e
    module _ (e : ℕ) (d : e ≡ x.at + length x.bytes.now) where
      size_is : e - at ≡ section_size (drop at s)
      size_is = omega (arith, f.at, f.size)

      pub told_here : (o : List ℕ) → Told t (fields (atr_in (lines x.bytes.now))) o → Told t (fields (atr_in (lines (take (e - x.at) (drop x.at s))))) o
      told_here o a = rw (f.at, size_is, sym f.bytes) a

      sits_here : (o : List ℕ) → Sits s (get_or (sections s) n no_section) (record { table = t; from = x.at; to = e; order = o })
      unfolding section_from
      sits_here o =
          rw (here.is, f.at) (record { low = omega (arith, f.at); high = omega (arith, f.at, f.within); lines = rw size_is; table = is_table; known = table_known })

      module _ (z : get_or place t 0 ≡ 0) (o : List ℕ) where
        other_table : (i : ℕ) → i < n → (get_or seats i no_seat).table ≡ t → ⊥
        other_table i l y = let w : ◌≡◌ {A = ℕ} (suc i) 0 = sym (g.seated.placed i l) ∙ ap (λ (u : ℕ). get_or place u 0) y ∙ z in omega arith

        seats_old : (i : ℕ) → i < n → get_or (set seats n (record { table = t; from = x.at; to = e; order = o })) i no_seat ≡ get_or seats i no_seat
        seats_old i l = get_or-set_other seats n i (record { table = t; from = x.at; to = e; order = o }) no_seat (λ y. omega arith)

        seats_new : get_or (set seats n (record { table = t; from = x.at; to = e; order = o })) n no_seat ≡ record { table = t; from = x.at; to = e; order = o }
        seats_new = get_or-set_same seats n (record { table = t; from = x.at; to = e; order = o }) no_seat (omega (arith, seat_room z, g.long))

        place_new : get_or (set place t (n + 1)) t 0 ≡ suc n
        place_new = get_or-set_same place t (n + 1) 0 (omega (arith, table_known, g.wide)) ∙ add-one n

        more_sits : (i : ℕ) → i < n + 1 → Sits s (get_or (sections s) i no_section) (get_or (set seats n (record { table = t; from = x.at; to = e; order = o })) i no_seat)
        more_sits i l = by (eqb i n) refl
          where
            by : (b : Bool) → eqb i n ≡ b → Sits s (get_or (sections s) i no_section) (get_or (set seats n (record { table = t; from = x.at; to = e; order = o })) i no_seat)
            by true y = let w : i ≡ n = eqb-true i n y in rw (w, seats_new) (sits_here o)
            by false y = let w = eqb-false i n y in let k : i < n = omega arith in rw (seats_old i k) (g.seated.sits i k)

        more_placed : (i : ℕ) → i < n + 1 → get_or (set place t (n + 1)) (get_or (set seats n (record { table = t; from = x.at; to = e; order = o })) i no_seat).table 0 ≡ suc i
        more_placed i l = by (eqb i n) refl
          where
            by : (b : Bool) → eqb i n ≡ b → get_or (set place t (n + 1)) (get_or (set seats n (record { table = t; from = x.at; to = e; order = o })) i no_seat).table 0 ≡ suc i
            by true y = let w : i ≡ n = eqb-true i n y in rw (w, seats_new) place_new
            by false y =
                let w = eqb-false i n y in
                let k : i < n = omega arith in
                rw (seats_old i k) (get_or-set_other place t (get_or seats i no_seat).table (n + 1) 0 (other_table i k) ∙ g.seated.placed i k)

        more_taken : (u k : ℕ) → get_or (set place t (n + 1)) u 0 ≡ suc k → (k < n + 1) × ((get_or (set seats n (record { table = t; from = x.at; to = e; order = o })) k no_seat).table ≡ u)
        more_taken u k y = by (eqb u t) refl
          where
            by : (b : Bool) → eqb u t ≡ b → (k < n + 1) × ((get_or (set seats n (record { table = t; from = x.at; to = e; order = o })) k no_seat).table ≡ u)
            by true a =
                let w : u ≡ t = eqb-true u t a in
                let m : suc n ≡ suc k = sym place_new ∙ rw w at y in
                let i : k ≡ n = omega arith in
                (omega arith, rw (i, seats_new) (sym w))
            by false a =
                let w = eqb-false u t a in
                let m : get_or place u 0 ≡ suc k = sym (get_or-set_other place t u (n + 1) 0 w) ∙ y in
                let o = g.seated.taken u k m in
                (omega (arith, o.0), rw (seats_old k o.0) o.1)

        pub going_more : Going s (n + 1) r (set seats n (record { table = t; from = x.at; to = e; order = o })) (set place t (n + 1))
        going_more =
            let m : n + 1 ≡ suc n = omega arith in
            record {
              within = f.next.within;
              settled = f.next.settled;
              rest = f.next.same ∙ here.rest;
              passed = omega (arith, here.within);
              long = length-set seats n (record { table = t; from = x.at; to = e; order = o }) ∙ g.long;
              wide = length-set place t (n + 1) ∙ g.wide;
              many = rw m (filled_set place t n (omega (arith, table_known, g.wide)) z ∙ ap suc g.many);
              seated = record { sits = more_sits; placed = more_placed; taken = more_taken };
            }

  -- all have their seats
  pub going_end : (n at : ℕ) (seats : List Seat) (place : List ℕ) → Going s n at seats place → Stating s n seats → length s ≤ at
      → (first_again [] 1 (rows_of s) ≡ sound) × Ready s (record { count = n; seats = seats; place = place })
  going_end n at seats place g o h =
      let e : drop n (sections s) ≡ [] = sym g.rest ∙ sections_end s at h in
      let m : n ≡ length (sections s) = whole n (sections s) g.passed e in (
        again_none (row_of (latin_of s) no_section) (rows_of s) (rw (rows_long ∙ sym m) (fresh n seats place g.passed g.seated)),
        record { sound = v; count = m; few = omega (arith, filled_le place, g.many, g.wide); seated = g.seated; stating = o },
      )
    where
      whole : (n : ℕ) (xs : List Section) → n ≤ length xs → drop n xs ≡ [] → n ≡ length xs
      whole zero [] l e = refl
      whole zero (x ∷ xs) l e = absurd (let z : ◌≡◌ {A = ℕ} 0 1 = cc in omega arith)
      whole (suc n) [] l e = absurd (omega arith)
      whole (suc n) (x ∷ xs) l e = ap suc (whole n xs (omega arith) e)
