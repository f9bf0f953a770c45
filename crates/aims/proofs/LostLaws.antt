-- 20: a reference finds its record in the one section of its target, among that section's lines. Assumes nothing.
use mathlib.Core.Path.{◌≡◌, refl, ap, sym, ◌∙◌}
use mathlib.Core.Bool.{Bool, true, false, not}
use mathlib.Core.List.{List, [], map}
use mathlib.Core.Logic.{◌⊎◌, ⊎_elim}
use Prim.Native.Nat.{ℕ, zero, suc, ◌+◌, ◌-◌, ◌<◌}
use native.Mathlib.Omega.{arith}
use borrow.Author.Tests.{eq-eqb, ne_eqb}
use lib.Dec.{eqb}
use lib.ListN.{length, get_or}
use Rattle.page.specs.Bytes.{Bytes, bytes, pick}
use Rattle.page.specs.Lines.{content, rest}
use Rattle.page.specs.Fields.{fields}
use Rattle.page.specs.Tables.{TABLES, Reference, table_at, columns, width, table_named}
use Rattle.page.specs.Order.{Order, arranged, by_column, column_in}
use Rattle.page.specs.Cut.{Section, sections}
use Rattle.page.specs.Head.{latin_of}
use Rattle.page.specs.Records.{record_in, values_of, entries, table_index, order_in}
use Rattle.page.specs.Answers.{refusal, sound}
use Rattle.page.specs.File.{any, Filed, filed_in, filed, filed_of, key_of, by_primary, meets, lost, first_record}
use Rattle.page.proofs.CutLaws.{no_section}
use Rattle.page.proofs.FileLaws.{first_section, by_section, meets_nowhere, meets_in}
use Rattle.choices.specs.declared.Choice.{Choice}
use Rattle.tables.specs.Keys.{no_reference, reference_at, target_at}
use Rattle.choices.specs.Choices.{key_choice}
use Rattle.keys.specs.Numbers.{key_numbers, refer_numbers}
use Rattle.keys.proofs.GatherLaws.{gathered_key, gathered_reference}
use Rattle.keys.proofs.SameLaws.{Fitting, reference_same}
use Rattle.keys.proofs.SoundLaws.{Sound}
use Rattle.seats.specs.declared.seating.Seat.{Seat}
use Rattle.seats.specs.declared.seating.Seats.{Seats}
use Rattle.scans.specs.Scan.{is_record, line_key, bears, first_line, refused_at}
use Rattle.seats.specs.Seating.{no_seat, seat_at, seat_lines, seat_order, Sits, Ready}
use Rattle.seats.specs.Faults.{reaches, misses, loses, loses_any, lost_line}
use Rattle.scans.proofs.ScanLaws.{any_some}
use Rattle.seats.proofs.WalkLaws.{sound_here}
use Rattle.seats.proofs.FiledLaws.{filing, entry_of, Fit, filed_is, fit_is, any_lines, first_lines, faults_none, faults_at}
use Rattle.seats.proofs.RepeatLaws.{seat_sits, tables_apart}

-- reference k of a record e of table t, whose values fit; u is its target
module _ (e : Filed) (t k : ℕ) (fits : Fitting (columns t) e.values) where
  abbrev u : ℕ
  u = table_named (bytes (reference_at t k).target)

  abbrev key : List ℕ
  key = refer_numbers (reference_at t k).columns e.values

  module _ (o : Order) (y : arranged (width u) o ≡ true) where
    line_is : (l : Bytes) (m : ℕ) → line_key (key_choice by_primary u o) l ≡ key_numbers by_primary u (record_in u o m (content l))
    unfolding line_key record_in
    line_is l m = gathered_key false u o y (column_in o m) (fields (rest (content l)))

    meets_line : (j n m : ℕ) (l : Bytes) → is_record l ≡ true → Fitting (columns u) (record_in u o m (content l))
        → meets e (reference_at t k) (filing j u (entry_of u o n m l)) ≡ bears (key_choice by_primary u o) key l
    unfolding meets key_of bears
    meets_line j n m l r f = rw (eq-eqb u u refl, r, line_is l m) (sym (reference_same t k e.values (record_in u o m (content l)) fits f))

    no_line : (l : Bytes) → is_record l ≡ false → bears (key_choice by_primary u o) key l ≡ false
    unfolding bears
    no_line l r = rw r

  abbrev met_in : List Bytes → Bool
  met_in ls = any (bears (key_choice by_primary u (order_in ls)) key) ls

  meets_section : (latin : Bool) (j : ℕ) (x : Section) → Sound latin x.lines → table_index x.lines ≡ u → any (meets e (reference_at t k)) (filed_in latin j x) ≡ met_in x.lines
  meets_section latin j x z q =
      let o = order_in x.lines in
      let y : arranged (width u) o ≡ true = rw q at z.ordered in
      rw (filed_is latin j x z, q)
      (any_lines j u o (meets e (reference_at t k)) (bears (key_choice by_primary u o) key) (λ l n m r f. meets_line o y j n m l r f) (no_line o y) x.lines 0 0 (rw q at (fit_is latin j x z)))

  module _ (s : Bytes) (r : Seats) (z : Ready s r) where
    -- no section of the target, or one
    found_at : (p : ℕ) → get_or r.place u 0 ≡ p
        → any (meets e (reference_at t k)) (filed_of s)
        ≡ pick (eqb p 0) false (met_in (seat_lines s (seat_at r (p - 1))))
    unfolding filed_of seat_at
    found_at zero y =
        meets_nowhere (latin_of s) e (reference_at t k) 1 (sections s) (λ j h w.
        let c : j < r.count = omega (arith, z.count) in
        let a : (get_or r.seats j no_seat).table ≡ u = (z.seated.sits j c).table ∙ w in
        let b : ◌≡◌ {A = ℕ} (suc j) 0 = sym (z.seated.placed j c) ∙ ap (λ (i : ℕ). get_or r.place i 0) a ∙ y in
        omega arith)
    found_at (suc p) y =
        let w = z.seated.taken u p y in
        let h : p < length (sections s) = omega (arith, w.0, z.count) in
        let x = get_or (sections s) p no_section in
        let a = z.seated.sits p w.0 in
        let q : table_index x.lines ≡ u = sym a.table ∙ w.1 in
        let n : suc p - 1 ≡ p = omega arith in
        meets_in (latin_of s) e (reference_at t k) 1 (sections s) p h (tables_apart s r z) q
        ∙ meets_section (latin_of s) (1 + p) x (sound_here s z.sound p h) q
        ∙ rw (ne_eqb (suc p) 0 (λ v. omega arith), n) (ap met_in a.lines)

    reach_is : (m : ℕ) (o : Order) → arranged (width t) o ≡ true → (fs : List Bytes) → e.values ≡ values_of m 1 (columns t) (by_column o fs)
        → any (meets e (reference_at t k)) (filed_of s) ≡ reaches s r t o fs k
    unfolding reaches target_at seat_order
    reach_is m o y fs q =
        let v : refer_numbers (reference_at t k).columns e.values ≡ refer_numbers (reference_at t k).columns (values_of 0 1 (columns t) (by_column o fs)) =
        ap (refer_numbers (reference_at t k).columns) q ∙ sym (gathered_reference t k o y m fs) ∙ gathered_reference t k o y 0 fs in
        let ls = seat_lines s (seat_at r (get_or r.place u 0 - 1)) in
        found_at (get_or r.place u 0) refl
        ∙ ap (λ (x : List ℕ). pick (eqb (get_or r.place u 0) 0) false (any (bears (key_choice by_primary u (order_in ls)) x) ls)) v

module _ (s : Bytes) (r : Seats) (z : Ready s r) where
  reference_is : (t j : ℕ) → get_or (table_at t).references j no_reference ≡ reference_at t j
  unfolding reference_at
  reference_is t j = refl

  module _ (t : ℕ) (o : Order) (y : arranged (width t) o ≡ true) where
    lost_is : (i n m : ℕ) (l : Bytes) → is_record l ≡ true → Fitting (columns t) (record_in t o m (content l)) → lost (filed_of s) (filing i t (entry_of t o n m l)) ≡ loses s r t o l
    unfolding lost loses misses record_in
    lost_is i n m l q f =
        rw q
        (any_some (λ (ref : Reference). not (any (meets (filing i t (entry_of t o n m l)) ref) (filed_of s))) no_reference (misses s r t o (fields (rest (content l)))) (table_at t).references 0
        (λ j h.
        let x : 0 + j ≡ j = omega arith in
        rw (reference_is t j, x) (ap not (reach_is (filing i t (entry_of t o n m l)) t j f s r z (column_in o m) o y (fields (rest (content l))) refl))))

    loses_not : (l : Bytes) → is_record l ≡ false → loses s r t o l ≡ false
    unfolding loses
    loses_not l q = rw q

    section_lost : (v j : ℕ) (ls : List Bytes) → Fit t o 0 0 ls
        → first_record v (λ before. lost (filed_of s)) [] (map (filing j t) (entries t o 0 0 ls)) ≡ refused_at v j (first_line (loses_any s r t o) [] 0 ls)
    section_lost v j ls f =
        first_lines v j t o (λ before. lost (filed_of s)) (loses_any s r t o) (λ b before. Unit {0})
        (λ b before l n m a q g. (lost_is j n m l q g, tt)) (λ b before l a q. (loses_not l q, tt)) ls 0 0 [] [] tt f

  seat_lost : (v j : ℕ) (x : Section) (a : Seat) → Sits s x a → Sound (latin_of s) x.lines
      → first_record v (λ before. lost (filed_of s)) [] (filed_in (latin_of s) j x) ≡ refused_at v j (lost_line s r a)
  unfolding lost_line seat_order
  seat_lost v j x a here y =
      let t = table_index x.lines in
      rw (filed_is (latin_of s) j x y, here.table)
      (section_lost t (order_in x.lines) y.ordered v j x.lines (fit_is (latin_of s) j x y)
      ∙ ap (λ (ls : List Bytes). refused_at v j (first_line (loses_any s r t (order_in ls)) [] 0 ls)) here.lines)

  of_section : (m : ℕ) → m < length (sections s)
      → first_record 20 (λ before. lost (filed_of s)) [] (filed_in (latin_of s) (1 + m) (get_or (sections s) m no_section)) ≡ refused_at 20 (1 + m) (lost_line s r (seat_at r m))
  of_section m h = seat_lost 20 (1 + m) (get_or (sections s) m no_section) (seat_at r m) (seat_sits s r z m (omega (arith, z.count))) (sound_here s z.sound m h)

  by_sections : first_record 20 (λ before. lost (filed_of s)) [] (filed_of s)
      ≡ first_section (λ j x. first_record 20 (λ before. lost (filed_of s)) [] (filed_in (latin_of s) j x)) 1 (sections s)
  unfolding filed_of
  by_sections = by_section 20 (lost (filed (latin_of s) 1 (sections s))) (λ e. omega arith) (latin_of s) 1 (sections s) []

  pub lost_none : ((m : ℕ) → m < r.count → lost_line s r (seat_at r m) ≡ 0) → first_record 20 (λ before. lost (filed_of s)) [] (filed_of s) ≡ sound
  lost_none p =
      by_sections
      ∙ faults_none (λ j x. first_record 20 (λ before. lost (filed_of s)) [] (filed_in (latin_of s) j x)) (sections s) 20 (λ m. lost_line s r (seat_at r m)) of_section
      (λ m h. p m (omega (arith, z.count)))

  pub lost_at : (i n : ℕ) → i < r.count → ((m : ℕ) → m < i → lost_line s r (seat_at r m) ≡ 0) → lost_line s r (seat_at r i) ≡ n + 1
      → first_record 20 (λ before. lost (filed_of s)) [] (filed_of s) ≡ refusal 20 (i + 1) (n + 1)
  lost_at i n h p e =
      by_sections
      ∙ faults_at (λ j x. first_record 20 (λ before. lost (filed_of s)) [] (filed_in (latin_of s) j x)) (sections s) 20 (λ m. lost_line s r (seat_at r m)) of_section
      i n (λ y. omega arith) (omega (arith, z.count)) p e

  -- where a target stands
  module _ (u p : ℕ) (q : p ≡ get_or r.place u 0) (n : p ≡ 0 → ⊥) where
    pub place_few : p - 1 < r.count
    place_few = by p q n
      where
        by : (p : ℕ) → p ≡ get_or r.place u 0 → (p ≡ 0 → ⊥) → p - 1 < r.count
        by zero q n = absurd (n refl)
        by (suc k) q n = let w = z.seated.taken u k (sym q) in let o : suc k - 1 ≡ k = omega arith in rw o w.0

    pub place_table : (seat_at r (p - 1)).table ≡ u
    unfolding seat_at
    place_table = by p q n
      where
        by : (p : ℕ) → p ≡ get_or r.place u 0 → (p ≡ 0 → ⊥) → (get_or r.seats (p - 1) no_seat).table ≡ u
        by zero q n = absurd (n refl)
        by (suc k) q n = let w = z.seated.taken u k (sym q) in let o : suc k - 1 ≡ k = omega arith in rw o w.1

  -- a table's place is none, or one of the seats
  pub place_none : (u p : ℕ) → p ≡ get_or r.place u 0 → (p ≡ 0) ⊎ (TABLES < p) → p ≡ 0
  place_none u p q e = ⊎_elim (λ a. a) (λ b. absurd (let n : p ≡ 0 → ⊥ = λ c. omega arith in omega (arith, place_few u p q n, z.few))) e

  module _ (t : ℕ) (o : Order) (k : ℕ) (fs : List Bytes) (u : ℕ) (x : u ≡ target_at t k) (p : ℕ) (q : p ≡ get_or r.place u 0) where
    pub reaches_none : p ≡ 0 → reaches s r t o fs k ≡ false
    unfolding reaches
    reaches_none e = rw (sym x, sym q, e)

    pub reaches_some : (p ≡ 0 → ⊥) → (a : Seat) → a ≡ seat_at r (p - 1) → (c : Choice) → c ≡ key_choice by_primary u (seat_order s (seat_at r (p - 1)))
        → (key : List ℕ) → key ≡ refer_numbers (reference_at t k).columns (values_of 0 1 (columns t) (by_column o fs))
        → reaches s r t o fs k ≡ any (bears c key) (seat_lines s a)
    unfolding reaches
    reaches_some n a e c f key g = rw (sym x, sym q, ne_eqb p 0 n, e, f, g)
