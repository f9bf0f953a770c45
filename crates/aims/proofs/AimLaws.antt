-- Where the references of a table go, and what is reached there. Assumes nothing.
use mathlib.Core.Path.{◌≡◌, refl, ap, sym, ◌∙◌}
use mathlib.Core.Bool.{Bool, true, false, not}
use mathlib.Core.List.{List, [], ◌∷◌, ◌++◌}
use mathlib.Core.Logic.{◌⊎◌}
use Prim.Native.Nat.{ℕ, zero, suc, ◌+◌, ◌-◌, ◌<◌, ◌≤◌}
use native.Mathlib.Omega.{arith}
use borrow.Author.Count.{below_more}
use borrow.Author.Tests.{eq-eqb, ne_eqb, eqb-true, eqb-false}
use lib.Dec.{eqb}
use lib.ListN.{length, get_or, take, drop}
use Rattle.page.specs.Bytes.{Bytes, pick}
use Rattle.page.specs.Lines.{lines, content, command, rest, Rec}
use Rattle.page.specs.Fields.{fields}
use Rattle.page.specs.Tables.{MOST, TABLES, table_at, width}
use Rattle.page.specs.Order.{Order, arranged}
use Rattle.page.specs.File.{any, by_primary, lost, first_record, filed_of}
use Rattle.std.specs.Prelude.{Result, Ok, Err}
use Rattle.page.specs.Answers.{answered}
use Rattle.page.specs.declared.Refusal.{Refusal}
use Rattle.page.proofs.TableLaws.{references_le}
use Rattle.choices.specs.declared.Choice.{Choice}
use Rattle.arrangement.specs.Orders.{held}
use Rattle.tables.specs.Keys.{target_at}
use Rattle.choices.specs.Choices.{key_choice, refer_choice}
use Rattle.keys.specs.Numbers.{gathered}
use Rattle.keys.proofs.GatherLaws.{gathered_reference}
use Rattle.aims.specs.declared.Aim.{Aim}
use Rattle.aims.specs.declared.Aims.{Aims}
use Rattle.seats.specs.declared.seating.Seat.{Seat}
use Rattle.seats.specs.declared.seating.Seats.{Seats}
use Rattle.scans.specs.Scan.{is_record, first_line, some}
use Rattle.seats.specs.Seating.{seat_at, seat_order, Ready, Ordered}
use Rattle.seats.specs.Faults.{misses, loses, loses_any, lost_line, Looked}
use Rattle.aims.specs.Aims.{aim_at, reached, lacks, lacks_some, lacks_any, Aimed, Aiming}
use Rattle.aims.proofs.LostLaws.{place_few, place_table, place_none, reaches_none, reaches_some, lost_none, lost_at}
use Rattle.seats.proofs.RepeatLaws.{seat_bounds, seat_ordered}

pub few_references : (t n : ℕ) → n ≡ length (table_at t).references → n ≤ MOST
few_references t n e = let l = references_le t in omega arith

-- where the section of a table stands, and in which order its columns
module _ (s : Bytes) (seats : Seats) (z : Ready s seats) (u : ℕ) (n : 0 < get_or seats.place u 0) (a : Seat) (e : a ≡ seat_at seats (get_or seats.place u 0 - 1)) where
  some_place : get_or seats.place u 0 ≡ 0 → ⊥
  some_place q = omega arith

  pub target_bounds : (a.from ≤ a.to) × (a.to ≤ length s)
  target_bounds = seat_bounds s seats z (get_or seats.place u 0 - 1) (place_few s seats z u (get_or seats.place u 0) refl some_place) a e

  pub target_ordered : Ordered s a a.order
  target_ordered = seat_ordered s seats z (get_or seats.place u 0 - 1) (place_few s seats z u (get_or seats.place u 0) refl some_place) a e

  target_order : held u a.order ≡ seat_order s (seat_at seats (get_or seats.place u 0 - 1))
  target_order =
      let m : a.table ≡ u = ap (λ (c : Seat). c.table) e ∙ place_table s seats z u (get_or seats.place u 0) refl some_place in
      ap (λ (c : ℕ). held c a.order) (sym m) ∙ target_ordered.is ∙ ap (seat_order s) e

module _ (s : Bytes) (seats : Seats) (z : Ready s seats) (t : ℕ) (o : Order) (y : arranged (width t) o ≡ true)
    (r : ℕ) (g : Choice) (w : g ≡ refer_choice t r o) (u : ℕ) (x : u ≡ target_at t r) where
  -- a target without a section
  pub aimed_none : (a : Aim) → (get_or seats.place u 0 ≡ 0) ⊎ (TABLES < get_or seats.place u 0) → a.part.now ≡ [] → Aimed s seats t o r a
  unfolding reached lines any
  aimed_none a e b =
      record { is = λ fs. rw b (reaches_none s seats z t o r fs u x (get_or seats.place u 0) refl (place_none s seats z u (get_or seats.place u 0) refl e)) }

  pub aimed_some : (n : 0 < get_or seats.place u 0) (a : Seat) (e : a ≡ seat_at seats (get_or seats.place u 0 - 1)) (b : Aim) → b.refer ≡ g
      → b.part.now ≡ take (a.to - a.from) (drop a.from s) → b.key ≡ key_choice by_primary u (held u a.order) → Aimed s seats t o r b
  unfolding reached
  aimed_some n a e b i j k =
      let d = target_order s seats z u n a e in
      record {
        is = λ fs.
            rw (i, j)
            (reaches_some s seats z t o r fs u x (get_or seats.place u 0) refl (some_place s seats z u n a e) a e b.key (k ∙ ap (key_choice by_primary u) d) (gathered g fs)
            (ap (λ (c : Choice). gathered c fs) w ∙ gathered_reference t r o y 0 fs));
      }

pub aiming_three : (s : Bytes) (seats : Seats) (t : ℕ) (o : Order) (aims : Aims) → Aimed s seats t o 0 (aim_at aims 0) → Aimed s seats t o 1 (aim_at aims 1) → Aimed s seats t o 2 (aim_at aims 2) → Aiming s seats t o aims
aiming_three s seats t o aims a b c = record { each = by }
  where
    by : (r : ℕ) → r < MOST → Aimed s seats t o r (aim_at aims r)
    by zero h = a
    by (suc zero) h = b
    by (suc (suc zero)) h = c
    by (suc (suc (suc r))) h = absurd (omega arith)

some_same : (p q : ℕ → Bool) (i n : ℕ) → ((k : ℕ) → k < i + n → p k ≡ q k) → some p i n ≡ some q i n
unfolding some
some_same p q i zero h = refl
some_same p q i (suc n) h = rw (h i (omega arith), some_same p q (suc i) n (λ k l. h k (omega arith)))

-- a line that lacks a record by its aims loses it
pub loses_is : {s : Bytes} {seats : Seats} {t : ℕ} {o : Order} {aims : Aims} → Aiming s seats t o aims → (l : Bytes) → loses s seats t o l ≡ lacks_some aims t l
unfolding loses lacks_some misses lacks
loses_is {s} {seats} {t} {o} {aims} z l =
    let n = length (table_at t).references in
    let fs = fields (rest (content l)) in
    let few : n ≤ MOST = few_references t n refl in
    ap (λ (b : Bool). pick (is_record l) b false) (some_same (misses s seats t o fs) (lacks aims fs) 0 n (λ k h. ap not ((z.each k (omega arith)).is fs)))

line_same : (f g : List Bytes → Bytes → Bool) → ((b : List Bytes) (l : Bytes) → f b l ≡ g b l) → (b : List Bytes) (n : ℕ) (ls : List Bytes) → first_line f b n ls ≡ first_line g b n ls
unfolding first_line
line_same f g h b n [] = refl
line_same f g h b n (l ∷ ls) = rw (h b l, line_same f g h (b ++ l ∷ []) (suc n) ls)

-- the first line of a seat that lacks a record is the first that loses one
pub lost_by : (s : Bytes) (seats : Seats) (i : ℕ) (a : Seat) → a ≡ seat_at seats i → Ordered s a a.order → (aims : Aims) → Aiming s seats a.table (held a.table a.order) aims
    → (n : ℕ) → first_line (lacks_any aims a.table) [] 0 (lines (take (a.to - a.from) (drop a.from s))) ≡ n → lost_line s seats (seat_at seats i) ≡ n
unfolding lost_line
lost_by s seats i a e y aims z n q =
    rw (sym e, sym y.is) (line_same (loses_any s seats a.table (held a.table a.order)) (lacks_any aims a.table) (λ b l. loses_is z l) [] 0 (lines (take (a.to - a.from) (drop a.from s))) ∙ q)

-- a table without references loses nothing
neither : (b : Bool) → pick b false false ≡ false
neither true = refl
neither false = refl

never : (b : List Bytes) (n : ℕ) (ls : List Bytes) → first_line (λ before l. false) b n ls ≡ 0
unfolding first_line
never b n [] = refl
never b n (l ∷ ls) = never (b ++ l ∷ []) (suc n) ls

loses_none : (s : Bytes) (seats : Seats) (t : ℕ) (o : Order) (l : Bytes) → length (table_at t).references ≡ 0 → loses s seats t o l ≡ false
unfolding loses some
loses_none s seats t o l z = rw z (neither (is_record l))

pub lost_nothing : (s : Bytes) (seats : Seats) (i : ℕ) (a : Seat) → a ≡ seat_at seats i → (n : ℕ) → n ≡ length (table_at a.table).references → n ≡ 0
    → lost_line s seats (seat_at seats i) ≡ 0
unfolding lost_line
lost_nothing s seats i a e n x z =
    rw (sym e)
    (line_same (loses_any s seats a.table (seat_order s a)) (λ before l. false) (λ b l. loses_none s seats a.table (seat_order s a) l (sym x ∙ z)) [] 0 (lines (take (a.to - a.from) (drop a.from s)))
    ∙ never [] 0 (lines (take (a.to - a.from) (drop a.from s))))

module _ (aims : Aims) (t : ℕ) where
  pub lacks_is : (fs : List Bytes) (k : ℕ) (a : Aim) → a ≡ aim_at aims k → (key : List ℕ) → key ≡ gathered a.refer fs
      → (x b : Bool) → x ≡ reached (aim_at aims k) key → not x ≡ b → lacks aims fs k ≡ b
  unfolding lacks
  lacks_is fs k a y key e x b q f = rw (sym y) (rw (sym e) (ap not (ap (λ (c : Aim). reached c key) y ∙ sym q) ∙ f))

  module _ (l c : Bytes) (k : ℕ) (a : c ≡ content l) (b : k ≡ command c) where
    pub lacks_other : (k ≡ 11 → ⊥) → lacks_some aims t l ≡ false
    unfolding lacks_some
    lacks_other n = rw (sym a, sym b, ne_eqb k Rec n)

    pub lacks_record : k ≡ 11 → (f : Bytes) → f ≡ rest c → (n : ℕ) → n ≡ length (table_at t).references → lacks_some aims t l ≡ some (lacks aims (fields f)) 0 n
    unfolding lacks_some
    lacks_record e f x n y = rw (x, y, a, ap command (sym a) ∙ sym b, eq-eqb k Rec e)

-- section after section
module _ (s : Bytes) (seats : Seats) (z : Ready s seats) where
  -- the sections before section i lose nothing
  module _ (i : ℕ) (y : (m : ℕ) → m < i → lost_line s seats (seat_at seats m) ≡ 0) where
    pub looked_next : lost_line s seats (seat_at seats i) ≡ 0 → Looked s seats (i + 1) (Ok (tt {0}))
    looked_next f = below_more _ _ y f

    pub looked_here : i < seats.count → (l : ℕ) → (0 < l) × (lost_line s seats (seat_at seats i) ≡ l)
        → (n : ℕ) → Looked s seats n (Err (record { number = 20; section = i + 1; line = l }))
    looked_here h l q n =
        let p : (l - 1) + 1 ≡ l = omega (arith, q.0) in
        (sym (rw p at (lost_at s seats z i (l - 1) h y (q.1 ∙ sym p))), refl)

  pub looked_all : (r : Result (Unit {0}) Refusal) → Looked s seats seats.count r → r ≡ answered (first_record 20 (λ before. lost (filed_of s)) [] (filed_of s)) (tt {0})
  unfolding answered
  looked_all (Ok x) y = rw (lost_none s seats z y)
  looked_all (Err e) y = rw (sym y.0, y.1)
