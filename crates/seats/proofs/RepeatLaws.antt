-- 18, 19: the first record whose key was met before is the first such line of a section. Assumes nothing.
use mathlib.Core.Path.{◌≡◌, refl, ap, sym, ◌∙◌}
use mathlib.Core.Bool.{Bool, true, false, not, ◌&&◌, ◌||◌}
use mathlib.Core.List.{List, [], ◌∷◌, ◌++◌, map}
use Prim.Native.Nat.{ℕ, zero, suc, ◌+◌, ◌-◌, ◌<◌, ◌≤◌}
use native.Mathlib.Omega.{arith}
use borrow.Author.Tests.{eq-eqb}
use lib.Dec.{eqb}
use lib.ListN.{length, get_or, take, drop}
use Rattle.page.specs.Bytes.{Bytes, pick}
use Rattle.page.specs.Lines.{lines, content, rest}
use Rattle.page.specs.Fields.{fields}
use Rattle.page.specs.Tables.{columns, width}
use Rattle.page.specs.Order.{Order, arranged, column_in}
use Rattle.page.specs.Cut.{Section, sections}
use Rattle.page.specs.Head.{latin_of}
use Rattle.page.specs.Records.{Record, record_in, entries, table_index, order_in}
use Rattle.page.specs.Answers.{refusal, sound}
use Rattle.page.specs.Rules.{Apart}
use Rattle.page.specs.File.{any, Filed, filed_in, filed_of, same_record, key_in, key_of, has_key, repeats, first_record}
use Rattle.page.specs.declared.Column.{Column}
use Rattle.page.proofs.CutLaws.{no_section}
use Rattle.page.proofs.KeyLaws.{any_append, faulty, record_none}
use Rattle.page.proofs.FileLaws.{repeats_by_section}
use Rattle.choices.specs.declared.Choice.{Choice}
use Rattle.arrangement.specs.Orders.{held}
use Rattle.tables.specs.Keys.{by_key}
use Rattle.choices.specs.Choices.{key_choice}
use Rattle.names.proofs.ToldLaws.{told_order}
use Rattle.keys.specs.Numbers.{key_numbers}
use Rattle.choices.proofs.ChoiceLaws.{has_choice}
use Rattle.tables.proofs.ReferenceLaws.{Small, small_primary, small_second}
use Rattle.keys.proofs.GatherLaws.{gathered_key}
use Rattle.keys.proofs.SameLaws.{Fitting, key_same}
use Rattle.keys.proofs.SoundLaws.{Sound}
use Rattle.seats.specs.declared.seating.Seat.{Seat}
use Rattle.seats.specs.declared.seating.Seats.{Seats}
use Rattle.scans.specs.Scan.{is_record, line_key, bears, again, first_line, refused_at}
use Rattle.seats.specs.Seating.{seat_at, seat_lines, seat_order, Sits, Ready, Ordered}
use Rattle.seats.specs.Faults.{repeat_number, seat_key, scan_end, repeat_line}
use Rattle.seats.proofs.WalkLaws.{sound_here}
use Rattle.seats.proofs.SeatLaws.{seats_apart}
use Rattle.seats.proofs.FiledLaws.{filing, entry_of, Fit, filed_is, fit_is, first_lines, faults_none, faults_at}
use Rattle.page.proofs.TestLaws.{or_false}

or_turn : (a b : Bool) → (a || b) ≡ (b || (a || false))
or_turn true true = refl
or_turn true false = refl
or_turn false true = refl
or_turn false false = refl

-- the keys of the records passed are those of the lines passed
record Behind (p : Column → Bool) (t : ℕ) (o : Order) (b : List Filed) (before : List Bytes) : Type 0 where
  is : (us : Record) → Fitting (columns t) us
      → any (λ (d : Filed). eqb d.table t && same_record (key_of p d) (key_in p (columns t) us)) b ≡ any (bears (key_choice p t o) (key_numbers p t us)) before

small_key : (second : Bool) → Small (by_key second)
small_key true = small_second
small_key false = small_primary

module _ (second : Bool) (i t : ℕ) (o : Order) (ordered : arranged (width t) o ≡ true) where
  abbrev p : Column → Bool
  p = by_key second

  line_is : (l : Bytes) (m : ℕ) → line_key (key_choice p t o) l ≡ key_numbers p t (record_in t o m (content l))
  unfolding line_key record_in
  line_is l m = gathered_key second t o ordered (column_in o m) (fields (rest (content l)))

  one_line : (l : Bytes) (m : ℕ) (us : Record) → is_record l ≡ true → Fitting (columns t) (record_in t o m (content l)) → Fitting (columns t) us
      → bears (key_choice p t o) (key_numbers p t us) l ≡ same_record (key_in p (columns t) (record_in t o m (content l))) (key_in p (columns t) us)
  unfolding bears
  one_line l m us r f g = rw (r, line_is l m) (key_same (small_key second) t (record_in t o m (content l)) us f g)

  no_line : (l : Bytes) (k : List ℕ) → is_record l ≡ false → bears (key_choice p t o) k l ≡ false
  unfolding bears
  no_line l k r = rw r

  behind_more : (b : List Filed) (before : List Bytes) (l : Bytes) (n m : ℕ) → Behind p t o b before → is_record l ≡ true → Fitting (columns t) (record_in t o m (content l))
      → Behind p t o (filing i t (entry_of t o n m l) ∷ b) (before ++ l ∷ [])
  unfolding any key_of
  behind_more b before l n m a r f =
      record {
        is = λ us g.
            rw (any_append (bears (key_choice p t o) (key_numbers p t us)) before (l ∷ []), eq-eqb t t refl, a.is us g, one_line l m us r f g)
            (or_turn (same_record (key_in p (columns t) (record_in t o m (content l))) (key_in p (columns t) us)) (any (bears (key_choice p t o) (key_numbers p t us)) before));
      }

  behind_other : (b : List Filed) (before : List Bytes) (l : Bytes) → Behind p t o b before → is_record l ≡ false → Behind p t o b (before ++ l ∷ [])
  unfolding any
  behind_other b before l a r =
      record {
        is = λ us g.
            rw (any_append (bears (key_choice p t o) (key_numbers p t us)) before (l ∷ []), no_line l (key_numbers p t us) r, a.is us g)
            (sym (or_false (any (bears (key_choice p t o) (key_numbers p t us)) before)));
      }

  module _ (k : has_key p t ≡ true) where
    repeats_is : (b : List Filed) (before : List Bytes) (l : Bytes) (n m : ℕ) → Behind p t o b before → is_record l ≡ true → Fitting (columns t) (record_in t o m (content l))
        → repeats p b (filing i t (entry_of t o n m l)) ≡ again (key_choice p t o) before l
    unfolding repeats again key_of
    repeats_is b before l n m a r f = rw (k, r, line_is l m) (a.is (record_in t o m (content l)) f)

    again_not : (before : List Bytes) (l : Bytes) → is_record l ≡ false → again (key_choice p t o) before l ≡ false
    unfolding again
    again_not before l r = rw r

    section_repeat : (v : ℕ) (ls : List Bytes) → Fit t o 0 0 ls
        → first_record v (repeats p) [] (map (filing i t) (entries t o 0 0 ls)) ≡ refused_at v i (first_line (again (key_choice p t o)) [] 0 ls)
    unfolding any
    section_repeat v ls f =
        first_lines v i t o (repeats p) (again (key_choice p t o)) (Behind p t o)
        (λ b before l n m a r g. (repeats_is b before l n m a r g, behind_more b before l n m a r g))
        (λ b before l a r. (again_not before l r, behind_other b before l a r)) ls 0 0 [] [] (record { is = λ us g. refl }) f

  -- a table without the key
  no_repeat : (v : ℕ) (es : List Filed) → has_key p t ≡ false → ((m : ℕ) → m < length es → (get_or es m (record { section = 0; table = 0; line = 0; values = [] })).table ≡ t)
      → first_record v (repeats p) [] es ≡ sound
  unfolding faulty repeats
  no_repeat v es k h = record_none v (repeats p) [] es (λ m l. rw (h m l, k))

all_of : (i t : ℕ) (o : Order) (ls : List Bytes) (m n k : ℕ) → k < length (map (filing i t) (entries t o m n ls)) → (get_or (map (filing i t) (entries t o m n ls)) k (record { section = 0; table = 0; line = 0; values = [] })).table ≡ t
all_of i t o ls m n k h = go (entries t o m n ls) k h
  where
    go : (es : List _) (k : ℕ) → k < length (map (filing i t) es) → (get_or (map (filing i t) es) k (record { section = 0; table = 0; line = 0; values = [] })).table ≡ t
    go [] k h = absurd (omega arith)
    go (e ∷ es) zero h = refl
    go (e ∷ es) (suc k) h = go es k (omega arith)

pub number_some : (second : Bool) → repeat_number second ≡ 0 → ⊥
unfolding repeat_number
number_some true e = omega arith
number_some false e = omega arith

module _ (second : Bool) (s : Bytes) (latin : Bool) (j : ℕ) (x : Section) (a : Seat) (here : Sits s x a) (z : Sound latin x.lines) where
  abbrev t : ℕ
  t = table_index x.lines

  abbrev o : Order
  o = order_in x.lines

  without : eqb (key_choice (by_key second) t o).kinds 0 ≡ true
      → first_record (repeat_number second) (repeats (by_key second)) [] (map (filing j t) (entries t o 0 0 x.lines))
      ≡ refused_at (repeat_number second) j (repeat_line s a (key_choice (by_key second) t o))
  unfolding repeat_line scan_end first_line lines refused_at
  without e =
      let n : a.from - a.from ≡ 0 = omega arith in
      no_repeat second j t o z.ordered (repeat_number second) (map (filing j t) (entries t o 0 0 x.lines))
      (has_choice (by_key second) t o z.ordered ∙ ap not e) (all_of j t o x.lines 0 0)
      ∙ rw (e, n)

  with_key : eqb (key_choice (by_key second) t o).kinds 0 ≡ false
      → first_record (repeat_number second) (repeats (by_key second)) [] (map (filing j t) (entries t o 0 0 x.lines))
      ≡ refused_at (repeat_number second) j (repeat_line s a (key_choice (by_key second) t o))
  unfolding repeat_line scan_end
  with_key e =
      section_repeat second j t o z.ordered (has_choice (by_key second) t o z.ordered ∙ ap not e) (repeat_number second) x.lines (fit_is latin j x z)
      ∙ rw e (ap (λ (ls : List Bytes). refused_at (repeat_number second) j (first_line (again (key_choice (by_key second) t o)) [] 0 ls)) here.lines)

  seat_repeat : first_record (repeat_number second) (repeats (by_key second)) [] (filed_in latin j x)
      ≡ refused_at (repeat_number second) j (repeat_line s a (seat_key s second a))
  unfolding repeat_line scan_end seat_order seat_key
  seat_repeat = rw (filed_is latin j x z, here.table, sym here.lines) (by (eqb (key_choice (by_key second) t o).kinds 0) refl)
    where
      by : (b : Bool) → eqb (key_choice (by_key second) t o).kinds 0 ≡ b
          → first_record (repeat_number second) (repeats (by_key second)) [] (map (filing j t) (entries t o 0 0 x.lines))
          ≡ refused_at (repeat_number second) j (repeat_line s a (key_choice (by_key second) t o))
      by true e = without e
      by false e = with_key e

module _ (s : Bytes) (r : Seats) (z : Ready s r) where
  abbrev xs : List Section
  xs = sections s

  pub seat_sits : (i : ℕ) → i < r.count → Sits s (get_or (sections s) i no_section) (seat_at r i)
  unfolding seat_at
  seat_sits i h = z.seated.sits i h

  pub tables_apart : Apart no_section (λ (x : Section). table_index x.lines) (sections s)
  tables_apart i j h l e =
      let c = z.count in
      let y : i ≡ j = seats_apart s z.sound r.count r.seats r.place (omega arith) z.seated i j (omega arith) (omega arith) e in
      omega arith

  module _ (second : Bool) where
    of_section : (m : ℕ) → m < length (sections s)
        → first_record (repeat_number second) (repeats (by_key second)) [] (filed_in (latin_of s) (1 + m) (get_or (sections s) m no_section))
        ≡ refused_at (repeat_number second) (1 + m) (repeat_line s (seat_at r m) (seat_key s second (seat_at r m)))
    of_section m h =
        seat_repeat second s (latin_of s) (1 + m) (get_or (sections s) m no_section) (seat_at r m) (seat_sits m (omega (arith, z.count))) (sound_here s z.sound m h)

  pub repeats_none : (second : Bool) → ((m : ℕ) → m < r.count → repeat_line s (seat_at r m) (seat_key s second (seat_at r m)) ≡ 0)
      → first_record (repeat_number second) (repeats (by_key second)) [] (filed_of s) ≡ sound
  unfolding filed_of any
  repeats_none second p =
      repeats_by_section (repeat_number second) (by_key second) (number_some second) (latin_of s) 1 (sections s) [] (λ j h. refl) tables_apart
      ∙ faults_none (λ j x. first_record (repeat_number second) (repeats (by_key second)) [] (filed_in (latin_of s) j x)) (sections s) (repeat_number second) (λ m. repeat_line s (seat_at r m) (seat_key s second (seat_at r m)))
      (of_section second) (λ m h. p m (omega (arith, z.count)))

  pub repeats_at : (second : Bool) (i n : ℕ) → i < r.count → ((m : ℕ) → m < i → repeat_line s (seat_at r m) (seat_key s second (seat_at r m)) ≡ 0)
      → repeat_line s (seat_at r i) (seat_key s second (seat_at r i)) ≡ n + 1
      → first_record (repeat_number second) (repeats (by_key second)) [] (filed_of s) ≡ refusal (repeat_number second) (i + 1) (n + 1)
  unfolding filed_of any
  repeats_at second i n h p e =
      repeats_by_section (repeat_number second) (by_key second) (number_some second) (latin_of s) 1 (sections s) [] (λ j h. refl) tables_apart
      ∙ faults_at (λ j x. first_record (repeat_number second) (repeats (by_key second)) [] (filed_in (latin_of s) j x)) (sections s) (repeat_number second) (λ m. repeat_line s (seat_at r m) (seat_key s second (seat_at r m)))
      (of_section second) i n (number_some second) (omega (arith, z.count)) p e

-- the part of a seat in which a key may repeat
pub scan_bounds : (s : Bytes) (a : Seat) → (a.from ≤ a.to) × (a.to ≤ length s) → (q : Choice) (to : ℕ) → to ≡ scan_end a q → (a.from ≤ to) × (to ≤ length s)
unfolding scan_end
scan_bounds s a h q to x = by (eqb q.kinds 0) x
  where
    by : (b : Bool) → to ≡ pick b a.from a.to → (a.from ≤ to) × (to ≤ length s)
    by true y = omega (arith, h.0, h.1)
    by false y = omega (arith, h.0, h.1)

-- what a loop over one seat finds
module _ (s : Bytes) (r : Seats) (z : Ready s r) (i : ℕ) (h : i < r.count) (a : Seat) (e : a ≡ seat_at r i) where
  pub seat_bounds : (a.from ≤ a.to) × (a.to ≤ length s)
  seat_bounds = let x = seat_sits s r z i h in rw e (x.low, x.high)

  -- the columns stand as its `atr` line states
  pub seat_ordered : Ordered s a a.order
  unfolding seat_at seat_order
  seat_ordered =
      let x = seat_sits s r z i h in
      let b = seat_at r i in
      let y : b.table ≡ table_index (seat_lines s b) = x.table ∙ ap table_index x.lines in
      let n : i < length (sections s) = omega (arith, z.count) in
      let v = rw x.lines at (sound_here s z.sound i n).ordered in
      let g = z.stating.each i h in
      rw e (record { stands = g.stands; is = told_order (seat_lines s b) b.table b.order y g v })

  pub key_is : (second : Bool) (q : Choice) → q ≡ key_choice (by_key second) a.table (held a.table a.order) → q ≡ seat_key s second a
  unfolding seat_key
  key_is second q x = x ∙ ap (key_choice (by_key second) a.table) seat_ordered.is

  pub repeat_is : (second : Bool) (q : Choice) (to n : ℕ) → q ≡ seat_key s second a → to ≡ scan_end a q
      → first_line (again q) [] 0 (lines (take (to - a.from) (drop a.from s))) ≡ n → repeat_line s (seat_at r i) (seat_key s second (seat_at r i)) ≡ n
  unfolding repeat_line
  repeat_is second q to n x y f = rw (sym e, sym x, sym y) f
