-- The records of a sound section: each that is handed out passed its rules. Assumes nothing.
use Rattle.std.specs.Prelude.{Err, Ok, Result}
use mathlib.Core.Path.{◌≡◌, refl}
use mathlib.Core.Bool.{Bool, true, false}
use mathlib.Core.List.{List, [], ◌∷◌}
use Prim.Native.Nat.{ℕ, zero, suc, ◌+◌, ◌<◌}
use native.Mathlib.Omega.{arith}
use lib.Dec.{eqb}
use lib.ListN.{length, get_or}
use borrow.Author.Tests.{eqb-true, eqb-false, eq-eqb}
use Rattle.page.specs.Bytes.{Bytes}
use Rattle.page.specs.Lines.{content, blank, command, rest, Tbl, Atr, Frm, Rec, End, Com, Missing}
use Rattle.page.specs.Fields.{fields, number_of}
use Rattle.page.specs.Tables.{table_named}
use Rattle.page.specs.Order.{Order, order_of}
use Rattle.page.specs.Marks.{remark_of}
use Rattle.page.specs.Cut.{begins_table}
use Rattle.page.specs.Section.{choose, tbl_step, atr_step, frm_step, rec_verdict, rec_step, count_step, end_step, mark_step, com_step, line_step, content_step, step, order_after, table_in, finish, continue, run, outcome}
use Rattle.page.specs.Records.{waits, table_index, atr_in, order_in}
use Rattle.page.specs.Places.{stands, record_at}
use Rattle.page.specs.declared.Number.{Number}
use Rattle.page.specs.declared.Number.TheVariants as N
use Rattle.page.specs.declared.Remark.{Remark}
use Rattle.page.specs.declared.Remark.TheVariants as R
use Rattle.page.specs.declared.Phase.{Phase}
use Rattle.page.specs.declared.Phase.TheVariants as P
use Rattle.machine.specs.Carries.{records_in}
use Rattle.laws.proofs.Tests.{blank_missing}

-- the field of the mark that waits
abbrev mark_in : Phase → ℕ
mark_in P.Tbl = 0
mark_in (P.Atr t) = 0
mark_in (P.Frm t) = 0
mark_in (P.Rows t m n) = m
mark_in (P.Ended t n) = 0

-- a phase of a section of table t, after its `tbl` line, with the order o and the lines ls to come: its records stand in the order x
data Of (t : ℕ) (x : Order) (ls : List Bytes) : Phase → Order → Type 0 where
  atr : {o : Order} → order_of t (fields (atr_in ls)) ≡ x → Of t x ls (P.Atr t) o
  frm : {o : Order} → o ≡ x → Of t x ls (P.Frm t) o
  rows : {o : Order} {m n : ℕ} → o ≡ x → Of t x ls (P.Rows t m n) o
  ended : {o : Order} {n : ℕ} → o ≡ x → Of t x ls (P.Ended t n) o

-- where a line leads
data Leads (t : ℕ) (x : Order) (p : Phase) (o : Order) (l : Bytes) (ls : List Bytes) : Result Phase ℕ → Type 0 where
  stops : {v : ℕ} → (v ≡ 0 → ⊥) → Leads t x p o l ls (Err v)
  still : {q : Phase} → Of t x ls q (order_after p o (content l)) → records_in q ≡ records_in p → mark_in q ≡ waits (mark_in p) (content l)
      → eqb (command (content l)) Rec ≡ false → Leads t x p o l ls (Ok q)
  counts : {q : Phase} → Of t x ls q (order_after p o (content l)) → records_in q ≡ records_in p + 1 → mark_in q ≡ 0
      → eqb (command (content l)) Rec ≡ true → rec_verdict t x (mark_in p) (fields (rest (content l))) ≡ 0 → Leads t x p o l ls (Ok q)

if : {t : ℕ} {x : Order} {p : Phase} {o : Order} {l : Bytes} {ls : List Bytes} (b : Bool) {y z : Result Phase ℕ}
    → (b ≡ true → Leads t x p o l ls y) → (b ≡ false → Leads t x p o l ls z) → Leads t x p o l ls (choose b y z)
unfolding choose
if true f g = f refl
if false f g = g refl

six : {t v : ℕ} {x : Order} {p : Phase} {o : Order} {l : Bytes} {ls : List Bytes} → Leads t x p o l ls (Err (suc v))
six {v = v} = stops (λ (e : suc v ≡ 0). omega arith)

-- a line that is no `rec` and no `com` leaves the mark
other : (m : ℕ) (c : Bytes) (k : ℕ) → command c ≡ k → eqb k Com ≡ false → m ≡ waits m c
unfolding waits
other m c k e n = rw (e, n)

is_not : (c : Bytes) (k i : ℕ) → command c ≡ k → eqb k i ≡ false → eqb (command c) i ≡ false
is_not c k i e n = rw e n

module _ (t : ℕ) (x : Order) (l : Bytes) (ls : List Bytes) where
  abbrev c : Bytes
  c = content l

  -- a line that is no `atr` leaves the order, and one that is states it
  stays : (p : Phase) (o : Order) → Of t x (l ∷ ls) p o → eqb (command c) Atr ≡ false → Of t x ls p (order_after p o c)
  unfolding atr_in order_after
  stays P.Tbl o h n = elim h [ ]
  stays (P.Atr t) o (atr h) n = atr (rw n at h)
  stays (P.Frm t) o (frm h) n = frm h
  stays (P.Rows t m k) o (rows h) n = rows h
  stays (P.Ended t k) o (ended h) n = ended h

  stated : (o : Order) → order_of t (fields (atr_in (l ∷ ls))) ≡ x → eqb (command c) Atr ≡ true → order_after (P.Atr t) o c ≡ x
  unfolding atr_in order_after
  stated o h e = rw e (rw e at h)

  lead_blank : (p : Phase) (o : Order) → Of t x (l ∷ ls) p o → blank c ≡ true → Leads t x p o l ls (Ok p)
  lead_blank p o h b =
      let e = blank_missing c b in
      still {q = p} (stays p o h (is_not c Missing Atr e refl)) refl (other (mark_in p) c Missing e refl) (is_not c Missing Rec e refl)

  remarked : (m i : ℕ) → command c ≡ Com → remark_of (rest c) ≡ R.Mark i → i ≡ waits m c
  unfolding waits
  remarked m i e y = rw (e, y)

  commented : (m : ℕ) → command c ≡ Com → remark_of (rest c) ≡ R.Comment → m ≡ waits m c
  unfolding waits
  commented m e y = rw (e, y)

  lead_com : (p : Phase) (o : Order) → Of t x (l ∷ ls) p o → command c ≡ Com → (y : Remark) → remark_of (rest c) ≡ y → Leads t x p o l ls (com_step p o y)
  unfolding com_step mark_step records_in order_after
  lead_com p o h e R.Comment y =
      still {q = p} (stays p o h (is_not c Com Atr e refl)) refl (commented (mark_in p) e y) (is_not c Com Rec e refl)
  lead_com p o h e R.Unreadable y = six
  lead_com P.Tbl o h e (R.Mark i) y = elim h [ ]
  lead_com (P.Atr t) o (atr h) e (R.Mark i) y = six
  lead_com (P.Frm t) o (frm h) e (R.Mark i) y = six
  lead_com (P.Rows t m n) o (rows h) e (R.Mark i) y = if _ (λ z. still (rows h) refl (remarked m i e y) (is_not c Com Rec e refl)) (λ z. six)
  lead_com (P.Ended t n) o (ended h) e (R.Mark i) y = six

  lead_count : (o : Order) → o ≡ x → (n : ℕ) → command c ≡ End → (y : Number) → Leads t x (P.Rows t 0 n) o l ls (count_step t n y)
  unfolding count_step records_in order_after
  lead_count o h n e (N.Plus i) = if _ (λ y. still (ended h) refl (other 0 c End e refl) (is_not c End Rec e refl)) (λ y. six)
  lead_count o h n e (N.Minus i) = six
  lead_count o h n e N.Nothing = six

  lead_end : (o : Order) → o ≡ x → (m n : ℕ) → command c ≡ End → Leads t x (P.Rows t m n) o l ls (end_step t m n (fields (rest c)))
  unfolding end_step
  lead_end o h zero n e = if _ (λ z. if _ (λ y. lead_count o h n e (number_of (get_or (fields (rest c)) 0 []))) (λ y. six)) (λ z. six)
  lead_end o h (suc m) n e = if _ (λ z. absurd (let w : suc m ≡ 0 = eqb-true (suc m) 0 z in omega arith)) (λ z. six)

  lead_rec : (o : Order) → o ≡ x → (m n : ℕ) → command c ≡ Rec → Leads t x (P.Rows t m n) o l ls (rec_step t o m n (fields (rest c)))
  unfolding rec_step records_in order_after
  lead_rec o h m n e =
      if _ (λ y.
      let v = eqb-true (rec_verdict t o m (fields (rest c))) 0 y in
      counts (rows h) refl refl (eq-eqb (command c) Rec e) (rw h at v))
      (λ y. stops (eqb-false (rec_verdict t o m (fields (rest c))) 0 y))

  lead_line : (p : Phase) (o : Order) → Of t x (l ∷ ls) p o → Leads t x p o l ls (line_step p o (command c) (rest c))
  unfolding line_step atr_step frm_step records_in order_after
  lead_line P.Tbl o h = elim h [ ]
  lead_line (P.Atr t) o (atr h) =
      if _ (λ z. let e = eqb-true (command c) Atr z in if _ (λ y. still (frm (stated o h z)) refl (other 0 c Atr e refl) (is_not c Atr Rec e refl)) (λ y. six)) (λ z. six)
  lead_line (P.Frm t) o (frm h) =
      if _ (λ z. let e = eqb-true (command c) Frm z in if _ (λ y. still (rows h) refl (other 0 c Frm e refl) (is_not c Frm Rec e refl)) (λ y. six)) (λ z. six)
  lead_line (P.Rows t m n) o (rows h) =
      if _ (λ z. lead_rec o h m n (eqb-true (command c) Rec z)) (λ z. if _ (λ y. lead_end o h m n (eqb-true (command c) End y)) (λ y. six))
  lead_line (P.Ended t n) o (ended h) = six

  leads : (latin : Bool) (p : Phase) (o : Order) → Of t x (l ∷ ls) p o → Leads t x p o l ls (step latin p o l)
  unfolding step content_step
  leads latin p o h =
      if _ (λ a. if _ (λ b. lead_blank p o h b) (λ b. if _ (λ z. six) (λ z.
      if _ (λ y. lead_com p o h (eqb-true (command c) Com y) (remark_of (rest c)) refl) (λ y. lead_line p o h)))) (λ a. six)

-- a record that a sound section hands out passed its rules, with the mark that stands before it
module _ (latin : Bool) (t : ℕ) (x : Order) where
  abbrev Passed : ℕ → ℕ → ℕ → List Bytes → Type 0
  Passed r m at ls = rec_verdict t x (record_at r m at ls).mark (fields (record_at r m at ls).rest) ≡ 0

  at_end : (p : Phase) (o : Order) (n r at : ℕ) → Of t x [] p o → (finish p n).verdict ≡ 0 → records_in p + r < (finish p n).records → Passed r (mark_in p) at []
  unfolding finish records_in
  at_end P.Tbl o n r at h e k = elim h [ ]
  at_end (P.Atr t) o n r at (atr h) e k = absurd (omega arith)
  at_end (P.Frm t) o n r at (frm h) e k = absurd (omega arith)
  at_end (P.Rows t m i) o n r at (rows h) e k = absurd (omega arith)
  at_end (P.Ended t i) o n r at (ended h) e k = absurd (omega arith)

  at_line : (p : Phase) (o : Order) (n r at : ℕ) (l : Bytes) (ls : List Bytes) (y : Result Phase ℕ) → Leads t x p o l ls y
      → ((q : Phase) (i : ℕ) → Of t x ls q (order_after p o (content l)) → (run latin q (order_after p o (content l)) (suc n) ls).verdict ≡ 0
      → records_in q + i < (run latin q (order_after p o (content l)) (suc n) ls).records → Passed i (mark_in q) (at + length l) ls)
      → (continue y (table_in p) (suc n) (λ q. run latin q (order_after p o (content l)) (suc n) ls)).verdict ≡ 0
      → records_in p + r < (continue y (table_in p) (suc n) (λ q. run latin q (order_after p o (content l)) (suc n) ls)).records
      → Passed r (mark_in p) at (l ∷ ls)
  unfolding continue record_at stands
  at_line p o n r at l ls (Err v) (stops ne) ih e h = absurd (ne e)
  at_line p o n r at l ls (Ok q) (still k i m b) ih e h = rw b (rw m at (ih q r k e (omega arith)))
  at_line p o n zero at l ls (Ok q) (counts k i m b v) ih e h = rw b v
  at_line p o n (suc r) at l ls (Ok q) (counts k i m b v) ih e h = rw b (rw m at (ih q r k e (omega arith)))

  run_passed : (ls : List Bytes) (p : Phase) (o : Order) (n r at : ℕ) → Of t x ls p o → (run latin p o n ls).verdict ≡ 0
      → records_in p + r < (run latin p o n ls).records → Passed r (mark_in p) at ls
  unfolding run
  run_passed [] p o n r at k e h = at_end p o n r at k e h
  run_passed (l ∷ ls) p o n r at k e h =
      at_line p o n r at l ls (step latin p o l) (leads t x l ls latin p o k)
      (λ q i. run_passed ls q (order_after p o (content l)) (suc n) i (at + length l)) e h

-- the first line of a section
data First (t : ℕ) : Result Phase ℕ → Type 0 where
  refuses : {v : ℕ} → (v ≡ 0 → ⊥) → First t (Err v)
  begins : First t (Ok (P.Atr t))

either : {t : ℕ} (b : Bool) {x y : Result Phase ℕ} → (b ≡ true → First t x) → (b ≡ false → First t y) → First t (choose b x y)
unfolding choose
either true f g = f refl
either false f g = g refl

no : {t v : ℕ} → First t (Err (suc v))
no {v = v} = refuses (λ (e : suc v ≡ 0). omega arith)

first_step : (latin : Bool) (l : Bytes) → command (content l) ≡ Tbl → First (table_named (get_or (fields (rest (content l))) 0 [])) (step latin P.Tbl [] l)
unfolding step content_step line_step tbl_step
first_step latin l e =
    either _ (λ a. either _ (λ b. absurd (let z = blank_missing (content l) b in omega arith)) (λ b. either _ (λ x. no) (λ x.
    either _ (λ y. absurd (let z = eqb-true (command (content l)) Com y in omega arith)) (λ y.
    either _ (λ z. either _ (λ u. either _ (λ w. begins) (λ w. no)) (λ u. no)) (λ z. no))))) (λ a. no)

module _ (latin : Bool) (l : Bytes) (ls : List Bytes) (r at : ℕ) where
  abbrev t : ℕ
  t = table_index (l ∷ ls)

  after_first : (y : Result Phase ℕ) → First t y → eqb (command (content l)) Rec ≡ false → eqb (command (content l)) Com ≡ false
      → Of t (order_in (l ∷ ls)) ls (P.Atr t) [] → (continue y 0 1 (λ q. run latin q [] 1 ls)).verdict ≡ 0
      → r < (continue y 0 1 (λ q. run latin q [] 1 ls)).records → Passed latin t (order_in (l ∷ ls)) r 0 at (l ∷ ls)
  unfolding continue record_at waits records_in
  after_first (Err v) (refuses ne) b d k e h = absurd (ne e)
  after_first (Ok P.Tbl) x b d k e h = elim x [ ]
  after_first (Ok (P.Frm _)) x b d k e h = elim x [ ]
  after_first (Ok (P.Rows _ _ _)) x b d k e h = elim x [ ]
  after_first (Ok (P.Ended _ _)) x b d k e h = elim x [ ]
  after_first (Ok (P.Atr u)) begins b d k e h =
      rw (b, d) (run_passed latin t (order_in (l ∷ ls)) ls (P.Atr t) [] 1 r (at + length l) k e (omega arith))

  order_due : command (content l) ≡ Tbl → order_of t (fields (atr_in ls)) ≡ order_in (l ∷ ls)
  unfolding order_in atr_in
  order_due k = rw (is_not (content l) Tbl Atr k refl)

  pub sound_passed : begins_table l ≡ true → (outcome latin (l ∷ ls)).verdict ≡ 0 → r < (outcome latin (l ∷ ls)).records
      → rec_verdict (table_index (l ∷ ls)) (order_in (l ∷ ls)) (record_at r 0 at (l ∷ ls)).mark (fields (record_at r 0 at (l ∷ ls)).rest) ≡ 0
  unfolding begins_table outcome run table_in table_index order_after
  sound_passed b e h =
      let k : command (content l) ≡ Tbl = eqb-true (command (content l)) Tbl b in
      after_first (step latin P.Tbl [] l) (first_step latin l k) (rw k) (rw k) (atr (order_due k)) e h
