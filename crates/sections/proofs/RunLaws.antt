-- The machine at a place of a section's bytes, and how fast it counts. Assumes nothing.
use Rattle.std.specs.Prelude.{Err, Ok, Result}
use mathlib.Core.Path.{◌≡◌, refl, ap, sym, ◌∙◌}
use mathlib.Core.Bool.{Bool, true, false}
use mathlib.Core.List.{List}
use Prim.Native.Nat.{ℕ, ◌+◌, ◌-◌, ◌<◌, ◌≤◌}
use native.Mathlib.Omega.{arith}
use lib.ListN.{length, take, drop}
use Rattle.page.specs.Bytes.{Bytes}
use Rattle.page.specs.Lines.{lines, content}
use Rattle.page.specs.Order.{Order}
use Rattle.page.specs.Section.{choose, tbl_step, atr_step, frm_step, rec_step, count_step, end_step, mark_step, com_step, line_step, content_step, step, table_in, finish, refused, continue, run, outcome}
use Rattle.page.specs.File.{row_given, row_of}
use Rattle.page.specs.declared.Number.{Number}
use Rattle.page.specs.declared.Number.TheVariants as N
use Rattle.page.specs.declared.Remark.{Remark}
use Rattle.page.specs.declared.Remark.TheVariants as R
use Rattle.page.specs.declared.Phase.{Phase}
use Rattle.page.specs.declared.Phase.TheVariants as P
use Rattle.page.specs.declared.Outcome.{Outcome}
use Rattle.page.proofs.ScanLaws.{part_length}
use Rattle.page.proofs.LineLaws.{line_size, lines_end, joined_lines}
use Rattle.arrangement.specs.Orders.{held, Stands}
use Rattle.passing.proofs.PassLaws.{run_more}
use Rattle.machine.specs.Carries.{records_in, order_at, Carries, Carried}
use Rattle.cut.specs.Walk.{section_size, section_from}

-- the line at a place, that ends at e
module _ (s : Bytes) (at e : ℕ) (h : at < length s) (q : e ≡ at + line_size (drop at s)) (latin : Bool) (p : Phase) (o : Order) (n : ℕ)
    (r : Result Phase ℕ) (x : r ≡ step latin p o (take (e - at) (drop at s))) where
  pub turn_go : (p' : Phase) → r ≡ Ok p' → (a : List ℕ) → Carried p p' o (content (take (e - at) (drop at s))) a
      → run latin p o n (lines (drop at s)) ≡ run latin p' (order_at p' a) (n + 1) (lines (drop e s))
  unfolding continue
  turn_go p' g a k = run_more s at e h q latin p o n ∙ rw (sym x ∙ g, k.is)

  pub turn_stop : (v : ℕ) → r ≡ Err v → run latin p o n (lines (drop at s)) ≡ refused (table_in p) v (n + 1)
  unfolding continue
  turn_stop v g = run_more s at e h q latin p o n ∙ rw (sym x ∙ g)

-- records that were skipped, where they are due
module _ (p : Phase) (t m k : ℕ) (a : List ℕ) (e : p ≡ P.Rows t m k) where
  pub rows_stand : Carries p a → Stands t a
  unfolding Carries
  rows_stand x = rw e at x

  pub rows_count : records_in p ≡ k
  unfolding records_in
  rows_count = ap records_in e

  pub rows_run : (latin : Bool) (s : Bytes) (at b i j : ℕ)
      → ((n l : ℕ) → run latin (P.Rows t m n) (held t a) l (lines (drop at s)) ≡ run latin (P.Rows t i (n + j)) (held t a) (l + j) (lines (drop b s)))
      → (n : ℕ) → run latin p (order_at p a) n (lines (drop at s)) ≡ run latin (P.Rows t i (k + j)) (order_at (P.Rows t i (k + j)) a) (n + j) (lines (drop b s))
  unfolding order_at
  rows_run latin s at b i j f n = rw e (f k n)

pub run_end : (s : Bytes) (at : ℕ) (latin : Bool) (p : Phase) (o : Order) (n : ℕ) → length s ≤ at → run latin p o n (lines (drop at s)) ≡ finish p n
unfolding run
run_end s at latin p o n h = rw (lines_end s at h)

-- a section that ends without `end`
pub finish_early : (p : Phase) (n : ℕ) → ((t k : ℕ) → p ≡ P.Ended t k → ⊥) → refused (table_in p) 6 n ≡ finish p n
unfolding finish table_in
finish_early P.Tbl n h = refl
finish_early (P.Atr t) n h = refl
finish_early (P.Frm t) n h = refl
finish_early (P.Rows t m k) n h = refl
finish_early (P.Ended t k) n h = absurd (h t k refl)

-- a step counts at most one record
data Small (m : ℕ) : Result Phase ℕ → Type 0 where
  goes : {p : Phase} → records_in p ≤ m → Small m (Ok p)
  stops : {v : ℕ} → Small m (Err v)

if : {m : ℕ} (b : Bool) {x y : Result Phase ℕ} → Small m x → Small m y → Small m (choose b x y)
unfolding choose
if true f g = f
if false f g = g

small_tbl : (m : ℕ) (fs : List Bytes) → Small m (tbl_step fs)
unfolding tbl_step records_in
small_tbl m fs = if _ (if _ (goes (omega arith)) stops) stops

small_rec : (t : ℕ) (o : Order) (m n : ℕ) (fs : List Bytes) → Small (n + 1) (rec_step t o m n fs)
unfolding rec_step records_in
small_rec t o m n fs = if _ (goes (omega arith)) stops

small_count : (t n : ℕ) (x : Number) → Small (n + 1) (count_step t n x)
unfolding count_step records_in
small_count t n (N.Plus c) = if _ (goes (omega arith)) stops
small_count t n (N.Minus c) = stops
small_count t n N.Nothing = stops

small_end : (t m n : ℕ) (fs : List Bytes) → Small (n + 1) (end_step t m n fs)
unfolding end_step
small_end t m n fs = if _ (if _ (small_count t n _) stops) stops

small_mark : (p : Phase) (o : Order) (i : ℕ) → Small (records_in p + 1) (mark_step p o i)
unfolding mark_step records_in
small_mark P.Tbl o i = stops
small_mark (P.Atr t) o i = stops
small_mark (P.Frm t) o i = stops
small_mark (P.Rows t m n) o i = if _ (goes (omega arith)) stops
small_mark (P.Ended t n) o i = stops

small_com : (p : Phase) (o : Order) (x : Remark) → Small (records_in p + 1) (com_step p o x)
unfolding com_step
small_com p o R.Comment = goes {p = p} (omega arith)
small_com p o R.Unreadable = stops
small_com p o (R.Mark i) = small_mark p o i

small_line : (p : Phase) (o : Order) (k : ℕ) (w : Bytes) → Small (records_in p + 1) (line_step p o k w)
unfolding line_step atr_step frm_step records_in
small_line P.Tbl o k w = if _ (small_tbl _ _) stops
small_line (P.Atr t) o k w = if _ (if _ (goes (omega arith)) stops) stops
small_line (P.Frm t) o k w = if _ (if _ (goes (omega arith)) stops) stops
small_line (P.Rows t m n) o k w = if _ (small_rec t o m n _) (if _ (small_end t m n _) stops)
small_line (P.Ended t n) o k w = stops

small_step : (latin : Bool) (p : Phase) (o : Order) (l : Bytes) → Small (records_in p + 1) (step latin p o l)
unfolding step content_step
small_step latin p o l = if _ (if _ (goes {p = p} (omega arith)) (if _ stops (if _ (small_com p o _) (small_line p o _ _)))) stops

taken : {m : ℕ} {x : Result Phase ℕ} → Small m x → (q : Phase) → x ≡ Ok q → records_in q ≤ m
taken (goes {p} h) q e = let z : p ≡ q = cc in rw z at h
taken stops q e = absurd (let z : ◌≡◌ {A = ℕ} 0 1 = cc in omega arith)

pub step_small : (latin : Bool) (p q : Phase) (o : Order) (l : Bytes) → step latin p o l ≡ Ok q → records_in q ≤ records_in p + 1
step_small latin p q o l e = taken (small_step latin p o l) q e

-- the row of the section at a place, from its lines' answer
pub row_from : (latin : Bool) (s : Bytes) (at e : ℕ) (o : Outcome) → e ≡ at + section_size (drop at s) → e ≤ length s
    → o ≡ outcome latin (lines (take (e - at) (drop at s)))
    → record { table = o.table; place = at; length = e - at; records = o.records; verdict = o.verdict; line = o.line } ≡ row_of latin (section_from s at)
unfolding row_of row_given section_from
row_from latin s at e o q w x =
    let n : section_size (drop at s) ≡ e - at = omega arith in
    rw (n, joined_lines (take (e - at) (drop at s)), part_length at e s w, sym x)
