-- All values of a table, handed out at once: those that `value` hands out one by one, record by record and column by column. Assumes nothing.
use Rattle.std.specs.Prelude.{Ok}
use mathlib.Core.Path.{◌≡◌, refl, ap, sym, ◌∙◌}
use mathlib.Core.Bool.{Bool, true, false}
use mathlib.Core.List.{List, [], ◌∷◌, ◌++◌, append_assoc}
use Prim.Native.Nat.{ℕ, zero, suc, ◌+◌, ◌-◌, ◌*◌, ◌<◌}
use native.Mathlib.Nat.{zero-mul, suc-mul}
use native.Mathlib.Omega.{arith}
use lib.Dec.{eqb}
use lib.ListN.{length, drop, length-append}
use Rattle.page.specs.Bytes.{Bytes, pick}
use Rattle.page.specs.Lines.{content, command, Rec}
use Rattle.page.specs.Tables.{width}
use Rattle.page.specs.Order.{Order}
use Rattle.page.specs.Cut.{Section}
use Rattle.page.specs.Head.{latin_of}
use Rattle.page.specs.Records.{waits, table_index, order_in}
use Rattle.page.specs.Places.{Standing, stands, record_at, this_or}
use Rattle.page.specs.Rules.{times}
use Rattle.page.specs.Reading.{section_at, row_at, find_refusal, verdict_of, record_of, value_at}
use Rattle.page.specs.Handing.{cell_of, record_cells, cells_in, cells_of, table_refusal, table_of, cells_after}
use Rattle.page.specs.declared.Value.{Value}
use Rattle.page.specs.declared.Value.TheVariants as Va
use Rattle.calls.specs.Handed.{row_cells, table_cells, CellAt}
use Rattle.grammar.proofs.Own.{row_count}
use Rattle.calls.proofs.CallNumbers.{none_exactly, verdict_open, Given}
use Rattle.calls.proofs.PromisesHanding.{table_done}

-- the cells of n records that stand so
unfoldable all_cells : ℕ → Order → (ℕ → Standing) → ℕ → List ℕ
all_cells t o g zero = []
all_cells t o g (suc n) = record_cells t o (g 0) 1 (width t) ++ all_cells t o (λ q. g (suc q)) n

all_alike : (t : ℕ) (o : Order) (g h : ℕ → Standing) → ((q : ℕ) → g q ≡ h q) → (n : ℕ) → all_cells t o g n ≡ all_cells t o h n
unfolding all_cells
all_alike t o g h e zero = refl
all_alike t o g h e (suc n) = rw (e 0, all_alike t o (λ q. g (suc q)) (λ q. h (suc q)) (λ q. e (suc q)) n)

cells_all : (t : ℕ) (o : Order) (m at : ℕ) (ls : List Bytes) → cells_in t o m at ls ≡ all_cells t o (λ q. record_at q m at ls) (times Rec ls)
unfolding cells_in times record_at all_cells
cells_all t o m at [] = refl
cells_all t o m at (l ∷ ls) = by (eqb (command (content l)) Rec) (cells_all t o 0 (at + length l) ls) (cells_all t o (waits m (content l)) (at + length l) ls)
  where
    by : (b : Bool) → cells_in t o 0 (at + length l) ls ≡ all_cells t o (λ q. record_at q 0 (at + length l) ls) (times Rec ls) →
        cells_in t o (waits m (content l)) (at + length l) ls ≡ all_cells t o (λ q. record_at q (waits m (content l)) (at + length l) ls) (times Rec ls) →
        pick b (record_cells t o (stands at l m) 1 (width t) ++ cells_in t o 0 (at + length l) ls) (cells_in t o (waits m (content l)) (at + length l) ls)
        ≡ all_cells t o (λ q. pick b (this_or q (stands at l m) (λ r. record_at r 0 (at + length l) ls)) (record_at q (waits m (content l)) (at + length l) ls)) (pick b 1 0 + times Rec ls)
    by true x y = let z : 1 + times Rec ls ≡ suc (times Rec ls) = omega arith in rw (z, x)
    by false x y = let z : 0 + times Rec ls ≡ times Rec ls = omega arith in rw (z, y)

module _ (x : Section) where
  row_is : (r f n : ℕ) → row_cells x r f n ≡ record_cells (table_index x.lines) (order_in x.lines) (record_of x r) f n
  unfolding row_cells record_cells value_at
  row_is r f zero = refl
  row_is r f (suc n) = rw (row_is r (suc f) n)

  table_is : (r n : ℕ) → table_cells x (suc r) n ≡ all_cells (table_index x.lines) (order_in x.lines) (λ q. record_at (r + q) 0 x.place x.lines) n
  unfolding table_cells all_cells record_of
  table_is r zero = refl
  table_is r (suc n) =
      let z : suc r - 1 ≡ r + 0 = omega arith in
      rw (row_is (suc r) 1 (width (table_index x.lines)), z, table_is (suc r) n)
      (ap (λ (w : List ℕ). record_cells (table_index x.lines) (order_in x.lines) (record_at (r + 0) 0 x.place x.lines) 1 (width (table_index x.lines)) ++ w)
      (all_alike (table_index x.lines) (order_in x.lines) (λ q. record_at (suc r + q) 0 x.place x.lines) (λ q. record_at (r + suc q) 0 x.place x.lines)
      (λ q. ap (λ (k : ℕ). record_at k 0 x.place x.lines) (let y : suc r + q ≡ r + suc q = omega arith in y)) n))

  -- the cells of a section are those of its values, one `rec` line after another
  pub cells_are : cells_of x ≡ table_cells x 1 (times Rec x.lines)
  unfolding cells_of
  cells_are =
      cells_all (table_index x.lines) (order_in x.lines) 0 x.place x.lines
      ∙ (all_alike (table_index x.lines) (order_in x.lines) (λ q. record_at q 0 x.place x.lines) (λ q. record_at (0 + q) 0 x.place x.lines)
      (λ q. ap (λ (k : ℕ). record_at k 0 x.place x.lines) (let y : q ≡ 0 + q = omega arith in y)) (times Rec x.lines)
      ∙ sym (table_is 0 (times Rec x.lines)))

-- of a sound section: as many records as its row says
pub cells_handed : (s : Bytes) (i : ℕ) → (row_at s i).verdict ≡ 0 → cells_of (section_at s i) ≡ table_cells (section_at s i) 1 (row_at s i).records
unfolding row_at
cells_handed s i e = cells_are (section_at s i) ∙ ap (table_cells (section_at s i) 1) (sym (row_count (latin_of s) (section_at s i) e))

-- and three numbers for each value
pub cell_length : (v : Value) → length (cell_of v) ≡ 3
unfolding cell_of
cell_length (Va.Number n) = refl
cell_length Va.Missing = refl
cell_length (Va.Words x) = refl

row_length : (x : Section) (r f n : ℕ) → length (row_cells x r f n) ≡ n * 3
unfolding row_cells
row_length x r f zero = refl
row_length x r f (suc n) = omega (arith, length-append (cell_of (value_at x r f)) (row_cells x r (suc f) n), cell_length (value_at x r f), row_length x r (suc f) n)

table_length : (x : Section) (r n : ℕ) → length (table_cells x r n) ≡ n * (width (table_index x.lines) * 3)
unfolding table_cells
table_length x r zero = let z : 0 * (width (table_index x.lines) * 3) ≡ 0 = zero-mul (width (table_index x.lines) * 3) in rw z
table_length x r (suc n) =
    rw (length-append (row_cells x r 1 (width (table_index x.lines))) (table_cells x (suc r) n), row_length x r 1 (width (table_index x.lines)), table_length x (suc r) n, suc-mul n (width (table_index x.lines) * 3))
    (omega arith)

pub cells_count : (s : Bytes) (i : ℕ) → (row_at s i).verdict ≡ 0 → length (cells_of (section_at s i)) ≡ (row_at s i).records * (width (table_index (section_at s i).lines) * 3)
cells_count s i e = ap length (cells_handed s i e) ∙ table_length (section_at s i) 1 (row_at s i).records

-- where each value's cells stand

row_cell : (x : Section) (r f n k : ℕ) → k < n → CellAt (row_cells x r f n) (k * 3) (value_at x r (f + k))
unfolding row_cells
row_cell x r f zero k h = absurd (let z : ⊥ = omega arith in z)
row_cell x r f (suc n) zero h =
    let z : f + 0 ≡ f = omega arith in
    rw z (record { before = []; after = row_cells x r (suc f) n; split = refl; placed = refl })
row_cell x r f (suc n) (suc k) h =
    let c = row_cell x r (suc f) n k (omega arith) in
    let z : f + suc k ≡ suc f + k = omega arith in
    rw z
    (record {
      before = cell_of (value_at x r f) ++ c.before;
      after = c.after;
      split = rw c.split (sym (append_assoc (cell_of (value_at x r f)) c.before _));
      placed = omega (arith, length-append (cell_of (value_at x r f)) c.before, cell_length (value_at x r f), c.placed);
    })

table_cell : (x : Section) (r n q k : ℕ) → q < n → k < width (table_index x.lines) → CellAt (table_cells x r n) (q * (width (table_index x.lines) * 3) + k * 3) (value_at x (r + q) (1 + k))
unfolding table_cells
table_cell x r zero q k h l = absurd (let z : ⊥ = omega arith in z)
table_cell x r (suc n) zero k h l =
    let c = row_cell x r 1 (width (table_index x.lines)) k l in
    let z : r + 0 ≡ r = omega arith in
    let o : 0 * (width (table_index x.lines) * 3) ≡ 0 = zero-mul (width (table_index x.lines) * 3) in
    rw (z, o)
    (record {
      before = c.before;
      after = c.after ++ table_cells x (suc r) n;
      split = rw c.split (simp append_assoc);
      placed = omega (arith, c.placed);
    })
table_cell x r (suc n) (suc q) k h l =
    let c = table_cell x (suc r) n q k (omega arith) l in
    let z : r + suc q ≡ suc r + q = omega arith in
    rw (z, suc-mul q (width (table_index x.lines) * 3))
    (record {
      before = row_cells x r 1 (width (table_index x.lines)) ++ c.before;
      after = c.after;
      split = rw c.split (sym (append_assoc (row_cells x r 1 (width (table_index x.lines))) c.before _));
      placed =
          rw (length-append (row_cells x r 1 (width (table_index x.lines))) c.before, row_length x r 1 (width (table_index x.lines)), c.placed) (omega arith);
    })

-- record r and column f, from 1, of a sound section: three cells for each value before it
pub cell_stands : (s : Bytes) (i r f : ℕ) → Given s i r f →
    CellAt (cells_of (section_at s i)) ((r - 1) * (width (table_index (section_at s i).lines) * 3) + (f - 1) * 3) (value_at (section_at s i) r f)
cell_stands s i r f g =
    let c = table_cell (section_at s i) 1 (row_at s i).records (r - 1) (f - 1) (omega (arith, g.record_there)) (omega (arith, g.field_there)) in
    let y : 1 + (r - 1) ≡ r = omega (arith, g.record_there) in
    let z : 1 + (f - 1) ≡ f = omega (arith, g.field_there) in
    rw (cells_handed s i g.sound) (rw (y, z) at c)

-- `table`: the count that is given, and the cells that stand first in what was lent
pub record TableHanded (s : Bytes) (i : ℕ) (cells : List ℕ) (n : ℕ) : Type 0 where
  pub count : n ≡ (row_at s i).records * (width (table_index (section_at s i).lines) * 3)
  pub holds : cells_after s i cells ≡ table_cells (section_at s i) 1 (row_at s i).records ++ drop n cells

pub table_handed : (s : Bytes) (i : ℕ) (cells : List ℕ) (n : ℕ) → table_of s i (length cells) ≡ Ok n → TableHanded s i cells n
unfolding table_refusal
table_handed s i cells n e =
    let d = table_done s i cells n e in
    let v = (verdict_open s i).0 ((none_exactly (find_refusal s i) (verdict_of i (row_at s i))).0 d.accepted).1 in
    record { count = d.given ∙ cells_count s i v; holds = d.holds ∙ rw (← d.given, cells_handed s i v) }
