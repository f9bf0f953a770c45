-- The laws of what is the same but for its place: refusals asked in turn, the values of one record, and the cells of one table. Assumes nothing.
use mathlib.Core.Path.{◌≡◌, refl, ap, sym}
use mathlib.Core.Bool.{Bool, true, false, false≢true}
use mathlib.Core.List.{List, [], ◌∷◌, ◌++◌, append_assoc}
use Prim.Native.Nat.{ℕ, zero, suc, ◌+◌, ◌-◌, ◌<◌}
use native.Mathlib.Omega.{arith}
use borrow.Author.Tests.{eqb-true}
use lib.Dec.{eqb}
use lib.ListN.{length, length-append}
use Rattle.page.specs.Bytes.{Bytes, pick}
use Rattle.page.specs.Lines.{content, command, Rec}
use Rattle.page.specs.Tables.{column_at, width}
use Rattle.page.specs.Order.{Order, place}
use Rattle.page.specs.Marks.{owner_of}
use Rattle.page.specs.Records.{waits}
use Rattle.page.specs.Places.{Standing, stands, record_at, this_or}
use Rattle.page.specs.Rules.{times}
use Rattle.page.specs.Answers.{refusal, sound, earlier, refuse_if, answered}
use Rattle.page.specs.File.{too_long, header_refusal}
use Rattle.page.specs.Reading.{verdict_of, later_field, field_at, valued, value_in}
use Rattle.page.specs.Handing.{cell_of, record_cells, cells_in}
use Rattle.page.specs.declared.Field.{Field}
use Rattle.page.specs.declared.Field.TheVariants as F
use Rattle.page.specs.declared.Owner.{Owner}
use Rattle.page.specs.declared.Row.{Row}
use Rattle.page.specs.declared.Value.{Value}
use Rattle.page.specs.declared.Refusal.{Refusal}
use Rattle.page.specs.declared.Copied.{Copied}
use Rattle.calls.proofs.HandedCells.{cell_length}
use Rattle.demands.specs.Damage.{Shifted, SameRow, SameValue, same_number, same_missing, same_words, SameCells, no_cells, more_cells, SameRefusal, of_none, of_section, SameListed, a_row, no_row, SameGot, a_value, no_value, SameHanded, a_text, no_text}

-- refusals

module _ (i j : ℕ) where
  pub one_number : {x y : Refusal} → SameRefusal i j x y → x.number ≡ y.number
  one_number of_none = refl
  one_number of_section = refl

  -- one question, asked of both
  alike : {A : Type 0} (R : A → A → Type 0) {x y : Refusal} {a b c d : A} → SameRefusal i j x y → (x.number ≡ 0 → R a b) → R c d →
      R (pick (eqb x.number 0) a c) (pick (eqb y.number 0) b d)
  alike R {x} {y} {a} {b} {c} {d} h f g = by (eqb x.number 0) (eqb y.number 0) (ap (λ (n : ℕ). eqb n 0) (one_number h)) refl
    where
      by : (p q : Bool) → p ≡ q → eqb x.number 0 ≡ p → R (pick p a c) (pick q b d)
      by true true e z = f (eqb-true x.number 0 z)
      by true false e z = absurd (false≢true (sym e))
      by false true e z = absurd (false≢true e)
      by false false e z = g

  pub same_earlier : {a b c d : Refusal} → SameRefusal i j a b → SameRefusal i j c d → SameRefusal i j (earlier a c) (earlier b d)
  unfolding earlier
  same_earlier x y = alike (SameRefusal i j) x (λ z. y) x

  pub same_if : {p q : Bool} (v : ℕ) → p ≡ q → SameRefusal i j (refuse_if p v) (refuse_if q v)
  unfolding refuse_if
  same_if {p} {q} v e = rw e (by q)
    where
      by : (q : Bool) → SameRefusal i j (refuse_if q v) (refuse_if q v)
      by true = of_none
      by false = of_none

  -- 1 and 2 have no section
  pub same_heading : (s : Bytes) → SameRefusal i j (header_refusal s) (header_refusal s)
  unfolding header_refusal
  same_heading s = same_earlier (same_if {p = too_long s} 1 refl) of_none

  pub same_verdict : (r q : Row) → r.verdict ≡ q.verdict → r.line ≡ q.line → SameRefusal i j (verdict_of i r) (verdict_of j q)
  unfolding verdict_of
  same_verdict r q e h = rw (e, h) (by (eqb q.verdict 0))
    where
      by : (z : Bool) → SameRefusal i j (pick z sound (refusal q.verdict i q.line)) (pick z sound (refusal q.verdict j q.line))
      by true = of_none
      by false = of_section

  -- answers

  pub same_listed : {k l : ℕ} {x y : Refusal} {r q : Row} → SameRefusal i j x y → SameRow k l r q → SameListed k l i j (answered x r) (answered y q)
  unfolding answered
  same_listed {k} {l} h w = alike (SameListed k l i j) h (λ z. a_row w) (no_row h)

  pub same_got : {k l : ℕ} {x y : Refusal} {v w : Value} → SameRefusal i j x y → (x.number ≡ 0 → SameValue k l v w) → SameGot k l i j (answered x v) (answered y w)
  unfolding answered
  same_got {k} {l} h g = alike (SameGot k l i j) h (λ z. a_value (g z)) (no_value h)

  pub same_handed : {x y : Refusal} {c d : Copied} → SameRefusal i j x y → c ≡ d → SameHanded i j (answered x c) (answered y d)
  unfolding answered
  same_handed h e = rw e (alike (SameHanded i j) h (λ z. a_text) (no_text h))

-- values

module _ (k l : ℕ) where
  moved_field : (w : Owner) (at to : ℕ) (x : Field) → Shifted k l at to → SameValue k l (valued w (later_field at x)) (valued w (later_field to x))
  moved_field w at to (F.Text sp) h =
      same_words {x = record { from = at + sp.from; to = at + sp.to; owner = w }} {y = record { from = to + sp.from; to = to + sp.to; owner = w }}
      (omega arith) (omega arith) refl
  moved_field w at to (F.Number n) h = same_number
  moved_field w at to F.Missing h = same_missing
  moved_field w at to (F.Refused v) h = same_number

  -- a record's line in the one file and in the other
  pub record SameStanding (x y : Standing) : Type 0 where
    pub at : Shifted k l x.at y.at
    pub rest : x.rest ≡ y.rest
    pub mark : x.mark ≡ y.mark

  pub same_value_in : (t : ℕ) (o : Order) {x y : Standing} (f : ℕ) → SameStanding x y → SameValue k l (value_in t o x f) (value_in t o y f)
  unfolding value_in
  same_value_in t o {x} {y} f h =
      rw (h.rest, h.mark)
      (moved_field (owner_of y.mark (suc (place (f - 1) o))) x.at y.at (field_at (column_at t (f - 1)) y.rest (place (f - 1) o)) h.at)

  same_stands : (at to : ℕ) (line : Bytes) (m : ℕ) → Shifted k l at to → SameStanding (stands at line m) (stands to line m)
  unfolding stands
  same_stands at to line m h = record { at = omega arith; rest = refl; mark = refl }

  -- a record that the lines have stands as much further on as they do
  pub same_record : (r m at to : ℕ) (ls : List Bytes) → Shifted k l at to → r < times Rec ls → SameStanding (record_at r m at ls) (record_at r m to ls)
  unfolding record_at times
  same_record r m at to [] h g = absurd (omega arith)
  same_record r m at to (c ∷ ls) h g =
      by (eqb (command (content c)) Rec) r g (λ q n. same_record q n (at + length c) (to + length c) ls (omega arith))
    where
      by : (z : Bool) (r : ℕ) → r < pick z 1 0 + times Rec ls →
          ((q n : ℕ) → q < times Rec ls → SameStanding (record_at q n (at + length c) ls) (record_at q n (to + length c) ls)) →
          SameStanding (pick z (this_or r (stands at c m) (λ q. record_at q 0 (at + length c) ls)) (record_at r (waits m (content c)) (at + length c) ls))
          (pick z (this_or r (stands to c m) (λ q. record_at q 0 (to + length c) ls)) (record_at r (waits m (content c)) (to + length c) ls))
      by true zero g ih = same_stands at to c m h
      by true (suc q) g ih = ih q 0 (omega arith)
      by false r g ih = ih r (waits m (content c)) (omega arith)

  -- cells

  pub same_append : {xs ys zs ws : List ℕ} → SameCells k l xs ys → SameCells k l zs ws → SameCells k l (xs ++ zs) (ys ++ ws)
  same_append no_cells g = g
  same_append {zs = zs} {ws = ws} (more_cells {v} {w} {xs} {ys} h x) g =
      rw (append_assoc (cell_of v) xs zs, append_assoc (cell_of w) ys ws) (more_cells h (same_append x g))

  pub same_size : {xs ys : List ℕ} → SameCells k l xs ys → length xs ≡ length ys
  same_size no_cells = refl
  same_size (more_cells {v} {w} {xs} {ys} h x) = omega (arith, length-append (cell_of v) xs, length-append (cell_of w) ys, cell_length v, cell_length w, same_size x)

  same_cells : (t : ℕ) (o : Order) {x y : Standing} (f n : ℕ) → SameStanding x y → SameCells k l (record_cells t o x f n) (record_cells t o y f n)
  unfolding record_cells
  same_cells t o f zero h = no_cells
  same_cells t o f (suc n) h = more_cells (same_value_in t o f h) (same_cells t o (suc f) n h)

  pub same_cells_in : (t : ℕ) (o : Order) (m at to : ℕ) (ls : List Bytes) → Shifted k l at to → SameCells k l (cells_in t o m at ls) (cells_in t o m to ls)
  unfolding cells_in
  same_cells_in t o m at to [] h = no_cells
  same_cells_in t o m at to (c ∷ ls) h =
      by (eqb (command (content c)) Rec) (λ q. same_cells_in t o q (at + length c) (to + length c) ls (omega arith))
    where
      by : (z : Bool) → ((q : ℕ) → SameCells k l (cells_in t o q (at + length c) ls) (cells_in t o q (to + length c) ls)) →
          SameCells k l
          (pick z (record_cells t o (stands at c m) 1 (width t) ++ cells_in t o 0 (at + length c) ls) (cells_in t o (waits m (content c)) (at + length c) ls))
          (pick z (record_cells t o (stands to c m) 1 (width t) ++ cells_in t o 0 (to + length c) ls) (cells_in t o (waits m (content c)) (to + length c) ls))
      by true ih = same_append (same_cells t o 1 (width t) (same_stands at to c m h)) (ih 0)
      by false ih = ih (waits m (content c))

-- what a record's line says does not depend on where its section stands
abbrev pub SaysAlike : Standing → Standing → Type 0
SaysAlike x y = (x.rest ≡ y.rest) × (x.mark ≡ y.mark)

pub record_says : (r m at to : ℕ) (ls : List Bytes) → SaysAlike (record_at r m at ls) (record_at r m to ls)
unfolding record_at stands
record_says r m at to [] = (refl, refl)
record_says r m at to (c ∷ ls) = by (eqb (command (content c)) Rec) r (λ q n. record_says q n (at + length c) (to + length c) ls)
  where
    by : (z : Bool) (r : ℕ) → ((q n : ℕ) → SaysAlike (record_at q n (at + length c) ls) (record_at q n (to + length c) ls)) →
        SaysAlike (pick z (this_or r (stands at c m) (λ q. record_at q 0 (at + length c) ls)) (record_at r (waits m (content c)) (at + length c) ls))
        (pick z (this_or r (stands to c m) (λ q. record_at q 0 (to + length c) ls)) (record_at r (waits m (content c)) (to + length c) ls))
    by true zero ih = (refl, refl)
    by true (suc q) ih = ih q 0
    by false r ih = ih r (waits m (content c))
