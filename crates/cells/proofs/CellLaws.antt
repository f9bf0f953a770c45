-- The values of a record, met from the left. Assumes nothing.
use mathlib.Core.Path.{◌≡◌, refl, ap}
use mathlib.Core.List.{List, [], ◌++◌}
use Prim.Native.Nat.{ℕ, suc, ◌+◌, ◌-◌, ◌<◌, ◌≤◌}
use native.Mathlib.Nat.{sub-zero}
use native.Mathlib.Omega.{arith}
use lib.ListN.{length, length-append}
use Rattle.page.specs.Bytes.{Bytes}
use Rattle.page.specs.Tables.{width}
use Rattle.page.specs.Order.{Order, place}
use Rattle.page.specs.Places.{Standing}
use Rattle.page.specs.Reading.{value_in}
use Rattle.page.specs.Handing.{cell_of, record_cells}
use Rattle.page.specs.declared.Value.{Value}
use Rattle.page.specs.declared.Value.TheVariants as Va
use Rattle.page.proofs.OrderLaws.{place_in}
use Rattle.arrangement.specs.Orders.{held, Stands}
use Rattle.arrangement.proofs.OrderLaws.{held_length}
use Rattle.output.proofs.PutLaws.{Todo, same}

-- the values of a record, of which k of n have been passed

pub cell_length : (v : Value) → length (cell_of v) ≡ 3
unfolding cell_of
cell_length (Va.Number n) = refl
cell_length Va.Missing = refl
cell_length (Va.Words x) = refl

module _ (t : ℕ) (o : Order) (x : Standing) (n : ℕ) where
  pub values_begin : record_cells t o x 1 n ≡ record_cells t o x (0 + 1) (n - 0)
  values_begin = rw sub-zero

  pub values_more : (k : ℕ) → k < n → record_cells t o x (k + 1) (n - k) ≡ cell_of (value_in t o x (k + 1)) ++ record_cells t o x (k + 1 + 1) (n - (k + 1))
  unfolding record_cells
  values_more k h =
      let z : n - k ≡ suc (n - (k + 1)) = omega arith in
      let y : suc (k + 1) ≡ k + 1 + 1 = omega arith in
      rw (z, y)

  pub values_end : (k : ℕ) → n ≤ k → record_cells t o x (k + 1) (n - k) ≡ []
  unfolding record_cells
  values_end k h = let z : n - k ≡ 0 = omega arith in rw z

-- what is put next has room where the whole has
pub first_fits : {l : Bytes} {i : ℕ} {form m : Bytes} {j : ℕ} {r : Bytes} (a b : Bytes) → r ≡ a ++ b → Todo l i form m j r → i + length form ≤ length l
    → j + length a ≤ length m
first_fits a b e t h = omega (arith, t.next, ap length e, length-append a b, same t)

-- where a column of an arranged order stands
pub column_stands : (t : ℕ) (a : List ℕ) (c p : ℕ) → Stands t a → c < width t → p ≡ place c (held t a) → p < width t
column_stands t a c p x h e = omega (arith, (place_in (width t) (held t a) x.arranged c h).0, held_length t a x.orderly)
