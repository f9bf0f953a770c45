-- A record that passed has a field for each column, and none of them is wrong. Assumes nothing.
use mathlib.Core.Path.{◌≡◌, refl}
use mathlib.Core.Bool.{Bool, true, false}
use mathlib.Core.List.{List}
use Prim.Native.Nat.{ℕ}
use native.Mathlib.Omega.{arith}
use lib.Dec.{eqb}
use lib.ListN.{length}
use borrow.Author.Tests.{eqb-true, eq-eqb}
use Rattle.page.specs.Bytes.{Bytes}
use Rattle.page.specs.Tables.{width}
use Rattle.page.specs.Order.{Order, standing}
use Rattle.page.specs.Section.{rec_verdict, first_wrong}

module _ (t : ℕ) (o : Order) (m : ℕ) (fs : List Bytes) (e : rec_verdict t o m fs ≡ 0) where
  pub passed_width : length fs ≡ width t
  unfolding rec_verdict
  passed_width = by (eqb (length fs) (width t)) refl
    where
      by : (b : Bool) → eqb (length fs) (width t) ≡ b → length fs ≡ width t
      by true q = eqb-true (length fs) (width t) q
      by false q = absurd (let z : ◌≡◌ {A = ℕ} 10 0 = rw q at e in omega arith)

  pub passed_wrong : first_wrong (standing t o) fs ≡ 0
  unfolding rec_verdict
  passed_wrong = by (eqb (first_wrong (standing t o) fs) 0) refl
    where
      by : (b : Bool) → eqb (first_wrong (standing t o) fs) 0 ≡ b → first_wrong (standing t o) fs ≡ 0
      by true q = eqb-true (first_wrong (standing t o) fs) 0 q
      by false q = rw (eq-eqb (length fs) (width t) passed_width, q) at e
