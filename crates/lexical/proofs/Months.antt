-- Only the months 1 to 12 have days. Assumes nothing.
use mathlib.Core.Path.{◌≡◌}
use mathlib.Core.List.{[], ◌∷◌}
use Prim.Native.Nat.{ℕ, ◌<◌}
use native.Mathlib.Omega.{arith}
use lib.ListN.{get_or-eq_default}
use borrow.Author.Tests.{ne_eqb}
use Rattle.page.specs.Bytes.{Bytes}
use Rattle.page.specs.Dates.{days_in}

months : Bytes
months = 0 ∷ 31 ∷ 28 ∷ 31 ∷ 30 ∷ 31 ∷ 30 ∷ 31 ∷ 31 ∷ 30 ∷ 31 ∷ 30 ∷ 31 ∷ []

-- only the months 1 to 12 have days
pub no_month : (y m : ℕ) → 12 < m → days_in y m ≡ 0
unfolding days_in months
no_month y m h = rw (ne_eqb m 2 (λ e. omega arith)) (get_or-eq_default months 0 {n = m} (omega arith))
