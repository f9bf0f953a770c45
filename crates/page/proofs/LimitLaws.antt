-- What is known of a file that 1 does not refuse. Assumes nothing.
use mathlib.Core.Path.{◌≡◌, refl}
use mathlib.Core.Bool.{Bool, true, false}
use Prim.Native.Nat.{ℕ, ◌≤◌}
use native.Mathlib.Omega.{arith}
use borrow.Author.Tests.{ltb-false}
use lib.Dec.{ltb}
use lib.ListN.{length}
use Rattle.page.specs.Bytes.{Bytes}
use Rattle.page.specs.Answers.{earlier, refuse_if}
use Rattle.page.specs.File.{limit, too_long, header_refusal}

pub header_short : (s : Bytes) → (header_refusal s).number ≡ 0 → length s ≤ limit
unfolding header_refusal earlier refuse_if too_long
header_short s h = by (ltb limit (length s)) refl
  where
    by : (b : Bool) → ltb limit (length s) ≡ b → length s ≤ limit
    by true e =
        let z : ◌≡◌ {A = ℕ} 1 0 = rw e at h in
        absurd (omega arith)
    by false e = ltb-false limit (length s) e
