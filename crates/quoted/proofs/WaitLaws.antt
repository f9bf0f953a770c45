-- The mark that waits after a line of content c. Assumes nothing.
use mathlib.Core.Path.{◌≡◌}
use Prim.Native.Nat.{ℕ}
use mathlib.Core.Bool.{true, false}
use lib.Dec.{eqb}
use Rattle.page.specs.Bytes.{Bytes}
use Rattle.page.specs.Lines.{command, rest, Com}
use Rattle.page.specs.Marks.{remark_of}
use Rattle.page.specs.Records.{waiting, waits}
use Rattle.page.specs.declared.Remark.{Remark}

module _ (c : Bytes) (m : ℕ) where
  pub waits_other : eqb (command c) Com ≡ false → m ≡ waits m c
  unfolding waits
  waits_other n = rw n

  pub waits_remark : (x : Remark) → eqb (command c) Com ≡ true → remark_of (rest c) ≡ x → waiting m x ≡ waits m c
  unfolding waits
  waits_remark x e d = rw (e, d)
