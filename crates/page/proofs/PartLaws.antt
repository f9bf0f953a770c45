-- A lent part of a slice.
-- Assumes nothing.
use mathlib.Core.Path.{◌≡◌}
use Prim.Native.Nat.{ℕ, ◌-◌}
use native.Mathlib.Nat.{le_of_eq}
use lib.ListN.{length, take, drop, length-drop}
use lib.Seq.{take_all}
use Rattle.page.specs.Bytes.{Bytes}

-- `&s[k..]` is what is left after k bytes
pub part_rest : (k : ℕ) (s : Bytes) → take (length s - k) (drop k s) ≡ drop k s
part_rest k s = take_all (length s - k) (drop k s) (le_of_eq (length-drop k s))
