-- What is cut out of a field at a place.
-- Assumes nothing.
use mathlib.Core.Path.{◌≡◌}
use mathlib.Core.List.{[]}
use Prim.Native.Nat.{ℕ, ◌+◌, ◌-◌, ◌<◌, ◌≤◌}
use native.Mathlib.Omega.{arith}
use lib.ListN.{length, take, drop, drop_of_length-le, length-drop, length-take}
use lib.Seq.{take_all, take-nil}
use Rattle.page.specs.Bytes.{Bytes}

module _ (f : Bytes) (at n : ℕ) where
  pub cut_none : length f ≤ at → take n (drop at f) ≡ []
  cut_none h = rw (drop_of_length-le f h) (take-nil n)

  pub cut_rest : length f - at < n → take n (drop at f) ≡ drop at f
  cut_rest h = take_all n (drop at f) (omega (arith, length-drop at f))

  pub cut_here : take (at + n - at) (drop at f) ≡ take n (drop at f)
  cut_here =
      let e : at + n - at ≡ n = omega arith in
      rw e

  pub cut_length : length (take n (drop at f)) ≤ n
  cut_length = simp length-take (omega arith)
