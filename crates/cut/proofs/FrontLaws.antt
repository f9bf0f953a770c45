-- The laws of the cut, for loops that test a line once. Assumes nothing.
use mathlib.Core.Path.{◌≡◌, refl}
use mathlib.Core.Bool.{Bool, true, false, ◌||◌}
use mathlib.Core.Logic.{◌⊎◌, inl, inr, ⊎_elim}
use Prim.Native.Nat.{ℕ, ◌+◌, ◌-◌, ◌<◌}
use lib.ListN.{length, take, drop}
use Rattle.page.specs.Bytes.{Bytes}
use Rattle.page.specs.Cut.{begins_table, begins_end}
use Rattle.page.proofs.LineLaws.{line_size}
use Rattle.page.proofs.CutLaws.{front_size, front_table, front_trailer, front_more, sections_from, sections_trailer, sections_more}
use Rattle.page.proofs.TestLaws.{neither}

either_of : (a b : Bool) → (a || b) ≡ true → (a ≡ true) ⊎ (b ≡ true)
either_of true b e = inl refl
either_of false b e = inr e

module _ (s : Bytes) (at e : ℕ) (h : at < length s) (q : e ≡ at + line_size (drop at s)) where
  pub front_stop : (begins_table (take (e - at) (drop at s)) || begins_end (take (e - at) (drop at s))) ≡ true → front_size (drop at s) ≡ 0
  front_stop b = ⊎_elim (front_table s at e h q) (front_trailer s at e h q) (either_of (begins_table (take (e - at) (drop at s))) (begins_end (take (e - at) (drop at s))) b)

  pub front_on : (begins_table (take (e - at) (drop at s)) || begins_end (take (e - at) (drop at s))) ≡ false
      → at + front_size (drop at s) ≡ e + front_size (drop e s)
  front_on b =
      let n = neither (begins_table (take (e - at) (drop at s))) (begins_end (take (e - at) (drop at s))) b in
      front_more s at e h q n.0 n.1

  pub sections_on : begins_table (take (e - at) (drop at s)) ≡ false → sections_from s at ≡ sections_from s e
  sections_on x = by (begins_end (take (e - at) (drop at s))) refl
    where
      by : (b : Bool) → begins_end (take (e - at) (drop at s)) ≡ b → sections_from s at ≡ sections_from s e
      by true y = sections_trailer s at e h q x y
      by false y = sections_more s at e h q x y
