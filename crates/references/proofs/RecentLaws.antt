-- What is remembered of the first reference. Assumes nothing.
use mathlib.Core.Path.{◌≡◌, refl, sym}
use mathlib.Core.Bool.{Bool, true, false, not, false≢true, true≢false}
use mathlib.Core.List.{List}
use Prim.Native.Nat.{ℕ}
use Rattle.aims.specs.Aims.{aim_at, reached}
use Rattle.aims.specs.declared.Aims.{Aims}

-- a key by which the first reference was met
pub first_met : (aims : Aims) (r : ℕ) → r ≡ 0 → (k : List ℕ) → true ≡ reached (aim_at aims r) k → reached (aim_at aims 0) k ≡ true
first_met aims r z k e = rw z at (sym e)

pub not_false : (b : Bool) → false ≡ not b → b ≡ true
not_false true e = refl
not_false false e = absurd (false≢true e)

pub not_true : (b : Bool) → true ≡ not b → b ≡ false
not_true true e = absurd (true≢false e)
not_true false e = refl
