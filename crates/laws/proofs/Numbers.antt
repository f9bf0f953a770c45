-- Numbers told apart by the lists that they stand in: what is asked of two lists is computed. Assumes nothing.
use mathlib.Core.Path.{◌≡◌, refl, ap, sym, ◌∙◌}
use mathlib.Core.Bool.{Bool, true, false, ◌||◌, false≢true}
use mathlib.Core.List.{List, [], ◌∷◌, ◌++◌}
use Prim.Native.Nat.{ℕ}
use lib.Dec.{eqb}
use borrow.Author.Tests.{ne_eqb}
use Rattle.page.specs.File.{any}
use Rattle.page.specs.Refusals.{gives, OneOf}
use Rattle.page.proofs.TestLaws.{neither}
use Rattle.page.proofs.KeyLaws.{any_append}

-- a number of a list is none that the list lacks
pub other_number : (ns : List ℕ) (v w : ℕ) → OneOf ns v → gives ns w ≡ false → ¬ (v ≡ w)
other_number ns v w g n e = false≢true (sym n ∙ ap (gives ns) (sym e) ∙ g)

-- nor is it one of a list that shares none with its own
pub apart : (ns ms : List ℕ) (v : ℕ) → any (gives ns) ms ≡ false → OneOf ns v → gives ms v ≡ false
unfolding any
apart ns [] v c g = refl
apart ns (m ∷ ms) v c g =
    let z = neither (gives ns m) (any (gives ns) ms) c in
    rw (ne_eqb v m (other_number ns v m g z.0)) (apart ns ms v z.1 g)

-- and it is one of each list of which its own is a part
pub within : (before ns after : List ℕ) (v : ℕ) → OneOf ns v → OneOf (before ++ (ns ++ after)) v
within before ns after v g = rw (any_append (eqb v) before (ns ++ after), any_append (eqb v) ns after, g) (or_true (gives before v))
  where
    or_true : (b : Bool) → (b || true) ≡ true
    or_true true = refl
    or_true false = refl
