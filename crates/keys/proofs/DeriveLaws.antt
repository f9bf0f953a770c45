-- What `==`, `<` and `fold` say of the numbers of keys, in the words of the contracts. Assumes nothing.
use mathlib.Core.Path.{◌≡◌, refl, ap, ◌∙◌}
use mathlib.Core.Bool.{Bool, true, false, true≢false, cond, ◌&&◌}
use mathlib.Core.List.{List, [], ◌∷◌}
use Prim.Native.Nat.{ℕ, ◌<◌}
use native.Mathlib.Omega.{arith}
use borrow.Author.Tests.{ne_eqb, ltb-true}
use lib.Dec.{eqb, ltb}
use lib.Bits.{bit_xor}
use lib.ListN.{length}
use lib.Pointwise.{pointwise}
use Rattle.std.specs.List.{fold}
use Rattle.std.specs.Prelude.{Option, Some}
use Rattle.std.specs.declared.cmp.Ordering.{Ordering}
use Rattle.std.specs.declared.cmp.Ordering.TheVariants.{Less, Equal, Greater}
use Rattle.std.specs.Ordering.{is_some_and, is_lt, nat_cmp, as_partial_cmp, partial_ordering_then}
use Rattle.std.specs.Cmp.Lexicographic.{slice_partial_cmp}
use Rattle.page.specs.Bytes.{same, pick}
use Rattle.keys.specs.Orders.{less, mixed, hashed}

pub same_pointwise : (xs ys : List ℕ) → pointwise eqb xs ys ≡ same xs ys
unfolding same
same_pointwise [] [] = refl
same_pointwise [] (y ∷ ys) = refl
same_pointwise (x ∷ xs) [] = refl
same_pointwise (x ∷ xs) (y ∷ ys) = ap (λ (b : Bool). eqb x y && b) (same_pointwise xs ys)

-- the first pair of numbers, and what those behind them answer
first_pair : (a e : Bool) (p : Option Ordering) → (a ≡ true → e ≡ false)
    → is_some_and is_lt (partial_ordering_then (Some (cond a Less (cond e Equal Greater))) p) ≡ pick e (is_some_and is_lt p) a
first_pair true true p f = absurd (true≢false (f refl))
first_pair true false p f = refl
first_pair false true p f = refl
first_pair false false p f = refl

pub less_compared : (xs ys : List ℕ) → length xs ≡ length ys → is_some_and is_lt (slice_partial_cmp (as_partial_cmp nat_cmp) xs ys) ≡ less xs ys
unfolding less
less_compared [] [] l = refl
less_compared [] (y ∷ ys) l = absurd (omega (arith, l))
less_compared (x ∷ xs) [] l = refl
less_compared (x ∷ xs) (y ∷ ys) l =
    let k : length xs ≡ length ys = omega (arith, l) in
    first_pair (ltb x y) (eqb x y) (slice_partial_cmp (as_partial_cmp nat_cmp) xs ys) (λ h. let m : x < y = ltb-true x y h in ne_eqb x y (λ w. omega arith))
    ∙ ap (λ (b : Bool). pick (eqb x y) b (ltb x y)) (less_compared xs ys k)

pub hashed_folded : (h : ℕ) (xs : List ℕ) → fold (λ (n x : ℕ). mixed (bit_xor n x)) h xs ≡ hashed h xs
unfolding hashed
hashed_folded h [] = refl
hashed_folded h (x ∷ xs) = hashed_folded (mixed (bit_xor h x)) xs
