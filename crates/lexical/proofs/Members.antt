-- Lists member by member. Assumes nothing.
use mathlib.Core.Path.{◌≡◌, refl, ap, ◌∙◌, sym}
use mathlib.Core.List.{List, [], ◌∷◌}
use Prim.Native.Nat.{ℕ, zero, suc}
use native.Mathlib.Omega.{arith}
use lib.ListN.{length, get_or}

module _ {A : Type 0} where
  -- n members of a list, from place i on
  unfoldable pub members : A → ℕ → ℕ → List A → List A
  members d zero i xs = []
  members d (suc n) i xs = get_or xs i d ∷ members d n (suc i) xs

  members_later : (d : A) (n i : ℕ) (x : A) (xs : List A) → members d n (suc i) (x ∷ xs) ≡ members d n i xs
  unfolding members
  members_later d zero i x xs = refl
  members_later d (suc n) i x xs = ap (λ (z : List A). get_or xs i d ∷ z) (members_later d n (suc i) x xs)

  -- a list of n members is those members one by one
  pub by_members : (d : A) (n : ℕ) (xs : List A) → length xs ≡ n → xs ≡ members d n 0 xs
  unfolding members
  by_members d zero [] e = refl
  by_members d (suc n) [] e = absurd (let z : ⊥ = omega arith in z)
  by_members d zero (x ∷ xs) e = absurd (let z : ⊥ = omega arith in z)
  by_members d (suc n) (x ∷ xs) e = ap (λ (z : List A). x ∷ z) (by_members d n xs (omega arith) ∙ sym (members_later d n 0 x xs))
