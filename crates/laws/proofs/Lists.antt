-- Lists whose every member has a property.
use mathlib.Core.Path.{◌≡◌, refl}
use mathlib.Core.List.Memᴰ
use mathlib.Core.List.{List, [], ◌∷◌, ◌++◌, Memᴰ}
use mathlib.Core.Logic.{◌⊎◌, inl, inr}
use Rattle.page.specs.Rules.{Every, none_left, one_more}

module _ {A : Type 0} where
  pub every_head : {P : A → Type 0} {x : A} {xs : List A} → Every P (x ∷ xs) → P x
  every_head (one_more p e) = p

  pub every_tail : {P : A → Type 0} {x : A} {xs : List A} → Every P (x ∷ xs) → Every P xs
  every_tail (one_more p e) = e

  pub every_at : {P : A → Type 0} {x : A} (xs : List A) → Every P xs → Memᴰ x xs → P x
  every_at [] e m = absurd (Memᴰ.not-nil m)
  every_at {P} {x} (y ∷ xs) e m = by (Memᴰ.cases_cons m) (every_at xs (every_tail e))
    where
      by : (x ≡ y) ⊎ Memᴰ x xs → (Memᴰ x xs → P x) → P x
      by (inl q) f = rw q (every_head e)
      by (inr k) f = f k

  pub every_from : {P : A → Type 0} (xs : List A) → ((x : A) → Memᴰ x xs → P x) → Every P xs
  every_from [] f = none_left
  every_from (x ∷ xs) f = one_more (f x (Memᴰ.head refl)) (every_from xs (λ y m. f y (Memᴰ.tail m)))

  pub every_map : {P Q : A → Type 0} {xs : List A} → ((x : A) → P x → Q x) → Every P xs → Every Q xs
  every_map f none_left = none_left
  every_map f (one_more {x} p e) = one_more (f x p) (every_map f e)

  pub every_append : {P : A → Type 0} {xs ys : List A} → Every P xs → Every P ys → Every P (xs ++ ys)
  every_append none_left f = f
  every_append (one_more p e) f = one_more p (every_append e f)
