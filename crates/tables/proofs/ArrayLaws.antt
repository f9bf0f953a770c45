-- A list cut or filled up, place by place. Assumes nothing.
use mathlib.Core.Path.{◌≡◌, refl, ap, sym, ◌∙◌}
use mathlib.Core.List.{List, [], ◌∷◌, map}
use Prim.Native.Nat.{ℕ, zero, suc, ◌<◌}
use native.Mathlib.Omega.{arith}
use lib.ListN.{length, get_or}
use lib.Seq.{ext_get_or}
use Rattle.tables.specs.Arrays.{fill}

pub fill_at : {A : Type 0} (d e : A) (n : ℕ) (xs : List A) (k : ℕ) → k < n → get_or (fill n d xs) k e ≡ get_or xs k d
unfolding fill
fill_at d e zero xs k h = absurd (omega arith)
fill_at d e (suc n) [] zero h = refl
fill_at d e (suc n) [] (suc k) h = fill_at d e n [] k (omega arith)
fill_at d e (suc n) (x ∷ xs) zero h = refl
fill_at d e (suc n) (x ∷ xs) (suc k) h = fill_at d e n xs k (omega arith)

pub fill_length : {A : Type 0} (n : ℕ) (d : A) (xs : List A) → length (fill n d xs) ≡ n
unfolding fill
fill_length zero d xs = refl
fill_length (suc n) d [] = ap suc (fill_length n d [])
fill_length (suc n) d (x ∷ xs) = ap suc (fill_length n d xs)

pub fill_none : {A : Type 0} (n : ℕ) (d : A) (k : ℕ) → get_or (fill n d []) k d ≡ d
unfolding fill
fill_none zero d k = refl
fill_none (suc n) d zero = refl
fill_none (suc n) d (suc k) = fill_none n d k

pub map_at : {A B : Type 0} (f : A → B) (xs : List A) (n : ℕ) (d : A) (e : B) → n < length xs → get_or (map f xs) n e ≡ f (get_or xs n d)
map_at f [] n d e h = absurd (omega arith)
map_at f (x ∷ xs) zero d e h = refl
map_at f (x ∷ xs) (suc n) d e h = map_at f xs n d e (omega arith)

pub map_same : {A : Type 0} (xs : List A) → map (λ (x : A). x) xs ≡ xs
map_same [] = refl
map_same (x ∷ xs) = ap (λ l. x ∷ l) (map_same xs)

pub fill_is : {A : Type 0} (n : ℕ) (d : A) (xs r : List A) → length r ≡ n → ((k : ℕ) → k < n → get_or r k d ≡ get_or xs k d) → r ≡ fill n d xs
fill_is n d xs r l h =
    let m = fill_length n d xs in
    ext_get_or d r (fill n d xs) (l ∙ sym m) (λ k j. let i : k < n = omega arith in h k i ∙ sym (fill_at d d n xs k i))
