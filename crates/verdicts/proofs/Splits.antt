-- Members of a list, its parts before and after one, and pairs of places: three ways to say that no two agree.
use mathlib.Core.Path.{◌≡◌, refl, ap, sym}
use mathlib.Core.Bool.{false≢true}
use mathlib.Core.List.Memᴰ
use mathlib.Core.List.{List, [], ◌∷◌, ◌++◌, map, append_assoc, append-nil, Memᴰ}
use mathlib.Core.Logic.{◌⊎◌, inl, inr, ◌↔◌}
use Prim.Native.Nat.{ℕ, zero, suc, ◌<◌}
use native.Mathlib.Omega.{arith}
use lib.ListN.{length, get_or, length-append}
use Rattle.page.specs.Rules.{Apart}
use Rattle.verdicts.specs.First.{NoneOf}
use Rattle.verdicts.proofs.Firsts.{none_cons, none_head, none_tail}

module _ {A : Type 0} where
  -- what stands between two parts is a member
  pub split_mem : {xs : List A} (before after : List A) (x : A) → xs ≡ before ++ (x ∷ after) → Memᴰ x xs
  split_mem before after x e = rw e (Memᴰ.append_right before (Memᴰ.head refl))

  -- a member stands between two parts
  pub mem_split : {x : A} (xs : List A) → Memᴰ x xs → (before : List A) × (after : List A) × (xs ≡ before ++ (x ∷ after))
  mem_split [] m = absurd (Memᴰ.not-nil m)
  mem_split {x} (y ∷ xs) m = by (Memᴰ.cases_cons m) (mem_split xs)
    where
      by : (x ≡ y) ⊎ Memᴰ x xs → (Memᴰ x xs → (before : List A) × (after : List A) × (xs ≡ before ++ (x ∷ after))) →
          (before : List A) × (after : List A) × (y ∷ xs ≡ before ++ (x ∷ after))
      by (inl e) f = ([], xs, rw e)
      by (inr k) f = let z = f k in (y ∷ z.0, z.1, ap (λ (w : List A). y ∷ w) z.2)

  -- by place
  pub split_at : (d : A) (xs : List A) (j : ℕ) → j < length xs →
      (before : List A) × (after : List A) × (xs ≡ before ++ (get_or xs j d ∷ after)) × ((i : ℕ) → i < j → Memᴰ (get_or xs i d) before)
  split_at d [] j h = absurd (let z : ⊥ = omega arith in z)
  split_at d (x ∷ xs) zero h = ([], xs, refl, (λ i l. absurd (let z : ⊥ = omega arith in z)))
  split_at d (x ∷ xs) (suc j) h =
      let z = split_at d xs j (omega arith) in
      (x ∷ z.0, z.1, ap (λ (w : List A). x ∷ w) z.2, at z.0 z.3)
    where
      at : (before : List A) → ((i : ℕ) → i < j → Memᴰ (get_or xs i d) before) → (i : ℕ) → i < suc j → Memᴰ (get_or (x ∷ xs) i d) (x ∷ before)
      at before f zero l = Memᴰ.head refl
      at before f (suc i) l = Memᴰ.tail (f i (omega arith))

  mem_at : (d : A) {b : A} (before rest : List A) → Memᴰ b before → (i : ℕ) × (i < length before) × (get_or (before ++ rest) i d ≡ b)
  mem_at d [] rest m = absurd (Memᴰ.not-nil m)
  mem_at d {b} (x ∷ before) rest m = by (Memᴰ.cases_cons m) (mem_at d before rest)
    where
      by : (b ≡ x) ⊎ Memᴰ b before → (Memᴰ b before → (i : ℕ) × (i < length before) × (get_or (before ++ rest) i d ≡ b)) →
          (i : ℕ) × (i < length (x ∷ before)) × (get_or ((x ∷ before) ++ rest) i d ≡ b)
      by (inl e) f = (0, omega arith, sym e)
      by (inr k) f = let z = f k in (suc z.0, (let l = z.1 in omega arith), z.2)

  at_split : (d : A) (before after : List A) (x : A) → get_or (before ++ (x ∷ after)) (length before) d ≡ x
  at_split d [] after x = refl
  at_split d (y ∷ before) after x = at_split d before after x

  -- no two agree in f: by places, or by what stands before
  pub apart_none : {B : Type 0} (d : A) (f : A → B) (xs : List A) → Apart d f xs ↔ NoneOf (λ before x. (b : A) × Memᴰ b before × (f b ≡ f x)) [] xs
  apart_none {B} d f xs = (into, back)
    where
      into : Apart d f xs → NoneOf (λ before x. (b : A) × Memᴰ b before × (f b ≡ f x)) [] xs
      into a before after x e y =
          let m = mem_at d before (x ∷ after) y.1 in
          let p : get_or xs m.0 d ≡ y.0 = rw e m.2 in
          let q : get_or xs (length before) d ≡ x = rw e (at_split d before after x) in
          let l : length before < length xs = rw (e, length-append) (omega arith) in
          a m.0 (length before) m.1 l (rw (p, q) y.2)

      back : NoneOf (λ before x. (b : A) × Memᴰ b before × (f b ≡ f x)) [] xs → Apart d f xs
      back n i j h l e = let z = split_at d xs j l in n z.0 z.1 (get_or xs j d) z.2 (get_or xs i d, z.3 i h, e)

module _ {A B : Type 0} (f : A → B) where
  pub mem_map : {x : A} (xs : List A) → Memᴰ x xs → Memᴰ (f x) (map f xs)
  mem_map [] m = absurd (Memᴰ.not-nil m)
  mem_map {x} (y ∷ xs) m = by (Memᴰ.cases_cons m) (mem_map xs)
    where
      by : (x ≡ y) ⊎ Memᴰ x xs → (Memᴰ x xs → Memᴰ (f x) (map f xs)) → Memᴰ (f x) (map f (y ∷ xs))
      by (inl e) g = Memᴰ.head (ap f e)
      by (inr k) g = Memᴰ.tail (g k)

  pub map_mem : {y : B} (xs : List A) → Memᴰ y (map f xs) → (x : A) × Memᴰ x xs × (f x ≡ y)
  map_mem [] m = absurd (Memᴰ.not-nil m)
  map_mem {y} (x ∷ xs) m = by (Memᴰ.cases_cons m) (map_mem xs)
    where
      by : (y ≡ f x) ⊎ Memᴰ y (map f xs) → (Memᴰ y (map f xs) → (z : A) × Memᴰ z xs × (f z ≡ y)) → (z : A) × Memᴰ z (x ∷ xs) × (f z ≡ y)
      by (inl e) g = (x, Memᴰ.head refl, sym e)
      by (inr k) g = let z = g k in (z.0, Memᴰ.tail z.1, z.2)

  pub map_split : (xs : List A) (before after : List B) (y : B) → map f xs ≡ before ++ (y ∷ after) →
      (b : List A) × (x : A) × (a : List A) × (xs ≡ b ++ (x ∷ a)) × (map f b ≡ before) × (f x ≡ y)
  map_split [] [] after y e = absurd (false≢true (cc))
  map_split [] (z ∷ before) after y e = absurd (false≢true (cc))
  map_split (x ∷ xs) [] after y e = ([], x, xs, refl, refl, (cc))
  map_split (x ∷ xs) (z ∷ before) after y e = on (map_split xs before after y (cc))
    where
      on : (b : List A) × (w : A) × (a : List A) × (xs ≡ b ++ (w ∷ a)) × (map f b ≡ before) × (f w ≡ y) →
          (b : List A) × (w : A) × (a : List A) × (x ∷ xs ≡ b ++ (w ∷ a)) × (map f b ≡ z ∷ before) × (f w ≡ y)
      on k = (x ∷ k.0, k.1, k.2, ap (λ (w : List A). x ∷ w) k.3, (let p = k.4 in let q : f x ≡ z = cc in cc), k.5)

  pub split_map : (b a : List A) (x : A) → map f (b ++ (x ∷ a)) ≡ map f b ++ (f x ∷ map f a)
  split_map [] a x = refl
  split_map (y ∷ b) a x = ap (λ (w : List B). f y ∷ w) (split_map b a x)

-- of two lists one after the other
module _ {A : Type 0} (Breaks : List A → A → Type 0) where
  pub none_left : (seen xs ys : List A) → NoneOf Breaks seen (xs ++ ys) → NoneOf Breaks seen xs
  none_left seen xs ys n before after x e = n before (after ++ ys) x (rw (e, append_assoc before (x ∷ after) ys))

  pub none_right : (seen xs ys : List A) → NoneOf Breaks seen (xs ++ ys) → NoneOf Breaks (seen ++ xs) ys
  none_right seen xs ys n before after x e b = n (xs ++ before) after x (rw (e, append_assoc xs before (x ∷ after))) (rw (append_assoc seen xs before) at b)

  pub none_both : (seen xs ys : List A) → NoneOf Breaks seen xs → NoneOf Breaks (seen ++ xs) ys → NoneOf Breaks seen (xs ++ ys)
  none_both seen [] ys n m = rw (append-nil seen) at m
  none_both seen (x ∷ xs) ys n m =
      none_cons Breaks seen x (xs ++ ys) (none_head Breaks seen x xs n)
      (none_both (seen ++ (x ∷ [])) xs ys (none_tail Breaks seen x xs n) (rw (append_assoc seen (x ∷ []) xs) m))
