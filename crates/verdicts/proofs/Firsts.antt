-- The first of a list that breaks a rule: it is one, or none breaks it.
use mathlib.Core.Path.{◌≡◌, refl, ap, sym, ◌∙◌}
use mathlib.Core.Bool.{Bool, false≢true}
use mathlib.Core.List.Memᴰ
use mathlib.Core.List.{List, [], ◌∷◌, ◌++◌, append_assoc, append-nil, Memᴰ}
use mathlib.Core.Logic.{◌⊎◌, inl, inr}
use Rattle.page.specs.File.{any}
use Rattle.verdicts.specs.First.{First, NoneOf}
use Rattle.laws.proofs.Decides.{Decides, fails, when, one_of}

module _ {A : Type 0} (Breaks : List A → A → Type 0) where
  pub none_nil : (seen : List A) → NoneOf Breaks seen []
  none_nil seen [] after x e = absurd (false≢true (cc))
  none_nil seen (y ∷ before) after x e = absurd (false≢true (cc))

  pub onto : (seen : List A) (x : A) (before : List A) → (seen ++ (x ∷ [])) ++ before ≡ seen ++ (x ∷ before)
  onto seen x before = append_assoc seen (x ∷ []) before

  pub none_cons : (seen : List A) (x : A) (xs : List A) → ¬ Breaks seen x → NoneOf Breaks (seen ++ (x ∷ [])) xs → NoneOf Breaks seen (x ∷ xs)
  none_cons seen x xs n k [] after y e b = let z : y ≡ x = cc in n (rw (z, append-nil seen) at b)
  none_cons seen x xs n k (w ∷ before) after y e b =
      let z : w ≡ x = cc in
      let q : xs ≡ before ++ (y ∷ after) = cc in
      k before after y q (rw (onto seen x before) (rw z at b))

  pub none_head : (seen : List A) (x : A) (xs : List A) → NoneOf Breaks seen (x ∷ xs) → ¬ Breaks seen x
  none_head seen x xs k b = k [] xs x refl (rw (append-nil seen) b)

  pub none_tail : (seen : List A) (x : A) (xs : List A) → NoneOf Breaks seen (x ∷ xs) → NoneOf Breaks (seen ++ (x ∷ [])) xs
  none_tail seen x xs k before after y e b = k (x ∷ before) after y (ap (λ (z : List A). x ∷ z) e) (rw (onto seen x before) at b)

  unfoldable pub first_here : (seen : List A) (x : A) (xs : List A) → Breaks seen x → First Breaks seen (x ∷ xs) x
  first_here seen x xs b = record { before = []; after = xs; split = refl; breaks = rw (append-nil seen) b; none_before = none_nil seen }

  unfoldable pub first_later : (seen : List A) (x y : A) (xs : List A) → ¬ Breaks seen x → First Breaks (seen ++ (x ∷ [])) xs y → First Breaks seen (x ∷ xs) y
  first_later seen x y xs n f =
      record {
        before = x ∷ f.before;
        after = f.after;
        split = ap (λ (z : List A). x ∷ z) f.split;
        breaks = rw (onto seen x f.before) at f.breaks;
        none_before = none_cons seen x f.before n f.none_before;
      }

  pub none_first : (seen xs : List A) (x : A) → NoneOf Breaks seen xs → ¬ First Breaks seen xs x
  none_first seen xs x n f = n f.before f.after x f.split f.breaks

-- two ways to part a list at a member
data Parts {A : Type 0} (b c : List A) (x y : A) : Type 0 where
  same : b ≡ c → x ≡ y → Parts b c x y
  left : (d : List A) → b ≡ c ++ (y ∷ d) → Parts b c x y
  right : (d : List A) → c ≡ b ++ (x ∷ d) → Parts b c x y

parts : {A : Type 0} (b c : List A) (x y : A) (d e : List A) → b ++ (x ∷ d) ≡ c ++ (y ∷ e) → Parts b c x y
parts [] [] x y d e h = same refl (cc)
parts [] (z ∷ c) x y d e h = right c (let q : x ≡ z = cc in rw q)
parts (w ∷ b) [] x y d e h = left b (let q : w ≡ y = cc in rw q)
parts {A} (w ∷ b) (z ∷ c) x y d e h = by (parts b c x y d e (cc))
  where
    by : Parts b c x y → Parts (w ∷ b) (z ∷ c) x y
    by (same p q) = let r : w ≡ z = cc in same (cc) q
    by (left f p) = let r : w ≡ z = cc in left f (cc)
    by (right f p) = let r : w ≡ z = cc in right f (cc)

-- there is one first only
pub first_once : {A : Type 0} (Breaks : List A → A → Type 0) (seen xs : List A) (x y : A) (f : First Breaks seen xs x) (g : First Breaks seen xs y) → (f.before ≡ g.before) × (x ≡ y)
first_once Breaks seen xs x y f g = by (parts f.before g.before x y f.after g.after (sym f.split ∙ g.split))
  where
    by : Parts f.before g.before x y → (f.before ≡ g.before) × (x ≡ y)
    by (same p q) = (p, q)
    by (left d p) = absurd (f.none_before g.before d y p g.breaks)
    by (right d p) = absurd (g.none_before f.before d x p f.breaks)

-- a test on some member
pub any_d : {A : Type 0} {P : A → Type 0} (p : A → Bool) (xs : List A) → ((x : A) → Memᴰ x xs → Decides (P x) (p x)) → Decides ((x : A) × Memᴰ x xs × P x) (any p xs)
unfolding any
any_d p [] d = fails (λ m. Memᴰ.not-nil m.1)
any_d {A} {P} p (x ∷ xs) d = when into back (one_of (d x (Memᴰ.head refl)) (any_d p xs (λ y m. d y (Memᴰ.tail m))))
  where
    into : P x ⊎ ((y : A) × Memᴰ y xs × P y) → (y : A) × Memᴰ y (x ∷ xs) × P y
    into (inl h) = (x, Memᴰ.head refl, h)
    into (inr m) = (m.0, Memᴰ.tail m.1, m.2)

    by : (y : A) → P y → (y ≡ x) ⊎ Memᴰ y xs → P x ⊎ ((y : A) × Memᴰ y xs × P y)
    by y h (inl e) = inl (rw e at h)
    by y h (inr k) = inr (y, k, h)

    back : (y : A) × Memᴰ y (x ∷ xs) × P y → P x ⊎ ((y : A) × Memᴰ y xs × P y)
    back m = by m.0 m.2 (Memᴰ.cases_cons m.1)
