-- A word's place in a list of names. Assumes nothing.
use mathlib.Core.Path.{◌≡◌, refl, sym}
use mathlib.Core.Logic.{⊎_elim}
use mathlib.Core.Bool.{Bool, true, false, ◌&&◌}
use mathlib.Core.List.{List, [], ◌∷◌}
use Prim.Native.Nat.{ℕ, zero, suc, ◌+◌, ◌-◌, ◌<◌, ◌≤◌}
use Prim.Native.String.{String, [] as ε}
use native.Mathlib.Nat.{eq-or-lt_of_le, le_of_suc-le-suc}
use native.Mathlib.Numerals.{add-one}
use native.Mathlib.Omega.{arith}
use lib.ListN.{length, get_or, drop, drop_of_length-le}
use lib.Seq.{drop-cons}
use Rattle.page.specs.Bytes.{Bytes, bytes, pick, same}
use Rattle.page.specs.Lines.{find}
use Rattle.page.proofs.TestLaws.{and_left, and_right, same_true}

-- a test that each number below n passes
unfoldable pub below : (ℕ → Bool) → ℕ → Bool
below p zero = true
below p (suc n) = p n && below p n

pub below_at : (p : ℕ → Bool) (n : ℕ) → below p n ≡ true → (k : ℕ) → k < n → p k ≡ true
unfolding below
below_at p zero e k h = absurd (omega arith)
below_at p (suc n) e k h =
    ⊎_elim (λ (q : k ≡ n). rw q (and_left (p n) (below p n) e)) (λ (l : k < n). below_at p n (and_right (p n) (below p n) e) k l) (eq-or-lt_of_le (le_of_suc-le-suc h))

-- the place of a word in a list of names

either : (b : Bool) (m n lo hi : ℕ) → (lo ≤ m) × (m ≤ hi) → (lo ≤ n) × (n ≤ hi) → (lo ≤ pick b m n) × (pick b m n ≤ hi)
either true m n lo hi h k = h
either false m n lo hi h k = k

pub find_within : (i : ℕ) (ks : List String) (w : Bytes) → (i ≤ find i ks w) × (find i ks w ≤ i + length ks)
unfolding find
find_within i [] w = (omega arith, omega arith)
find_within i (k ∷ ks) w =
    let f = find_within (suc i) ks w in
    either (same w (bytes k)) i (find (suc i) ks w) i (i + suc (length ks)) (omega arith, omega arith) (omega arith, omega arith)

-- where a word is found, it stands
pub found : (i : ℕ) (ks : List String) (w : Bytes) → find i ks w < i + length ks → bytes (get_or ks (find i ks w - i) ε) ≡ w
unfolding find
found i [] w h = absurd (omega arith)
found i (k ∷ ks) w h = go (same w (bytes k)) refl h (found (suc i) ks w)
  where
    go : (b : Bool) → same w (bytes k) ≡ b → pick b i (find (suc i) ks w) < i + suc (length ks)
        → (find (suc i) ks w < suc i + length ks → bytes (get_or ks (find (suc i) ks w - suc i) ε) ≡ w)
        → bytes (get_or (k ∷ ks) (pick b i (find (suc i) ks w) - i) ε) ≡ w
    go true e l further =
        let z : i - i ≡ 0 = omega arith in
        rw z (sym (same_true w (bytes k) e))
    go false e l further =
        let z : find (suc i) ks w - i ≡ suc (find (suc i) ks w - suc i) = omega (arith, find_within (suc i) ks w) in
        rw z (further (omega arith))

-- one name after the other
module _ (ks : List String) (w : Bytes) (i t : ℕ) where
  pub find_hit : t < length ks → same w (bytes (get_or ks t ε)) ≡ true → find i (drop t ks) w ≡ i
  unfolding find
  find_hit h e = rw (drop-cons ks t ε h, e)

  pub find_more : t < length ks → same w (bytes (get_or ks t ε)) ≡ false → find i (drop t ks) w ≡ find (i + 1) (drop (t + 1) ks) w
  unfolding find
  find_more h e = rw (add-one i, add-one t, drop-cons ks t ε h, e)

  pub find_none : length ks ≤ t → find i (drop t ks) w ≡ i
  unfolding find
  find_none h = rw (drop_of_length-le ks h)
