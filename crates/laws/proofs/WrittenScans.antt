-- Tests over bytes, and two tests at once. Assumes nothing.
use mathlib.Core.Path.{◌≡◌, refl, sym, ◌∙◌}
use mathlib.Core.Bool.{Bool, true, false, false≢true}
use mathlib.Core.List.{[], ◌∷◌, ◌++◌}
use Prim.Native.Nat.{ℕ, ◌<◌}
use native.Mathlib.Omega.{arith}
use lib.Dec.{eqb}
use lib.ListN.{length, get_or}
use borrow.Author.Tests.{ne_eqb}
use Rattle.page.specs.Bytes.{Bytes, all}
use Rattle.page.proofs.TestLaws.{and_left, and_right}

pub all_mono : (f g : ℕ → Bool) → ((b : ℕ) → f b ≡ true → g b ≡ true) → (w : Bytes) → all f w ≡ true → all g w ≡ true
unfolding all
all_mono f g m [] h = refl
all_mono f g m (b ∷ w) h = rw (m b (and_left (f b) (all f w) h)) (all_mono f g m w (and_right (f b) (all f w) h))

pub all_append : (f : ℕ → Bool) (v w : Bytes) → all f v ≡ true → all f w ≡ true → all f (v ++ w) ≡ true
unfolding all
all_append f [] w h k = k
all_append f (b ∷ v) w h k = rw (and_left (f b) (all f v) h) (all_append f v w (and_right (f b) (all f v) h) k)

pub all_left : (f : ℕ → Bool) (v w : Bytes) → all f (v ++ w) ≡ true → all f v ≡ true
unfolding all
all_left f [] w h = refl
all_left f (b ∷ v) w h = rw (and_left (f b) (all f (v ++ w)) h) (all_left f v w (and_right (f b) (all f (v ++ w)) h))

-- two bytes differ where a test tells them apart
pub differ : (f : ℕ → Bool) (b c : ℕ) → f b ≡ true → f c ≡ false → eqb b c ≡ false
differ f b c h k = ne_eqb b c (λ (q : b ≡ c). false≢true (sym k ∙ rw (← q) h))

-- the first of bytes with more behind them
pub first_append : (v w : Bytes) (d : ℕ) → 0 < length v → get_or (v ++ w) 0 d ≡ get_or v 0 d
first_append [] w d h = absurd (omega arith)
first_append (b ∷ v) w d h = refl
