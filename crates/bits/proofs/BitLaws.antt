-- Bits that are set stay set: what a table of bits says of the hashes put there. Assumes nothing.
use Prim.Native.Nat.{ℕ, ◌*◌, ◌/◌, ◌%◌, ◌<◌, ◌≤◌, min, max}
use mathlib.Core.Path.{◌≡◌, refl}
use mathlib.Core.Bool.{Bool, true, false}
use mathlib.Core.List.{List}
use mathlib.Core.Logic.{◌⊎◌, ⊎_elim}
use native.Mathlib.Omega.{arith}
use native.Mathlib.Nat.{mul-le-mul_right, div-lt_iff_lt-mul}
use borrow.Author.Tests.{eqb-true, eqb-false}
use lib.ListN.{length, get_or, set}
use lib.Seq.{get_or-set_same, get_or-set_other}
use lib.Dec.{eqb}
use lib.Arith.{bin_ind}
use lib.Bits.{bit_and, bit_or, and_step, or_step, and_zero_r, and_self, or_comm}
use Rattle.bits.specs.Bits.{In, Touched, Has, Added, Probed, word_of, lane_of}

-- m lies in x, so it lies in x with more bits
and_more : (m x y : ℕ) → bit_and x m ≡ m → bit_and (bit_or x y) m ≡ m
and_more =
    bin_ind (λ (m : ℕ). (x y : ℕ) → bit_and x m ≡ m → bit_and (bit_or x y) m ≡ m) (λ x y e. and_zero_r (bit_or x y))
    (λ m ih x y e.
    let a = and_step x m in
    let o = or_step x y in
    let half : bit_and (x / 2) (m / 2) ≡ m / 2 = omega arith in
    let low : min (x % 2) (m % 2) ≡ m % 2 = omega arith in
    let i = ih (x / 2) (y / 2) half in
    let oh : bit_or x y / 2 ≡ bit_or (x / 2) (y / 2) = omega arith in
    let ol : bit_or x y % 2 ≡ max (x % 2) (y % 2) = omega arith in
    let s = rw (oh, ol) at (and_step (bit_or x y) m) in
    omega arith)

and_own : (m x : ℕ) → bit_and (bit_or x m) m ≡ m
and_own m x = rw (or_comm x m) (and_more m m x (and_self m))

by_same : {G : Type 0} (v w : ℕ) → (v ≡ w → G) → ((v ≡ w → ⊥) → G) → G
by_same {G} v w f g = go (eqb v w) refl
  where
    go : (b : Bool) → eqb v w ≡ b → G
    go true e = f (eqb-true v w e)
    go false e = g (eqb-false v w e)

pub touched : (t : List ℕ) (i m : ℕ) → i < length t → Touched t i m (eqb (bit_and (get_or t i 0) m) m) (set t i (bit_or (get_or t i 0) m))
unfolding In
touched t i m l =
    record {
      keeps = λ j n h.
          by_same j i
          (λ e. rw (e, get_or-set_same t i (bit_or (get_or t i 0) m) 0 l) (and_more n (get_or t i 0) m (rw e at h)))
          (λ d. rw (get_or-set_other t i j (bit_or (get_or t i 0) m) 0 d) h);
      holds = rw (get_or-set_same t i (bit_or (get_or t i 0) m) 0 l) (and_own m (get_or t i 0));
      fresh = λ f h. eqb-false _ _ f h;
    }

pub word_lt : (h n : ℕ) → 0 < n → word_of h n < n
unfolding word_of
word_lt h n p =
    let x = h % 1048576 in
    let k = n % 4294967296 in
    let b : x ≤ 1048575 = omega arith in
    let q : x * k ≤ 1048575 * k = mul-le-mul_right k b in
    (div-lt_iff_lt-mul (let z : 0 < 1048576 = omega arith in z)).1 (omega arith)

pub lane_lt : (h n : ℕ) → 0 < n → lane_of h n < n
unfolding lane_of
lane_lt h n p =
    let x = h / 1125899906842624 % 256 in
    let b : x ≤ 255 = omega arith in
    let q : x * n ≤ 255 * n = mul-le-mul_right n b in
    (div-lt_iff_lt-mul (let z : 0 < 256 = omega arith in z)).1 (omega arith)

module _ (n h m : ℕ) where
  -- its words, by other names
  module _ (i : ℕ) (u : i ≡ word_of h n) where
    pub probed_first : (t : List ℕ) → (bit_and (get_or t i 0) m ≡ m → ⊥) → Probed t n h m (eqb (bit_and (get_or t i 0) m) m)
    unfolding Has In
    probed_first t d = record { holds = λ e. absurd (d (eqb-true _ _ e)); absent = λ e x. d (rw u x.0) }

    module _ (j : ℕ) (v : j ≡ word_of (h / 256) n) where
      pub probed : (t : List ℕ) → bit_and (get_or t i 0) m ≡ m → Probed t n h m (eqb (bit_and (get_or t j 0) m) m)
      unfolding Has In
      probed t d = record { holds = λ e. (rw (← u) d, rw (← v) (eqb-true _ _ e)); absent = λ e x. eqb-false (bit_and (get_or t j 0) m) m e (rw v x.1) }

      pub added :
          (t₀ t₁ t : List ℕ) (a b r : Bool) → Touched t₀ i m a t₁ → Touched t₁ j m b t → (r ≡ false → (a ≡ false) ⊎ (b ≡ false)) → Added t₀ n h m r t
      unfolding Has
      added t₀ t₁ t a b r p q f =
          record {
            keeps = λ g k x. (q.keeps _ _ (p.keeps _ _ x.0), q.keeps _ _ (p.keeps _ _ x.1));
            holds = (rw (← u) (q.keeps _ _ p.holds), rw (← v) q.holds);
            fresh = λ x y. ⊎_elim (λ z. p.fresh z (rw u y.0)) (λ z. q.fresh z (rw v (p.keeps _ _ y.1))) (f x);
          }
