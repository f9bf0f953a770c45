-- Tables of bits that hashes are put into. Which bits a hash has matters to no proof.
use Rattle.std.specs.Prelude.{ℕ, ◌*◌, ◌/◌, ◌%◌, ◌^◌, ◌≡◌, Bool, true, false, List, get_or}
use Rattle.std.specs.Int.Bits.{bit_and, bit_or}

abbrev bit : ℕ → ℕ
bit p = 1 * 2 ^ p % 18446744073709551616

-- two bits of a word, and four
unfoldable pub two_of : ℕ → ℕ
two_of h = bit_or (bit (h / 268435456 % 64)) (bit (h / 17179869184 % 64))

unfoldable pub four_of : ℕ → ℕ
four_of h = bit_or (bit_or (two_of h) (bit (h / 1099511627776 % 64))) (bit (h / 70368744177664 % 64))

-- the word of n that a hash has
unfoldable pub word_of : ℕ → ℕ → ℕ
word_of h n = h % 1048576 * (n % 4294967296) / 1048576

-- in which of n rounds a hash is looked at
unfoldable pub lane_of : ℕ → ℕ → ℕ
lane_of h n = h / 1125899906842624 % 256 * n / 256

-- all bits of m are set in word i
unfoldable pub In : List ℕ → ℕ → ℕ → Type 0
In t i m = bit_and (get_or t i 0) m ≡ m

-- the bits m of word i were set; r: they were before
pub record Touched (t₀ : List ℕ) (i m : ℕ) (r : Bool) (t : List ℕ) : Type 0 where
  pub keeps : (j n : ℕ) → In t₀ j n → In t j n
  pub holds : In t i m
  pub fresh : r ≡ false → In t₀ i m → ⊥

-- the bits m are set in the two words of a hash, of n words
unfoldable pub Has : List ℕ → ℕ → ℕ → ℕ → Type 0
Has t n h m = In t (word_of h n) m × In t (word_of (h / 256) n) m

-- they were set; r: they were before
pub record Added (t₀ : List ℕ) (n h m : ℕ) (r : Bool) (t : List ℕ) : Type 0 where
  pub keeps : (g k : ℕ) → Has t₀ n g k → Has t n g k
  pub holds : Has t n h m
  pub fresh : r ≡ false → Has t₀ n h m → ⊥

-- r: they are set
pub record Probed (t : List ℕ) (n h m : ℕ) (r : Bool) : Type 0 where
  pub holds : r ≡ true → Has t n h m
  pub absent : r ≡ false → Has t n h m → ⊥
