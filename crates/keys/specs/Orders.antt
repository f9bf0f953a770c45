-- Keys in order, and a hash of a key: what it is matters to no proof.
use Rattle.std.specs.Prelude.{Bool, false, List, [], ◌∷◌, ℕ, ◌*◌, ◌/◌, ◌%◌, eqb, ltb}
use Rattle.std.specs.Int.Bits.{bit_xor}
use Rattle.page.specs.Bytes.{pick}

-- by the first place where they differ
unfoldable pub less : List ℕ → List ℕ → Bool
less [] ys = false
less (x ∷ xs) [] = false
less (x ∷ xs) (y ∷ ys) = pick (eqb x y) (less xs ys) (ltb x y)

unfoldable pub mixed : ℕ → ℕ
mixed x = bit_xor (x % 4294967296 * 2654435761) (x / 4294967296 * 2246822519)

unfoldable pub hashed : ℕ → List ℕ → ℕ
hashed h [] = h
hashed h (x ∷ xs) = hashed (mixed (bit_xor h x)) xs
