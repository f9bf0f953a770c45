-- A section's lines by their numbers, in rounds by the hash of their keys.
use Rattle.std.specs.Prelude.{◌≡◌, Bool, true, false, List, [], ◌⊎◌, ℕ, ◌<◌, ◌≤◌, length, get_or, take}
use Rattle.page.specs.Bytes.{Bytes}
use Rattle.choices.specs.declared.Choice.{Choice}
use Rattle.keys.specs.Orders.{hashed}
use Rattle.scans.specs.Scan.{is_record, line_key, again}
use Rattle.bits.specs.Bits.{two_of, four_of, lane_of, Has}

-- line m is a record whose key stands before it
unfoldable pub again_at : Choice → List Bytes → ℕ → Bool
again_at q ls m = again q (take m ls) (get_or ls m [])

unfoldable pub hash_of : Choice → Bytes → ℕ
hash_of q l = hashed 0 (line_key q l)

abbrev pub hash_at : Choice → List Bytes → ℕ → ℕ
hash_at q ls m = hash_of q (get_or ls m [])

-- e is the first line before `last`, of those in round r of n, whose key stands before it; or it is `last`
pub record Round (q : Choice) (ls : List Bytes) (r n last e : ℕ) : Type 0 where
  pub within : e ≤ last
  pub hit : e < last → (e < length ls) × (again_at q ls e ≡ true)
  pub clear : (m : ℕ) → m < e → m < length ls → lane_of (hash_at q ls m) n ≡ r → again_at q ls m ≡ false

-- a hash in the table of all records of a round, of nt words; and in that of the doubtful ones, of na words
abbrev pub Crowded : ℕ → List ℕ → ℕ → Type 0
Crowded nt t h = Has t nt h (two_of h)

abbrev pub Doubtful : ℕ → List ℕ → ℕ → Type 0
Doubtful na a h = Has a na h (four_of h)

-- what is wanted is put into a table of n words, by the bits m of its hash h; b: they may have been set before
pub record Sieved (wanted : Type 0) (n h m : ℕ) (t₀ : List ℕ) (b : Bool) (t : List ℕ) : Type 0 where
  pub keeps : (g k : ℕ) → Has t₀ n g k → Has t n g k
  pub holds : wanted → Has t n h m
  pub fresh : b ≡ false → wanted → Has t₀ n h m → ⊥

-- a line with the hash h, if it is a record of round r of n, is in the table of all; b: it is put among the doubtful ones
pub record MarkedLine (l : Bytes) (h r n nt : ℕ) (t₀ t : List ℕ) (na : ℕ) (a₀ : List ℕ) (b : Bool) (a : List ℕ) : Type 0 where
  pub crowd : Sieved ((lane_of h n ≡ r) × (is_record l ≡ true)) nt h (two_of h) t₀ b t
  pub keeps : (g k : ℕ) → Has a₀ na g k → Has a na g k
  pub holds : b ≡ true → Doubtful na a h

-- each line of round r of n before `last` is new or doubtful; b: some may be doubtful
pub record Doubted (q : Choice) (ls : List Bytes) (r n last na : ℕ) (a : List ℕ) (b : Bool) : Type 0 where
  pub each :
      (m : ℕ) → m < last → m < length ls → lane_of (hash_at q ls m) n ≡ r
      → (again_at q ls m ≡ false) ⊎ ((b ≡ true) × Doubtful na a (hash_at q ls m))

-- a line with the hash h, if it is doubtful, is in the table of those passed
abbrev pub SettledLine : ℕ → ℕ → List ℕ → ℕ → List ℕ → Bool → List ℕ → Type 0
SettledLine h na a nt t₀ b t = Sieved (Doubtful na a h) nt h (four_of h) t₀ b t

-- e is the first doubtful line before `last` whose key stands before it; or it is `last`
pub record Settled (q : Choice) (ls : List Bytes) (na : ℕ) (a : List ℕ) (last e : ℕ) : Type 0 where
  pub within : e ≤ last
  pub hit : e < last → (e < length ls) × (again_at q ls e ≡ true)
  pub clear : (m : ℕ) → m < e → m < length ls → Doubtful na a (hash_at q ls m) → again_at q ls m ≡ false
