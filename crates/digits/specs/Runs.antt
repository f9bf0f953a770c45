-- A field at its place in a line, and a run of digits in it.
use Rattle.std.specs.Prelude.{◌≡◌, true, false, ℕ, ◌+◌, ◌-◌, ◌^◌, ◌<◌, ◌≤◌, length, take, drop}
use Rattle.page.specs.Bytes.{Bytes, all, trim}
use Rattle.page.specs.Fields.{field_size, digit, value}

-- the field that begins at a place, without the spaces around it
abbrev pub field_from : Bytes → ℕ → Bytes
field_from w at = trim (take (field_size false (drop at w)) (drop at w))

-- the bytes between two places are at most 18 digits, worth v
pub record Run (w : Bytes) (from to v : ℕ) : Type 0 where
  pub begins : from ≤ to
  pub few : to ≤ from + 18
  pub within : to ≤ length w
  pub small : v < 10 ^ (to - from)
  pub plain : all digit (take (to - from) (drop from w)) ≡ true
  pub worth : value 0 (take (to - from) (drop from w)) ≡ v
