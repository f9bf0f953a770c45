-- The fields of a line, one after the other: w is what stands after its first `;`.
use Rattle.std.specs.Prelude.{◌≡◌, ◌∷◌, Option, None, Some, false, ℕ, ◌+◌, ◌<◌, ◌≤◌, length, take, drop}
use Rattle.page.specs.Bytes.{Bytes, trim}
use Rattle.page.specs.Fields.{field_size}
use Rattle.page.proofs.FieldLaws.{from}
use Rattle.commands.specs.declared.fields.Field.{Field}
use Rattle.commands.specs.declared.fields.Fields.{Fields}

-- the field of w at a place, and the place behind what ends it
pub record FieldAt (w : Bytes) (i : ℕ) (f : Field) (next : ℕ) : Type 0 where
  pub before : i ≤ length w
  pub at : f.at ≡ i
  pub bytes : f.bytes.now ≡ take (field_size false (drop i w)) (drop i w)
  pub next_is : next ≡ i + field_size false (drop i w) + 1
  pub long : i + length f.bytes.now + 1 ≡ next
  pub within : next ≤ length w + 1
  pub cut : from w i ≡ trim f.bytes.now ∷ from w next

-- a call gave the field at the place that the iterator had come to, or found none there
abbrev pub GivesField : Fields → Option Field → Fields → Type 0
GivesField x None y = (y.bytes.now ≡ x.bytes.now) × (y.at ≡ x.at) × (length x.bytes.now < x.at)
GivesField x (Some f) y = (y.bytes.now ≡ x.bytes.now) × FieldAt x.bytes.now x.at f y.at
