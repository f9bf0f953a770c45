-- Digits read as one answer: that they are 1 to 18 digits, and what they are worth.
use Rattle.std.specs.Prelude.{None, Option, Some, ℕ}
use Rattle.page.specs.Bytes.{Bytes, pick}
use Rattle.page.specs.Fields.{digits, value}

unfoldable pub magnitude_of : Bytes → Option ℕ
magnitude_of ds = pick (digits ds) (Some (value 0 ds)) None
