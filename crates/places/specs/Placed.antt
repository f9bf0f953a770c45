-- A record's place among its section's bytes.
use Rattle.std.specs.Prelude.{◌≡◌, ◌-◌, ◌≤◌, length, take, drop}
use Rattle.page.specs.Bytes.{Bytes}
use Rattle.page.specs.Places.{Standing}
use Rattle.places.specs.declared.Place.{Place}

-- r is where a record's fields stand in s, up to their line's end, and the field of the mark that waits for it
pub record Placed (s : Bytes) (x : Standing) (r : Place) : Type 0 where
  pub at : r.from ≡ x.at
  pub order : r.from ≤ r.to
  pub within : r.to ≤ length s
  pub rest : take (r.to - r.from) (drop r.from s) ≡ x.rest
  pub mark : r.mark ≡ x.mark
