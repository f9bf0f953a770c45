-- The bytes of a section in which a key may repeat.
use Rattle.std.specs.Prelude.{◌-◌, take, drop}
use Rattle.page.specs.Bytes.{Bytes}
use Rattle.choices.specs.declared.Choice.{Choice}
use Rattle.seats.specs.declared.seating.Seat.{Seat}
use Rattle.seats.specs.Faults.{scan_end}

unfoldable pub scan_part : Bytes → Seat → Choice → Bytes
scan_part s a q = take (scan_end a q - a.from) (drop a.from s)
