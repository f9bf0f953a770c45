use mathlib.Core.Path.{refl}
use Rattle.seats.specs.Seating.{seat_at}
use Rattle.seats.proofs.seating.Seats.seat.Goals as goal

pub returns : goal.returns
unfolding seat_at
returns c = refl
