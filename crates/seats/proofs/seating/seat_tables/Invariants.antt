use Rattle.std.proofs.Common.{◌≡◌}
use Rattle.seats.specs.Seating.{Stating}
use Rattle.seats.proofs.SeatLaws.{Going}
use Rattle.seats.proofs.seating.seat_tables.Given as goal

abbrev pub invariant-loop-section : goal.invariant-loop-section
invariant-loop-section l =
    (l.section-iterator.bytes.now ≡ l.s) × Going l.s l.count l.section-iterator.at l.seats l.place × Stating l.s l.count l.seats
