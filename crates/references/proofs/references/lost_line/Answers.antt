use Rattle.seats.proofs.RepeatLaws.{seat_bounds}
use Rattle.references.proofs.references.lost_line.Goals as goal

pub overflow_sub-seat : goal.overflow_sub-seat
overflow_sub-seat c = (seat_bounds _ _ c.requires.0 c.args.i c.requires.1 _ c.seat-seat.ensures).0
