use Rattle.seats.specs.Faults.{repeat_number}
use Rattle.repeats.proofs.repeats.repeat_number.Goals as goal

pub returns-then-second : goal.returns-then-second
unfolding repeat_number
returns-then-second c =
    rw c.if-second.true

pub returns-else-second : goal.returns-else-second
unfolding repeat_number
returns-else-second c =
    rw c.if-second.false
