-- What a line leads to, without the order.
use Rattle.std.specs.Prelude.{ℕ, Err, Ok, Result}
use Rattle.page.specs.declared.Phase.{Phase}
use Rattle.machine.specs.declared.machine.Moved.{Moved}

abbrev pub phase_of : Result Moved ℕ → Result Phase ℕ
phase_of (Ok m) = Ok m.phase
phase_of (Err v) = Err v
