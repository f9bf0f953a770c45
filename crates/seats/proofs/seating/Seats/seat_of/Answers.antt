use native.Mathlib.Omega.{arith}
use Rattle.std.proofs.lemmas.Grind.{common_steps}
use mathlib.Core.Path.{◌≡◌, refl}
use Rattle.seats.specs.Seating.{seat_at}
use lib.ListN.{get_or}
use Rattle.seats.proofs.seating.Seats.seat_of.Goals as goal

pub returns : goal.returns
unfolding seat_at
returns c =
    let k : c.in_ok-k.field-0.now ≡ get_or c.args.self.now.place c.args.table 0 = grind (arith, common_steps) in
    rw k (omega arith, refl)
