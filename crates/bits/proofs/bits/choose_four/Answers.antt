use Rattle.bits.specs.Bits.{four_of}
use Rattle.bits.proofs.bits.choose_four.Goals as goal

pub returns : goal.returns
unfolding four_of
returns c = rw c.choose_two.ensures
