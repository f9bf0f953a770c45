use Rattle.bits.specs.Bits.{lane_of}
use Rattle.bits.proofs.bits.find_lane.Goals as goal

pub returns : goal.returns
unfolding lane_of
returns c = rw c.from.ensures
