use Rattle.bits.specs.Bits.{two_of}
use mathlib.Core.Path.{refl}
use Rattle.bits.proofs.bits.choose_two.Goals as goal

pub returns : goal.returns
unfolding two_of
returns c = refl
