use Rattle.keys.specs.Orders.{mixed}
use mathlib.Core.Path.{refl}
use Rattle.keys.proofs.key.mix.Goals as goal

pub returns : goal.returns
unfolding mixed
returns c = refl
