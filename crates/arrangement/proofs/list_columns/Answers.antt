use mathlib.Core.Path.{refl}
use Rattle.page.specs.Order.{upto}
use Rattle.arrangement.proofs.list_columns.Goals as goal

pub returns : goal.returns
unfolding upto
returns c = refl
