use mathlib.Core.Path.{ap, ◌∙◌}
use native.Mathlib.Omega.{arith}
use Rattle.page.specs.Fields.{value}
use Rattle.page.specs.Dates.{number_in}
use Rattle.dates.proofs.PlaceLaws.{cut_length}
use Rattle.dates.proofs.places.number_at.Goals as goal

pub value_of-requires : goal.value_of-requires
value_of-requires c = rw c.cut_out.ensures (omega (arith, cut_length c.args.f.now c.args.at c.args.n))

pub returns : goal.returns
unfolding number_in
returns c = c.value_of.ensures ∙ ap (value 0) c.cut_out.ensures
