use mathlib.Core.Path.{◌≡◌, refl}
use mathlib.Core.Bool.{true}
use Rattle.page.specs.Records.{Record}
use Rattle.page.specs.declared.Stays.{Stays}
use Rattle.page.specs.declared.Stays.TheVariants as St
use Rattle.copies.specs.Changed.{stays_in}
use Rattle.copies.proofs.plan.does_stay.Goals as goal

all_stay : (x : Stays) (vs : Record) → true ≡ stays_in x vs
unfolding stays_in
all_stay St.All vs = refl

pub returns : goal.returns
returns c = λ vs. all_stay _ vs
