use mathlib.Core.Path.{◌≡◌, ◌∙◌}
use native.Mathlib.Omega.{arith}
use lib.ListN.{take}
use Rattle.std.proofs.Common.{rules}
use Rattle.page.specs.Order.{upto}
use Rattle.page.specs.Tables.{WIDEST, width}
use Rattle.page.proofs.TableLaws.{width_le}
use Rattle.arrangement.proofs.OrderLaws.{listed_held}
use Rattle.arrangement.proofs.is_listed.Goals as goal

pub shared_ref_as_front-eq : goal.shared_ref_as_front-eq
shared_ref_as_front-eq c = omega (arith, width_le c.args.t)

pub returns : goal.returns
unfolding upto
returns c = λ e.
    let z : take (width c.args.t) c.args.o.now ≡ take (width c.args.t) (upto 0 WIDEST) = search rules in
    z ∙ listed_held c.args.t
