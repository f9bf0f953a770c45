use native.Mathlib.Omega.{arith}
use borrow.Author.Tests.{ne_eqb}
use mathlib.Core.Path.{◌≡◌}
use Rattle.aims.specs.Aims.{aim_at}
use Rattle.aims.proofs.Aims.aim.Goals as goal

pub returns-in-0 : goal.returns-in-0
unfolding aim_at
returns-in-0 c = rw c.in-0.is

pub returns-in-1 : goal.returns-in-1
unfolding aim_at
returns-in-1 c = rw c.in-1.is

pub returns-in_default : goal.returns-in_default
unfolding aim_at
returns-in_default c =
    let a : c.args.r ≡ 0 → ⊥ = omega arith in
    let b : c.args.r ≡ 1 → ⊥ = omega arith in
    rw (ne_eqb c.args.r 0 a, ne_eqb c.args.r 1 b)
