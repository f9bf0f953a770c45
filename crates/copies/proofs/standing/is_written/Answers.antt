use Rattle.std.proofs.Common.{◌≡◌, ◌≤◌, ◌-◌, arith, length, get_or}
use lib.ListN.{get_or-eq_default}
use borrow.Author.Tests.{ne_eqb}
use Rattle.copies.specs.Parts.{stands}
use Rattle.copies.proofs.standing.is_written.Goals as goal

pub returns-then-is_empty : goal.returns-then-is_empty
unfolding stands
returns-then-is_empty c =
    let f = c.args.f.now in
    let none : length f ≤ 0 = grind arith in
    rw (get_or-eq_default f 0 none)

pub returns-in-45 : goal.returns-in-45
unfolding stands
returns-in-45 c = rw c.in-45.is

pub returns-in-48 : goal.returns-in-48
unfolding stands
returns-in-48 c = rw c.in-48.is

pub returns-then-f-eq1 : goal.returns-then-f-eq1
unfolding stands
returns-then-f-eq1 c =
    let f = c.args.f.now in
    let n : length f - 2 ≡ 0 = omega arith in
    rw (n, c.in-34.is, c.if-f-eq1.true)

pub returns-else-f-eq1 : goal.returns-else-f-eq1
unfolding stands
returns-else-f-eq1 c = rw c.in-34.is

pub returns-in_default : goal.returns-in_default
unfolding stands
returns-in_default c =
    let b = get_or c.args.f.now 0 0 in
    let x : b ≡ 45 → ⊥ = λ e. omega arith in
    let y : b ≡ 48 → ⊥ = λ e. omega arith in
    let z : b ≡ 34 → ⊥ = λ e. omega arith in
    rw (ne_eqb b 45 x, ne_eqb b 48 y, ne_eqb b 34 z)
