use mathlib.Core.Path.{◌≡◌, sym, ◌∙◌}
use mathlib.Core.Bool.{false}
use Prim.Native.Nat.{◌-◌}
use native.Mathlib.Omega.{arith}
use borrow.Author.Tests.{eqb-true}
use lib.ListN.{drop}
use Rattle.page.specs.Bytes.{all}
use Rattle.page.specs.Fields.{field_size}
use Rattle.page.proofs.TestLaws.{false_true}
use Rattle.page.proofs.FieldLaws.{field_end}
use Rattle.digits.proofs.RunLaws.{run_told, run_clean, space_in, number_none}
use Rattle.digits.proofs.walk.number_at.Goals as goal

pub returns-then-w-at : goal.returns-then-w-at
unfolding all
returns-then-w-at c =
    let a = c.args in
    let z : field_size false (drop a.at a.w.now) ≡ 0 = field_end false a.w.now a.at c.if-w-at.true in
    let n : a.at - a.at ≡ 0 = omega arith in
    (omega arith, sym (rw z (number_none (drop a.at a.w.now))), λ e wide. rw n)

pub digits_at-d-requires : goal.digits_at-d-requires
digits_at-d-requires c = rw c.skip_space-from.ensures (space_in c.args.w.now c.args.at c.if-w-at.false)

pub returns-then-ends_at : goal.returns-then-ends_at
returns-then-ends_at c =
    let a = c.args in
    let d = c.digits_at-d in
    let s = c.skip_space-from in
    let h = c.if-w-at.false in
    let x = run_told a.w.now a.at s.result d.result.to d.result.value h s.ensures d.ensures (eqb-true _ 0 (sym c.ends_at.ensures ∙ c.if-ends_at.true)) in
    (x.0, c.number_of.ensures ∙ x.1, λ e wide. run_clean a.w.now a.at s.result d.result.to d.result.value h s.ensures d.ensures wide)

pub returns : goal.returns
returns c = let x = c.number_slowly.ensures in (x.0, x.1, λ e wide. false_true (sym x.2 ∙ e))
