use mathlib.Core.Path.{sym, ◌∙◌}
use Prim.Native.Nat.{◌≤◌}
use native.Mathlib.Omega.{arith}
use borrow.Author.Tests.{eqb-true}
use lib.ListN.{length}
use lib.Seq.{length-take-le}
use Rattle.commands.specs.declared.command.Command.TheVariants.{Rec}
use Rattle.commands.proofs.CodeLaws.{is_command}
use Rattle.page.specs.Lines.{semicolon, command}
use Rattle.page.proofs.TestLaws.{false_true}
use Rattle.page.proofs.ScanLaws.{until_le}
use Rattle.arrangement.specs.Orders.{held}
use Rattle.passing.proofs.PassLaws.{other_step}
use Rattle.passing.proofs.passes_other.Goals as goal
use Rattle.passing.proofs.passes_other.Goals.{then-eq, else-eq}

pub slice_bounds-all_allowed-end : goal.slice_bounds-all_allowed-end
slice_bounds-all_allowed-end c =
    let a = c.args.c.now in
    let h : c.find_semicolon.result ≤ length a = omega (arith, c.find_semicolon.ensures, until_le semicolon a) in
    sym (length-take-le _ _ h)

pub returns-then-all_allowed : goal.returns-then-all_allowed
returns-then-all_allowed c =
    let a = c.args in
    elim c.if-eq.branch [
      | then-eq w ↦
          let k = eqb-true (command a.c.now) 11 (sym (is_command _ Rec _ _ c.eq.ensures c.of.ensures) ∙ w.if-eq.true) in
          let g = sym w.all_allowed.ensures ∙ sym w.value-is ∙ c.if-all_allowed.true in
          λ e n. other_step a.c.now k a.latin a.t (held a.t a.o.now) a.m n (rw w.find_semicolon.ensures at g) (rw c.rest_of.ensures at (sym c.passes.ensures ∙ e))
      | else-eq w ↦ false_true (sym w.if-eq.false ∙ sym w.value-is ∙ c.if-all_allowed.true)
    ]
