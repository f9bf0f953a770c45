use mathlib.Core.Path.{refl, sym, ◌∙◌}
use borrow.Author.Tests.{not-true, not-false, le-leb, lt-leb, ltb-true, ltb-false}
use Rattle.page.specs.Section.{content_step, choose}
use Rattle.page.specs.Lines.{clean}
use Rattle.commands.specs.Commands.{code}
use Rattle.commands.specs.declared.command.Command.TheVariants.{Com}
use Rattle.commands.proofs.CodeLaws.{is_command}
use Rattle.machine.proofs.machine.step_content.Goals as goal

pub returns-then-not-all_allowed : goal.returns-then-not-all_allowed
unfolding content_step clean choose
returns-then-not-all_allowed c =
    rw (sym c.of-k.ensures, sym c.is_wide.ensures, sym c.all_allowed.ensures ∙ not-true _ c.if-not-all_allowed.true-raw)

pub returns-then-is_blank : goal.returns-then-is_blank
unfolding content_step clean choose
returns-then-is_blank c =
    rw (sym c.of-k.ensures, sym c.is_wide.ensures, sym c.all_allowed.ensures ∙ not-false _ c.if-not-all_allowed.false-raw, sym c.is_blank.ensures ∙ c.if-is_blank.true)

pub returns-then-not-is_known : goal.returns-then-not-is_known
unfolding content_step clean choose
returns-then-not-is_known c =
    rw (sym c.of-k.ensures, sym c.is_wide.ensures, sym c.all_allowed.ensures ∙ not-false _ c.if-not-all_allowed.false-raw, sym c.is_blank.ensures ∙ c.if-is_blank.false, le-leb 15 (code c.of-k.result) (ltb-false (code c.of-k.result) 15 (sym c.is_known.ensures ∙ not-true _ c.if-not-is_known.true-raw)))

pub returns-then-eq : goal.returns-then-eq
unfolding content_step clean choose
returns-then-eq c =
    rw (sym c.of-k.ensures, sym c.is_wide.ensures, sym c.all_allowed.ensures ∙ not-false _ c.if-not-all_allowed.false-raw, sym c.is_blank.ensures ∙ c.if-is_blank.false, lt-leb 15 (code c.of-k.result) (ltb-true (code c.of-k.result) 15 (sym c.is_known.ensures ∙ not-false _ c.if-not-is_known.false-raw)), sym c.rest_of-w.ensures, sym (is_command _ Com _ _ c.eq.ensures refl) ∙ c.if-eq.true) c.step_com.ensures

pub step_line-requires : goal.step_line-requires
step_line-requires c =
    let y = c.requires in
    (y.0, y.1, rw c.rest_of-w.ensures y.2)

pub returns : goal.returns
unfolding content_step clean choose
returns c =
    rw (sym c.of-k.ensures, sym c.is_wide.ensures, sym c.all_allowed.ensures ∙ not-false _ c.if-not-all_allowed.false-raw, sym c.is_blank.ensures ∙ c.if-is_blank.false, lt-leb 15 (code c.of-k.result) (ltb-true (code c.of-k.result) 15 (sym c.is_known.ensures ∙ not-false _ c.if-not-is_known.false-raw)), sym c.rest_of-w.ensures, sym (is_command _ Com _ _ c.eq.ensures refl) ∙ c.if-eq.false) c.step_line.ensures
