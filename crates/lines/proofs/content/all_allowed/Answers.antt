use mathlib.Core.Path.{refl, sym, ◌∙◌}
use native.Mathlib.Omega.{arith}
use borrow.Author.Tests.{not-true, not-false}
use borrow.Author.Rules.{rules}
use Rattle.page.specs.Bytes.{all}
use Rattle.page.specs.Lines.{allowed}
use Rattle.lines.proofs.RunLaws.{all_part, all_cover, all_whole}
use Rattle.lines.proofs.content.all_allowed.Goals as goal

pub returns-then-n-lt16 : goal.returns-then-n-lt16
returns-then-n-lt16 c = c.few_allowed.ensures

pub loop-i-init : goal.loop-i-init
unfolding all
loop-i-init c = (search rules, refl)

pub returns-then-not-pass_block : goal.returns-then-not-pass_block
returns-then-not-pass_block c =
    let a = c.args in
    sym (all_part (allowed a.wide) a.c.now c.min-at.result 16 (sym c.pass_block.ensures ∙ not-true _ c.if-not-pass_block.true-raw))

pub loop-i-preserved : goal.loop-i-preserved
loop-i-preserved c =
    let a = c.args in
    let l = c.loop-i in
    let r = c.min-at in (
      search rules,
      all_cover (allowed a.wide) a.c.now r.result l.i 16 (omega arith) l.invariant.1 (sym c.pass_block.ensures ∙ not-false _ c.if-not-pass_block.false-raw),
    )

pub returns : goal.returns
returns c =
    let a = c.args in
    let l = c.loop-i in
    sym (all_whole (allowed a.wide) a.c.now l.i (search rules) l.invariant.1)
