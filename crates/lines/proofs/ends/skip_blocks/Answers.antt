use mathlib.Core.Path.{sym, ◌∙◌}
use borrow.Author.Tests.{not-false}
use borrow.Author.Rules.{rules}
use Rattle.lines.proofs.RunLaws.{onward_from, onward_more}
use Rattle.lines.proofs.ends.skip_blocks.Goals as goal

pub loop-i-init : goal.loop-i-init
loop-i-init c = onward_from _ _ (search rules)

pub returns-then-not-pass_block : goal.returns-then-not-pass_block
returns-then-not-pass_block c = c.loop-i.invariant

pub loop-i-preserved : goal.loop-i-preserved
loop-i-preserved c =
    let a = c.args in
    let l = c.loop-i in
    onward_more a.s.now a.at l.i 16 l.invariant (search rules) (sym c.pass_block.ensures ∙ not-false _ c.if-not-pass_block.false-raw)

pub returns : goal.returns
returns c = c.loop-i.invariant
