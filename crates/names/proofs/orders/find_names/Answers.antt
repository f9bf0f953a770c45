use mathlib.Core.Path.{◌≡◌, ap, sym, ◌∙◌}
use borrow.Author.Rules.{rules}
use borrow.Author.Tests.{eqb-true, eqb-false}
use Rattle.page.specs.Lines.{content, command, rest}
use Rattle.names.proofs.ToldLaws.{atr_here, atr_later, atr_none}
use Rattle.names.proofs.orders.find_names.Goals as goal

pub loop-line-init : goal.loop-line-init
loop-line-init c =
    let p : c.into_iter-line-iterator.result.at ≡ 0 = search rules in
    (search rules, rw p)

pub returns-then-begins_with : goal.returns-then-begins_with
returns-then-begins_with c =
    let i = c.loop-line.invariant in
    let t = rw i.0 at c.in-Some.ensures.steps.1 in
    let b = eqb-true (command (content c.in-Some.line.bytes.now)) 9 (sym c.begins_with.ensures ∙ c.if-begins_with.true) in
    c.rest_of.ensures ∙ ap rest c.content_of.ensures ∙ sym (atr_here _ _ _ t.cut b) ∙ i.1

pub loop-line-preserved : goal.loop-line-preserved
loop-line-preserved c =
    let i = c.loop-line.invariant in
    let t = rw i.0 at c.in-Some.ensures.steps.1 in
    let b = eqb-false (command (content c.in-Some.line.bytes.now)) 9 (sym c.begins_with.ensures ∙ c.if-begins_with.false) in
    (search rules, sym (atr_later _ _ _ t.cut b) ∙ i.1)

pub returns : goal.returns
returns c =
    let i = c.loop-line.invariant in
    sym (atr_none c.args.s.now _ (rw i.0 at c.in-None.ensures.steps.2)) ∙ i.1
