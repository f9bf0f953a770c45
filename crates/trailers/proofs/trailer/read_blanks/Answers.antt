use Rattle.std.proofs.Common.{◌∙◌, ap, sym, arith, rules}
use Rattle.page.specs.Lines.{blank, content}
use Rattle.trailers.proofs.TrailerLaws.{blank_more, blank_stop, blank_end}
use Rattle.trailers.proofs.trailer.read_blanks.Goals as goal

pub overflow_add-n : goal.overflow_add-n
overflow_add-n c =
    let t = rw c.loop-line.invariant.0 at c.in-Some.ensures.steps.1 in
    search rules

pub returns-then-not-is_blank : goal.returns-then-not-is_blank
returns-then-not-is_blank c =
    let l = c.loop-line in
    let t = rw l.invariant.0 at c.in-Some.ensures.steps.1 in
    let b = sym (ap blank (c.content_of.ensures ∙ ap content t.bytes)) ∙ sym c.is_blank.ensures ∙ c.if-not-is_blank.true in
    sym (blank_stop c.args.s.now _ _ l.n t.before t.size b) ∙ l.invariant.3

pub loop-line-preserved : goal.loop-line-preserved
loop-line-preserved c =
    let l = c.loop-line in
    let t = rw l.invariant.0 at c.in-Some.ensures.steps.1 in
    let b = sym (ap blank (c.content_of.ensures ∙ ap content t.bytes)) ∙ sym c.is_blank.ensures ∙ c.if-not-is_blank.false in
    (search rules, t.within, omega arith, sym (blank_more c.args.s.now _ _ l.n t.before t.size b) ∙ l.invariant.3)

pub returns : goal.returns
returns c =
    let l = c.loop-line in
    sym (blank_end c.args.s.now _ l.n (rw l.invariant.0 at c.in-None.ensures.steps.2)) ∙ l.invariant.3
