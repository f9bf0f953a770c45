use Rattle.std.proofs.Common.{◌≡◌, ◌∙◌, ap, sym, arith, rules}
use Rattle.page.specs.Lines.{content}
use Rattle.page.specs.Header.{head_step, head_of}
use Rattle.headers.proofs.RunLaws.{turn_go, turn_stop, run_end}
use Rattle.headers.proofs.steps.read_lines.Goals as goal

pub loop-line-init : goal.loop-line-init
unfolding head_of
loop-line-init c =
    let p : c.into_iter-line-iterator.result.at ≡ 0 = search rules in
    (search rules, omega arith, omega arith, rw (p, c.begin-m.ensures))

pub overflow_add-n : goal.overflow_add-n
overflow_add-n c =
    let t = rw c.loop-line.invariant.0 at c.in-Some.ensures.steps.1 in
    search rules

pub loop-line-preserved : goal.loop-line-preserved
loop-line-preserved c =
    let s = c.args.s.now in
    let l = c.loop-line in
    let t = rw l.invariant.0 at c.in-Some.ensures.steps.1 in
    let x = c.step_header.ensures ∙ ap (head_step l.m) (c.content_of.ensures ∙ ap content t.bytes) in
    (search rules, t.within, omega arith, sym (turn_go s _ _ t.before t.size l.m l.n c.step_header.result x _ c.in-Some-step_header.is) ∙ l.invariant.3)

pub returns-in-None-step_header : goal.returns-in-None-step_header
returns-in-None-step_header c =
    let s = c.args.s.now in
    let l = c.loop-line in
    let t = rw l.invariant.0 at c.in-Some.ensures.steps.1 in
    let x = c.step_header.ensures ∙ ap (head_step l.m) (c.content_of.ensures ∙ ap content t.bytes) in
    sym (turn_stop s _ _ t.before t.size l.m l.n c.step_header.result x c.in-None-step_header.is) ∙ l.invariant.3

pub returns : goal.returns
returns c =
    let l = c.loop-line in
    c.end_header.ensures ∙ sym (run_end c.args.s.now _ l.m l.n (rw l.invariant.0 at c.in-None.ensures.steps.2)) ∙ l.invariant.3
