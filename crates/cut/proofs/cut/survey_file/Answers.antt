use Rattle.std.proofs.Common.{◌≡◌, ◌∙◌, sym, ap, length, refl, arith, rules}
use Rattle.page.specs.Cut.{trailer_lines}
use Rattle.page.proofs.LineLaws.{lines_end}
use Rattle.page.proofs.CutLaws.{sections_all, sections_table, sections_end, trailer_here, trailer_more, trailer_none}
use Rattle.cut.proofs.FrontLaws.{sections_on}
use Rattle.cut.proofs.cut.survey_file.Goals as goal

pub loop-line-init : goal.loop-line-init
unfolding trailer_lines
loop-line-init c =
    let p : c.into_iter-line-iterator.result.at ≡ 0 = search rules in
    (search rules, omega arith, omega arith, rw (p, sections_all c.args.s.now) (omega arith), rw p refl)

pub returns-then-begins_end : goal.returns-then-begins_end
returns-then-begins_end c =
    let t = rw c.loop-line.invariant.0 at c.in-Some.ensures.steps.1 in
    let b = rw t.bytes at (sym c.begins_end.ensures ∙ c.if-begins_end.true) in
    rw t.at (omega (arith, rw t.at at c.count_from.ensures.sections), omega arith, sym (trailer_here c.args.s.now _ _ t.before t.size b) ∙ c.loop-line.invariant.4)

pub overflow_add-result : goal.overflow_add-result
overflow_add-result c =
    let t = rw c.loop-line.invariant.0 at c.in-Some.ensures.steps.1 in
    search rules

pub overflow_add-n : goal.overflow_add-n
overflow_add-n c =
    let t = rw c.loop-line.invariant.0 at c.in-Some.ensures.steps.1 in
    search rules

pub loop-line-preserved-then-begins_table : goal.loop-line-preserved-then-begins_table
loop-line-preserved-then-begins_table c =
    let s = c.args.s.now in
    let t = rw c.loop-line.invariant.0 at c.in-Some.ensures.steps.1 in
    let x = sections_table s _ _ t.before t.size (rw t.bytes at (sym c.begins_table.ensures ∙ c.if-begins_table.true)) in
    let y = trailer_more s _ _ t.before t.size (rw t.bytes at (sym c.begins_end.ensures ∙ c.if-begins_end.false)) in
    (search rules, t.within, omega arith, omega (arith, ap length x), sym y ∙ c.loop-line.invariant.4)

pub loop-line-preserved : goal.loop-line-preserved
loop-line-preserved c =
    let s = c.args.s.now in
    let t = rw c.loop-line.invariant.0 at c.in-Some.ensures.steps.1 in
    let x = sections_on s _ _ t.before t.size (rw t.bytes at (sym c.begins_table.ensures ∙ c.if-begins_table.false)) in
    let y = trailer_more s _ _ t.before t.size (rw t.bytes at (sym c.begins_end.ensures ∙ c.if-begins_end.false)) in
    (search rules, t.within, omega arith, omega (arith, ap length x), sym y ∙ c.loop-line.invariant.4)

pub returns : goal.returns
returns c =
    let s = c.args.s.now in
    let at = c.loop-line.line-iterator.at in
    let o = rw c.loop-line.invariant.0 at c.in-None.ensures.steps.2 in
    let e : length s ≡ at = omega arith in
    (omega (arith, ap length (sections_end s at o)), omega arith, rw e (lines_end s at o ∙ sym (trailer_none s at o) ∙ c.loop-line.invariant.4))
