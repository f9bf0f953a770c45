use Rattle.std.proofs.Common.{◌≡◌, ◌∙◌, sym, length, arith, rules}
use Rattle.page.specs.Lines.{joined}
use Rattle.page.specs.Cut.{header_lines}
use Rattle.page.proofs.CutLaws.{front_size, front_end, header_run}
use Rattle.cut.proofs.FrontLaws.{front_stop, front_on}
use Rattle.cut.proofs.cut.header_size.Goals as goal

pub loop-line-init : goal.loop-line-init
unfolding front_size header_lines
loop-line-init c =
    let p : c.into_iter-line-iterator.result.at ≡ 0 = search rules in
    (search rules, omega arith, rw p (omega arith))

pub returns-then-begins_part : goal.returns-then-begins_part
returns-then-begins_part c =
    let s = c.args.s.now in
    let t = rw c.loop-line.invariant.0 at c.in-Some.ensures.steps.1 in
    let e : c.in-Some.line.at ≡ length (joined (header_lines s)) =
    omega (arith, front_stop s _ _ t.before t.size (rw t.bytes at (sym c.begins_part.ensures ∙ c.if-begins_part.true))) in
    (e, omega arith, rw e (header_run s))

pub loop-line-preserved : goal.loop-line-preserved
loop-line-preserved c =
    let t = rw c.loop-line.invariant.0 at c.in-Some.ensures.steps.1 in
    (search rules, t.within, omega (arith, front_on c.args.s.now _ _ t.before t.size (rw t.bytes at (sym c.begins_part.ensures ∙ c.if-begins_part.false))))

pub returns : goal.returns
returns c =
    let s = c.args.s.now in
    let o = rw c.loop-line.invariant.0 at c.in-None.ensures.steps.2 in
    let e : length s ≡ length (joined (header_lines s)) = omega (arith, front_end s _ o) in
    (e, omega arith, rw e (header_run s))
