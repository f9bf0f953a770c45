use mathlib.Core.Path.{sym, ◌∙◌}
use borrow.Author.Rules.{rules}
use native.Mathlib.Omega.{arith}
use Rattle.scans.proofs.ScanLaws.{any_hit, any_more, any_end}
use Rattle.scans.proofs.scan.find_key.Goals as goal

pub returns-then-bears_key : goal.returns-then-bears_key
returns-then-bears_key c =
    let t = rw c.loop-line.invariant.0 at c.in-Some.ensures.steps.1 in
    let b = rw t.bytes at (sym c.bears_key.ensures ∙ c.if-bears_key.true) in
    record { met = sym (any_hit c.args.w.now _ _ t.before t.size _ b) ∙ c.loop-line.invariant.1; within = omega (arith, t.at, t.before) }

pub loop-line-preserved : goal.loop-line-preserved
loop-line-preserved c =
    let t = rw c.loop-line.invariant.0 at c.in-Some.ensures.steps.1 in
    let b = rw t.bytes at (sym c.bears_key.ensures ∙ c.if-bears_key.false) in
    (search rules, sym (any_more c.args.w.now _ _ t.before t.size _ b) ∙ c.loop-line.invariant.1)

pub returns : goal.returns
returns c =
    let e = rw c.loop-line.invariant.0 at c.in-None.ensures.steps.2 in
    record { met = sym (any_end c.args.w.now _ _ e) ∙ c.loop-line.invariant.1; within = search rules }
