use mathlib.Core.Path.{◌≡◌, ◌∙◌}
use Prim.Native.Nat.{◌+◌}
use native.Mathlib.Omega.{arith}
use borrow.Author.Rules.{rules}
use Rattle.arrangement.specs.Orders.{held}
use Rattle.passing.proofs.PassLaws.{pass_turn}
use Rattle.passing.proofs.pass_records.Goals as goal

pub loop-line-preserved : goal.loop-line-preserved
loop-line-preserved c =
    let a = c.args in
    let l = c.loop-line in
    let i = l.invariant in
    let t = rw i.same at c.in-Some.ensures.steps.1 in
    let x = rw t.bytes at (c.passes_line.ensures c.if-not-passes_line.false) in
    record {
      same = search rules;
      within = t.within;
      counted = omega arith;
      ran = λ j k.
          let u : j + (l.count + 1) ≡ j + l.count + 1 = omega arith in
          let v : k + (l.count + 1) ≡ k + l.count + 1 = omega arith in
          rw (u, v) (i.ran j k ∙ pass_turn a.s.now _ _ t.before t.size a.latin a.t (held a.t a.o.now) l.mark (j + l.count) (k + l.count) (x (j + l.count)));
    }
