use Rattle.std.proofs.Common.{◌≡◌, arith}
use Rattle.cut.proofs.ReachLaws.{reach_first, reach_next, reach_none, reached}
use Rattle.cut.proofs.seek.find_nth.Goals as goal

pub loop-init : goal.loop-init
loop-init c =
    let n = c.find_section-at.ensures in
    (n.within, n.settled, reach_first c.args.s.now _ n)

pub returns-then-s-at : goal.returns-then-s-at
returns-then-s-at c =
    let l = c.loop in
    let a = c.args in
    reached a.s.now a.k l.at l.invariant.0 l.invariant.1 (reach_none a.s.now l.counter a.k l.at c.if-s-at.true (omega arith) l.invariant.2)

pub loop-preserved : goal.loop-preserved
loop-preserved c =
    let l = c.loop in
    let n = c.find_section-at-in-loop.ensures in
    (n.within, n.settled, reach_next c.args.s.now l.counter l.at _ _ c.if-s-at.false l.invariant.1 l.invariant.2 c.section_end.ensures.0 n)

pub returns : goal.returns
returns c =
    let l = c.loop in
    let n : l.counter ≡ c.args.k = omega arith in
    reached c.args.s.now c.args.k l.at l.invariant.0 l.invariant.1 (rw n at l.invariant.2)
