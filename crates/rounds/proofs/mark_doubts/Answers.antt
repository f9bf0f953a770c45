use mathlib.Core.Path.{refl, ◌∙◌}
use native.Mathlib.Omega.{arith}
use Rattle.rounds.proofs.NumberLaws.{stands_first, stands_next}
use Rattle.rounds.proofs.RoundLaws.{marked_doubt, marked_new}
use Rattle.rounds.proofs.mark_doubts.Goals as goal

pub loop-i-init : goal.loop-i-init
loop-i-init c =
    let r = c.enumerate-i-items.ensures in
    rw (c.into_iter-i-iterator.ensures.into_iter_gives, r.count, r.source, c.lines_of.ensures.bytes, c.lines_of.ensures.at)
    (refl, omega arith, refl, refl, stands_first _, λ m h. absurd (omega arith))

pub loop-i-preserved-then-mark_line : goal.loop-i-preserved-then-mark_line
loop-i-preserved-then-mark_line c =
    let v = c.loop-i.invariant in
    let g = c.in-Some.ensures.steps in
    let t = rw v.0 at g.0.1 in
    let p = c.mark_line in
    let m = rw t.bytes at p.ensures in
    rw g.2 (
      g.0.0 ∙ v.0,
      omega (arith, g.1),
      p.auto.t ∙ v.2,
      p.auto.doubts ∙ v.3,
      stands_next _ _ _ _ v.4 t.before t.size,
      marked_doubt _ _ _ _ _ v.4 t.before t.size _ _ _ _ _ _ _ v.5 _ _ _ m v.2 v.3 c.if-mark_line.true,
    )

pub loop-i-preserved : goal.loop-i-preserved
loop-i-preserved c =
    let v = c.loop-i.invariant in
    let g = c.in-Some.ensures.steps in
    let t = rw v.0 at g.0.1 in
    let p = c.mark_line in
    let m = rw t.bytes at p.ensures in
    rw g.2 (
      g.0.0 ∙ v.0,
      omega (arith, g.1),
      p.auto.t ∙ v.2,
      p.auto.doubts ∙ v.3,
      stands_next _ _ _ _ v.4 t.before t.size,
      marked_new _ _ _ _ _ v.4 t.before t.size _ _ _ _ _ _ _ v.5 _ _ _ m v.2 v.3 c.if-mark_line.false,
    )
