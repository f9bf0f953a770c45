use mathlib.Core.Path.{refl, ◌∙◌}
use native.Mathlib.Omega.{arith}
use Rattle.rounds.proofs.NumberLaws.{stands_first, stands_in, stands_next, again_here}
use Rattle.rounds.proofs.RoundLaws.{told_met, told_new}
use Rattle.rounds.proofs.settle_doubts.Goals as goal
use Rattle.rounds.proofs.settle_doubts.Goals.{else-put_doubtful-via-then-put_doubtful+else-is_again, else-put_doubtful-via-else-put_doubtful}

pub loop-i-init : goal.loop-i-init
loop-i-init c =
    let r = c.enumerate-i-items.ensures in
    rw (c.into_iter-i-iterator.ensures.into_iter_gives, r.count, r.source, c.lines_of.ensures.bytes, c.lines_of.ensures.at)
    (refl, omega arith, refl, stands_first _, λ m h. absurd (omega arith))

pub returns-then-is_again : goal.returns-then-is_again
returns-then-is_again c =
    let v = c.loop-i.invariant in
    let g = c.in-Some.ensures.steps in
    let t = rw v.0 at g.0.1 in
    let a = rw (t.at, t.bytes) at c.is_again.ensures in
    rw g.1 record {
      within = omega (arith, g.1);
      hit = λ l. (stands_in _ _ _ _ v.3 t.before t.size, again_here _ _ _ _ v.3 t.before t.size _ _ a ∙ c.if-is_again.true);
      clear = λ m h x o. (v.4 m h o).0;
    }

pub loop-i-preserved : goal.loop-i-preserved
loop-i-preserved c =
    let v = c.loop-i.invariant in
    let g = c.in-Some.ensures.steps in
    let t = rw v.0 at g.0.1 in
    let p = c.put_doubtful in
    let m = rw t.bytes at p.ensures in
    rw g.2 (
      g.0.0 ∙ v.0,
      omega (arith, g.1),
      p.auto.t ∙ v.2,
      stands_next _ _ _ _ v.3 t.before t.size,
      elim c.else-put_doubtful.branch [
        | else-put_doubtful-via-then-put_doubtful+else-is_again x ↦
            let a = rw (t.at, t.bytes) at x.is_again.ensures in
            told_met _ _ _ _ _ v.3 t.before t.size _ _ _ _ v.4 _ _ m v.2 _ a x.if-is_again.false
        | else-put_doubtful-via-else-put_doubtful x ↦ told_new _ _ _ _ _ v.3 t.before t.size _ _ _ _ v.4 _ _ m v.2 x.if-put_doubtful.false
      ],
    )
