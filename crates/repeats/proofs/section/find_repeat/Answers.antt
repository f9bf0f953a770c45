use mathlib.Core.Path.{◌≡◌, sym}
use borrow.Author.Rules.{rules}
use native.Mathlib.Omega.{arith}
use Rattle.repeats.proofs.FirstLaws.{lines_few, done_more, done_at, done_none}
use Rattle.repeats.proofs.section.find_repeat.Goals as goal

pub loop-lane-init : goal.loop-lane-init
loop-lane-init c = (omega arith, (λ h. absurd (omega arith)), λ m h k l. absurd (omega arith))

pub loop-lane-preserved : goal.loop-lane-preserved
loop-lane-preserved c =
    let e : c.from.result ≡ c.loop-lane.lane = search rules in
    done_more _ _ _ _ _ _ _ c.loop-lane.invariant (rw e at c.sift_round-last.ensures)

pub returns-then-last-size : goal.returns-then-last-size
returns-then-last-size c = (
  omega arith,
  sym (done_at _ _ _ _ _ _ c.count_rounds-lanes.ensures (omega arith) c.loop-lane.invariant c.if-last-size.true),
)

pub returns-else-last-size : goal.returns-else-last-size
returns-else-last-size c =
    sym (done_none _ _ _ _ _ _ c.count_rounds-lanes.ensures (omega arith) c.loop-lane.invariant (lines_few c.args.w.now) c.if-last-size.false)
