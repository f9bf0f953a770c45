use Rattle.output.proofs.OutputLaws.{left_is, next_by, at_end}
use Rattle.doubling.proofs.TextLaws.{undoubled_second, undoubled_first, undoubled_end}
use Rattle.doubling.proofs.own.put_own.Goals as goal
use Rattle.doubling.proofs.own.put_own.Goals.{then-met, else-met}

pub loop-b-preserved : goal.loop-b-preserved
loop-b-preserved c =
    elim c.if-met.branch [
      | then-met w ↦ rw (w.out-is, w.met-is) (left_is (undoubled_second _ _ _ c.loop-b-test.true w.if-met.true) c.loop-b.invariant)
      | else-met w ↦ rw (w.out-is, w.met-is) (next_by (undoubled_first _ _ _ c.loop-b-test.true w.if-met.false) c.loop-b.invariant w.put_byte.ensures)
    ]

pub returns : goal.returns
returns c = at_end (undoubled_end _ _ _ c.loop-b-test.false) c.loop-b.invariant
