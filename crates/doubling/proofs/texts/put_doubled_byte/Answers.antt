use Rattle.doubling.proofs.TextLaws.{doubled_quote, doubled_other}
use Rattle.output.proofs.OutputLaws.{put_as, puts}
use Rattle.doubling.proofs.texts.put_doubled_byte.Goals as goal
use Rattle.doubling.proofs.texts.put_doubled_byte.Goals.{then-b-eq34, else-b-eq34}

pub returns : goal.returns
returns c =
    elim c.if-b-eq34.branch [
      | then-b-eq34 w ↦ put_as (doubled_quote _ w.if-b-eq34.true) (puts w.put_byte.ensures (rw w.out-is at c.put_byte-2.ensures))
      | else-b-eq34 w ↦ put_as (doubled_other _ w.if-b-eq34.false) (rw w.out-is at c.put_byte-2.ensures)
    ]
