use Rattle.decimals.proofs.DecimalLaws.{padded_none, padded_more}
use Rattle.output.proofs.OutputLaws.{puts, put_as, put_none}
use Rattle.decimals.proofs.numbers.+put_padded.Goals as goal

pub returns-then-k-gt0 : goal.returns-then-k-gt0
returns-then-k-gt0 t c = put_as (padded_more _ _ _ c.if-k-gt0.true c.digit_of.ensures) (puts c.put_padded.ensures c.put_byte.ensures)

pub returns-else-k-gt0 : goal.returns-else-k-gt0
returns-else-k-gt0 t c = put_as (padded_none _ _ c.if-k-gt0.false) put_none
