use Rattle.output.proofs.OutputLaws.{puts}
use Rattle.decimals.proofs.numbers.put_sized.Goals as goal

pub returns : goal.returns
returns c = puts c.put_bytes.ensures (puts c.put_decimal.ensures c.put_bytes-2.ensures)
