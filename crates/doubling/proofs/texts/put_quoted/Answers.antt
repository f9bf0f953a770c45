use Rattle.page.specs.Form.{quoted}
use Rattle.output.proofs.OutputLaws.{puts}
use Rattle.doubling.proofs.texts.put_quoted.Goals as goal

pub returns : goal.returns
unfolding quoted
returns c = puts c.put_byte.ensures (puts c.put_doubled.ensures c.put_byte-2.ensures)
