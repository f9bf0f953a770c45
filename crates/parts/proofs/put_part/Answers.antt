use Rattle.output.proofs.OutputLaws.{puts}
use Rattle.parts.proofs.put_part.Goals as goal

pub returns : goal.returns
returns c = puts c.put_byte.ensures c.put_bytes.ensures
