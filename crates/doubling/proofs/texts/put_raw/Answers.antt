use Rattle.doubling.specs.Raw.{raw_text}
use Rattle.output.proofs.OutputLaws.{puts}
use Rattle.doubling.proofs.texts.put_raw.Goals as goal

pub returns : goal.returns
unfolding raw_text
returns c = puts c.put_byte.ensures (puts c.put_bytes.ensures c.put_byte-2.ensures)
