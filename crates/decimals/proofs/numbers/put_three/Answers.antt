use Rattle.output.proofs.OutputLaws.{puts}
use Rattle.decimals.proofs.numbers.put_three.Goals as goal

pub returns : goal.returns
returns c =
    puts c.put_padded.ensures
    (puts c.put_byte.ensures (puts c.put_padded-2.ensures (puts c.put_byte-2.ensures c.put_padded-3.ensures)))
