use Rattle.output.proofs.OutputLaws.{puts}
use Rattle.frames.proofs.written_lines.put_line.Goals as goal

pub returns : goal.returns
returns c = puts c.put_bytes.ensures c.put_line_end.ensures
