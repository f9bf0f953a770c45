use Rattle.output.proofs.OutputLaws.{puts, put_as}
use Rattle.frames.proofs.LineLaws.{line_is}
use Rattle.frames.proofs.written_lines.put_count_line.Goals as goal

pub returns : goal.returns
returns c =
    put_as (line_is _ _ _)
    (puts c.put_bytes.ensures (puts c.put_separator.ensures (puts c.put_decimal.ensures c.put_line_end.ensures)))
