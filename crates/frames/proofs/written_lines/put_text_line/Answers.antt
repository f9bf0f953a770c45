use Rattle.output.proofs.OutputLaws.{puts, put_as}
use Rattle.frames.proofs.LineLaws.{text_line_is}
use Rattle.frames.proofs.written_lines.put_text_line.Goals as goal

pub returns : goal.returns
returns c =
    put_as (text_line_is _ _ _ _)
    (puts c.put_bytes.ensures (puts c.put_separator.ensures (puts c.put_raw_part.ensures c.put_line_end.ensures)))
