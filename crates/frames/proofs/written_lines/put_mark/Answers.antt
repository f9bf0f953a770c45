use Rattle.page.specs.Bytes.{bytes}
use Rattle.output.proofs.OutputLaws.{puts, put_as}
use Rattle.frames.proofs.LineLaws.{mark_is}
use Rattle.frames.proofs.written_lines.put_mark.Goals as goal

pub returns : goal.returns
unfolding bytes
returns c =
    put_as (mark_is _ _)
    (puts c.put_bytes.ensures (puts c.put_decimal.ensures (puts c.put_byte.ensures c.put_line_end.ensures)))
