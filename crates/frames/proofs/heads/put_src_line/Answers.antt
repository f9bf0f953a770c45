use Rattle.page.specs.Bytes.{bytes}
use Rattle.output.proofs.OutputLaws.{puts, put_as}
use Rattle.frames.proofs.LineLaws.{src_is}
use Rattle.frames.proofs.heads.put_src_line.Goals as goal

pub returns : goal.returns
unfolding bytes
returns c =
    put_as (src_is _ _ _ _ _)
    (puts c.put_bytes.ensures
    (puts c.put_raw_part.ensures
    (puts c.put_bytes-2.ensures
    (puts c.put_date.ensures
    (puts c.put_bytes-3.ensures (puts c.put_time.ensures (puts c.put_byte.ensures c.put_line_end.ensures)))))))
