use Rattle.page.specs.Bytes.{bytes}
use Rattle.output.proofs.OutputLaws.{puts, put_as}
use Rattle.frames.proofs.TitleLaws.{tbl_is}
use Rattle.frames.proofs.titles.put_tbl_line.Goals as goal

pub returns : goal.returns
unfolding bytes
returns c =
    put_as (tbl_is _ _ _ c.find_title.ensures) (puts c.put_bytes.ensures (puts c.put_bytes-2.ensures c.put_line_end.ensures))
