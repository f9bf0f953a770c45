use Rattle.page.specs.Bytes.{bytes}
use Rattle.output.proofs.OutputLaws.{puts, put_as}
use Rattle.frames.proofs.TitleLaws.{table_head_is}
use Rattle.frames.proofs.titles.put_table_head.Goals as goal

pub returns : goal.returns
unfolding bytes
returns c =
    put_as (table_head_is _ _) (puts c.put_tbl_line.ensures (puts c.put_titles.ensures c.put_titles-2.ensures))
