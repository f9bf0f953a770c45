use Rattle.page.specs.Bytes.{bytes}
use Rattle.frames.specs.Heads.{head_raw, versions}
use Rattle.output.proofs.OutputLaws.{puts, put_as}
use Rattle.frames.proofs.LineLaws.{mod_is}
use Rattle.frames.proofs.heads.put_head.Goals as goal

pub returns : goal.returns
unfolding bytes versions head_raw
returns c =
    puts (put_as (mod_is _) c.put_line.ensures)
    (puts c.put_src_line.ensures (puts c.put_chs_line.ensures c.put_versions.ensures))
