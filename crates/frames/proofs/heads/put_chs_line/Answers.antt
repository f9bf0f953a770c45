use Rattle.page.specs.Bytes.{bytes}
use Rattle.output.proofs.OutputLaws.{put_as}
use Rattle.frames.proofs.LineLaws.{chs_latin, chs_ascii}
use Rattle.frames.proofs.heads.put_chs_line.Goals as goal

pub returns-then-latin : goal.returns-then-latin
unfolding bytes
returns-then-latin c = put_as (chs_latin _ _ c.if-latin.true) c.put_line.ensures

pub returns-else-latin : goal.returns-else-latin
unfolding bytes
returns-else-latin c = put_as (chs_ascii _ _ c.if-latin.false) c.put_line-else-latin.ensures
