use Rattle.output.proofs.OutputLaws.{put_as, put_none}
use Rattle.frames.proofs.LineLaws.{stated_none, stated_at}
use Rattle.frames.proofs.heads.put_stated_line.Goals as goal

pub returns-in-Some : goal.returns-in-Some
returns-in-Some c = put_as (stated_at _ _ _ _ _ c.in-Some.is) c.put_text_line.ensures

pub returns-in_default : goal.returns-in_default
returns-in_default c = put_as (stated_none _ _ _ _ c.in_default.is) put_none
