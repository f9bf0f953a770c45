use Rattle.output.proofs.OutputLaws.{put_as}
use Rattle.frames.proofs.TitleLaws.{title_format, title_name}
use Rattle.frames.proofs.titles.put_title.Goals as goal

pub returns-then-formats : goal.returns-then-formats
returns-then-formats c = put_as (title_format _ _ _ _ c.if-formats.true c.find_column.ensures) c.put_format.ensures

pub returns-else-formats : goal.returns-else-formats
returns-else-formats c = put_as (title_name _ _ _ _ c.if-formats.false c.find_name.ensures) c.put_bytes.ensures
