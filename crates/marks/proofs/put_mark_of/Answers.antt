use Rattle.output.proofs.OutputLaws.{put_as, put_none}
use Rattle.copies.proofs.FieldLaws.{mark_put, mark_left}
use Rattle.marks.proofs.put_mark_of.Goals as goal

pub returns-then-is_marked : goal.returns-then-is_marked
returns-then-is_marked c = put_as (mark_put _ _ _ _ _ _ _ c.is_marked.ensures c.if-is_marked.true) c.put_mark.ensures

pub returns-else-is_marked : goal.returns-else-is_marked
returns-else-is_marked c = put_as (mark_left _ _ _ _ _ _ _ c.is_marked.ensures c.if-is_marked.false) put_none
