use Rattle.files.proofs.AnswerLaws.{answered_some, file_answered}
use Rattle.files.proofs.answer.check_known.Goals as goal

pub returns-in-Ok : goal.returns-in-Ok
returns-in-Ok c = file_answered _ c.in-Ok.ensures

pub returns-in-Err : goal.returns-in-Err
returns-in-Err c = answered_some _ _ c.in-Err.ensures
