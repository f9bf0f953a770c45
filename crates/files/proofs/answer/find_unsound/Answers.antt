use Rattle.page.specs.Answers.{answered}
use Rattle.files.proofs.AnswerLaws.{unsound_found}
use Rattle.files.proofs.answer.find_unsound.Goals as goal

pub returns-then-known : goal.returns-then-known
unfolding answered
returns-then-known c = rw (c.requires c.if-known.true)

pub returns : goal.returns
returns c = unsound_found _ _ c.read_charset.ensures _ c.first_unsound.ensures
