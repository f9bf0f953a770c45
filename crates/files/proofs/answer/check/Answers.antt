use Rattle.page.specs.File.{check_of}
use Rattle.files.proofs.answer.check.Goals as goal

pub returns : goal.returns
unfolding check_of
returns c = c.check_all.ensures
