use Rattle.page.specs.Lines.{blank}
use Rattle.lines.proofs.content.is_blank.Goals as goal

pub returns : goal.returns
unfolding blank
returns c = rw c.spaces.ensures
