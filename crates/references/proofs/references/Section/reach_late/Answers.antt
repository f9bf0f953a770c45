use Rattle.aims.specs.Aims.{reached}
use Rattle.references.proofs.references.Section.reach_late.Goals as goal

pub returns : goal.returns
unfolding reached
returns c = c.find_from.ensures
