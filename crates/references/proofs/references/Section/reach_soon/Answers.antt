use Rattle.aims.specs.Aims.{reached}
use Rattle.references.proofs.references.Section.reach_soon.Goals as goal

pub returns-then-is_guessed : goal.returns-then-is_guessed
unfolding reached
returns-then-is_guessed c = c.find_guessed.ensures

pub returns : goal.returns
unfolding reached
returns c = c.find_near.ensures
