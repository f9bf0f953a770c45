use mathlib.Core.Path.{sym}
use Rattle.page.specs.Writing.{fill_of, fill_after}
use Rattle.forms.proofs.answer.fill.Goals as goal

pub returns : goal.returns
unfolding fill_of fill_after
returns c = rw (sym c.unpadded-own.ensures) c.fill_checked.ensures
