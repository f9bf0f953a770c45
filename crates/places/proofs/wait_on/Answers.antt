use mathlib.Core.Path.{ap, ◌∙◌}
use Rattle.page.specs.Records.{waits}
use Rattle.places.proofs.wait_on.Goals as goal

pub returns : goal.returns
returns c = c.wait_on.ensures ∙ ap (waits _) c.content_of.ensures
