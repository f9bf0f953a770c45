use mathlib.Core.Path.{sym}
use Rattle.page.specs.Lines.{lines}
use Rattle.headers.proofs.FoundLaws.{stands_place}
use Rattle.commands.specs.Commands.{code}
use Rattle.headers.proofs.find.stands_in.Goals as goal

pub returns : goal.returns
returns c =
    rw (stands_place (code c.args.k) 0 (lines c.args.h.now), sym c.find_line.ensures.at)
