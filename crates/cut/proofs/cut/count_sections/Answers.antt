use mathlib.Core.Path.{ap}
use native.Mathlib.Omega.{arith}
use lib.ListN.{length}
use Rattle.page.proofs.CutLaws.{sections_all}
use Rattle.cut.proofs.cut.count_sections.Goals as goal

pub returns : goal.returns
returns c = omega (arith, c.count_from.ensures, ap length (sections_all c.args.s.now))
