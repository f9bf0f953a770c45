use Rattle.std.proofs.Common.{◌∙◌}
use Rattle.page.proofs.ChainLaws.{same_is}
use Rattle.lines.proofs.scan.equal.Goals as goal

pub returns : goal.returns
returns c = c.eq.ensures ∙ same_is c.args.a.now c.args.b.now
