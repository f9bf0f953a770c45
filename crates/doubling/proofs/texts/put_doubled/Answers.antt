use Rattle.std.proofs.Common.{ap, ◌∙◌}
use Rattle.std.proofs.Math.ListN.{drop_of_length-le}
use Rattle.page.specs.Form.{doubled}
use Rattle.output.proofs.PutLaws.{first_of}
use Rattle.output.proofs.OutputLaws.{next_by, at_end}
use Rattle.doubling.proofs.TextLaws.{doubled_cons, doubled_none}
use Rattle.doubling.proofs.texts.put_doubled.Goals as goal

pub loop-b-preserved : goal.loop-b-preserved
loop-b-preserved c =
    next_by (ap doubled (first_of _ _ c.loop-b-test.true) ∙ doubled_cons _ _) c.loop-b.invariant c.put_doubled_byte.ensures

pub returns : goal.returns
returns c = at_end (ap doubled (drop_of_length-le _ c.loop-b-test.false) ∙ doubled_none) c.loop-b.invariant
