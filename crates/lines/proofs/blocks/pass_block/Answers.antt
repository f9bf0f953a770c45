use Rattle.std.proofs.Common.{sym}
use Rattle.lines.proofs.RunLaws.{all_block}
use Rattle.lines.proofs.blocks.pass_block.Goals as goal

pub returns : goal.returns
returns g c =
    let a = c.args in
    rw (c.pass_four.ensures, c.pass_four-2.ensures, c.pass_four-3.ensures, c.pass_four-4.ensures) (sym (all_block (g.T.Test.passed a.t.now) a.s.now a.at))
