use Rattle.std.proofs.Common.{sym, rules}
use Rattle.lines.proofs.RunLaws.{all_four}
use Rattle.lines.proofs.blocks.pass_four.Goals as goal

pub returns : goal.returns
returns g c =
    let a = c.args in
    rw (c.passes.ensures, c.passes-2.ensures, c.passes-3.ensures, c.passes-4.ensures) (sym (all_four (g.T.Test.passed a.t.now) a.s.now a.at (search rules)))
