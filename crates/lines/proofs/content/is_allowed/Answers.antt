use mathlib.Core.Bool.{and-true}
use Prim.Native.Nat.{◌≤◌}
use borrow.Author.Rules.{rules}
use borrow.Author.Tests.{le-leb}
use Rattle.page.specs.Lines.{allowed}
use Rattle.lines.proofs.content.is_allowed.Goals as goal

pub returns : goal.returns
unfolding allowed
returns c =
    let h : c.args.b ≤ 255 = search rules in
    rw (le-leb c.args.b 255 h, and-true)
