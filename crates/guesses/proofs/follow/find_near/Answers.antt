use mathlib.Core.Path.{◌≡◌, sym, ◌∙◌}
use Prim.Native.Nat.{◌+◌}
use native.Mathlib.Omega.{arith}
use lib.ListN.{drop}
use Rattle.page.proofs.LineLaws.{line_size}
use Rattle.scans.proofs.ScanLaws.{starts_first, starts_next}
use Rattle.guesses.proofs.FollowLaws.{near_hit}
use Rattle.guesses.proofs.follow.find_near.Goals as goal

pub loop-preserved-in_default : goal.loop-preserved-in_default
loop-preserved-in_default c = starts_first _

pub returns-then-bears_key : goal.returns-then-bears_key
returns-then-bears_key c =
    let t = rw (c.lines_from.ensures.bytes, c.lines_from.ensures.at) at c.in-Some.ensures.steps.1 in
    near_hit _ _ _ t.before t.size c.loop.invariant _ (rw t.bytes at (sym c.bears_key.ensures ∙ c.if-bears_key.true))

pub loop-preserved : goal.loop-preserved
loop-preserved c =
    let t = rw (c.lines_from.ensures.bytes, c.lines_from.ensures.at) at c.in-Some.ensures.steps.1 in
    let q : c.end-from.result ≡ c.loop.from + line_size (drop c.loop.from c.args.w.now) = omega arith in
    starts_next _ _ _ t.before q c.loop.invariant
