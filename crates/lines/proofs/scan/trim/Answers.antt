use Prim.Native.Nat.{◌≤◌}
use mathlib.Core.Path.{sym}
use native.Mathlib.Omega.{arith}
use lib.ListN.{length}
use lib.Seq.{length-take-le}
use Rattle.page.specs.Bytes.{space}
use Rattle.page.proofs.ScanLaws.{keep_le}
use Rattle.lines.proofs.scan.trim.Goals as goal

pub slice_bounds-spaces-end : goal.slice_bounds-spaces-end
slice_bounds-spaces-end c =
    let s = c.args.s.now in
    let le : c.kept-to.result ≤ length s = omega (arith, keep_le space s) in
    sym (length-take-le _ s le)

pub returns : goal.returns
returns c = rw (c.spaces-from.ensures, c.kept-to.ensures)
