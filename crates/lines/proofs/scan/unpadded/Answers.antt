use Prim.Native.Nat.{◌≤◌}
use mathlib.Core.Path.{sym}
use native.Mathlib.Omega.{arith}
use lib.ListN.{length}
use lib.Seq.{length-take-le}
use Rattle.page.specs.Bytes.{space, unpadded}
use Rattle.page.proofs.ScanLaws.{keep_le}
use Rattle.lines.proofs.scan.unpadded.Goals as goal

pub slice_bounds-result-end : goal.slice_bounds-result-end
slice_bounds-result-end c =
    let t = c.args.t.now in
    let le : c.kept.result ≤ length t = omega (arith, keep_le space t) in
    sym (length-take-le _ t le)

pub returns : goal.returns
unfolding unpadded
returns c = rw c.kept.ensures
