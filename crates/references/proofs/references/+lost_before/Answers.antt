use mathlib.Core.Path.{◌≡◌}
use Prim.Native.Nat.{◌+◌, ◌-◌}
use native.Mathlib.Omega.{arith}
use Rattle.aims.proofs.AimLaws.{looked_here}
use Rattle.references.proofs.references.+lost_before.Goals as goal

pub returns : goal.returns
returns t c =
    let o : c.args.n - 1 + 1 ≡ c.args.n = omega arith in
    rw o at (looked_here _ _ c.requires.0 (c.args.n - 1) c.in_ok-lost_before.ensures (omega (arith, c.requires.1)) _ c.in-Some.ensures c.args.n)
