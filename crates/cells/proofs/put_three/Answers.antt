use lib.ListN.{length-set}
use Prim.Native.Nat.{suc, ◌+◌}
use mathlib.Core.Path.{◌≡◌, refl}
use native.Mathlib.Omega.{arith}
use Rattle.cells.proofs.put_three.Goals as goal

pub bounds-cells-o-2 : goal.bounds-cells-o-2
bounds-cells-o-2 c = simp length-set (omega arith)

pub bounds-cells-o-3 : goal.bounds-cells-o-3
bounds-cells-o-3 c = simp length-set (omega arith)

pub returns : goal.returns
returns c =
    let o = c.args.o in
    let y : o + 1 ≡ suc o = omega arith in
    let z : o + 2 ≡ suc (suc o) = omega arith in
    record { is = rw (y, z); next = refl }
