use Prim.Native.Nat.{◌-◌}
use native.Mathlib.Omega.{arith}
use lib.ListN.{take, drop}
use Rattle.page.proofs.ScanLaws.{trim_in, part_length}
use Rattle.lines.proofs.scan.trim_in.Goals as goal

pub overflow_add-result : goal.overflow_add-result
overflow_add-result c =
    let a = c.args in
    let x = trim_in (take (a.to - a.from) (drop a.from a.s.now)) c.trim-part.result c.trim-part.ensures in
    let n = part_length a.from a.to a.s.now (omega arith) in
    omega arith

pub overflow_add-result-2 : goal.overflow_add-result-2
overflow_add-result-2 c =
    let a = c.args in
    let x = trim_in (take (a.to - a.from) (drop a.from a.s.now)) c.trim-part.result c.trim-part.ensures in
    let n = part_length a.from a.to a.s.now (omega arith) in
    omega arith

pub returns : goal.returns
returns c = rw c.trim-part.ensures
