use Rattle.std.proofs.Common.{arith}
use borrow.Author.Tests.{eq-eqb, ne_eqb}
use Rattle.std.proofs.Math.Seq.{take-length}
use Rattle.page.specs.Bytes.{space}
use Rattle.page.proofs.ScanLaws.{keep_on, keep_stop, keep_none}
use Rattle.lines.proofs.scan.kept.Goals as goal

pub loop-i-init : goal.loop-i-init
loop-i-init c = rw take-length

pub returns-then-s-i-ne32 : goal.returns-then-s-i-ne32
returns-then-s-i-ne32 c =
    let l = c.loop-i in
    omega (arith, keep_stop space c.args.s.now l.i c.loop-i-test.true l.auto.i (ne_eqb _ _ c.if-s-i-ne32.true))

pub loop-i-preserved : goal.loop-i-preserved
loop-i-preserved c =
    let l = c.loop-i in
    omega (arith, keep_on space c.args.s.now l.i c.loop-i-test.true l.auto.i (eq-eqb _ _ c.if-s-i-ne32.false))

pub returns : goal.returns
returns c = omega (arith, keep_none space c.args.s.now c.loop-i.i c.loop-i-test.false)
