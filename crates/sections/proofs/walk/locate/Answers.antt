use Prim.Native.Nat.{◌-◌, ◌<◌}
use native.Mathlib.Omega.{arith}
use lib.ListN.{length}
use Rattle.page.specs.Cut.{sections}
use Rattle.cut.proofs.ReachLaws.{reach_past}
use Rattle.sections.proofs.LocatedLaws.{refused_header, refused_none, located_at, outside_zero, outside_past}
use Rattle.sections.proofs.walk.locate.Goals as goal

pub returns-then-x-ne0 : goal.returns-then-x-ne0
returns-then-x-ne0 c =
    refused_header c.args.file.now c.args.i c.refuse_header-x.result c.refuse_header-x.ensures c.if-x-ne0.true

pub returns-then-i-eq0 : goal.returns-then-i-eq0
returns-then-i-eq0 c =
    let a = c.args in
    let x = c.refuse_header-x in
    refused_none a.file.now a.i x.result x.ensures c.if-x-ne0.false (outside_zero a.i (length (sections a.file.now)) c.if-i-eq0.true) _ c.refuse_with.ensures

pub returns-then-file-at : goal.returns-then-file-at
returns-then-file-at c =
    let a = c.args in
    let x = c.refuse_header-x in
    let n = c.find_nth-at.ensures in
    let p = reach_past a.file.now (a.i - 1) c.find_nth-at.result n.within n.settled n.left c.if-file-at.true in
    let q : length (sections a.file.now) < a.i = omega arith in
    refused_none a.file.now a.i x.result x.ensures c.if-x-ne0.false (outside_past a.i (length (sections a.file.now)) q) c.refuse_with-then-file-at.result c.refuse_with-then-file-at.ensures

pub returns : goal.returns
returns c =
    let a = c.args in
    let x = c.refuse_header-x in
    located_at a.file.now a.i x.result x.ensures c.if-x-ne0.false _ c.if-i-eq0.false c.if-file-at.false c.find_nth-at.ensures
