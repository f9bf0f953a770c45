use Rattle.std.proofs.Common.{arith}
use Rattle.page.proofs.TableLaws.{width_le}
use Rattle.output.proofs.OutputLaws.{next_by, at_end}
use Rattle.parts.proofs.PartLaws.{part_in, part_more, parts_end}
use Rattle.parts.proofs.put_parts.Goals as goal

pub offset_bounds-parts-k : goal.offset_bounds-parts-k
offset_bounds-parts-k c = omega (arith, width_le c.args.t)

pub put_part-requires : goal.put_part-requires
put_part-requires c =
    let a = c.args in
    let p = c.requires in
    part_in a.t a.o.now p.0 a.w.now p.1 a.parts.now p.2 c.loop-k.k (omega arith)

pub loop-k-preserved : goal.loop-k-preserved
loop-k-preserved c =
    let a = c.args in
    let p = c.requires in
    let l = c.loop-k in
    next_by (part_more a.t a.o.now p.0 a.w.now p.1 a.parts.now p.2 l.k (omega arith)) l.invariant c.put_part.ensures

pub returns : goal.returns
returns c =
    let a = c.args in
    let p = c.requires in
    let l = c.loop-k in
    at_end (parts_end a.t a.o.now p.0 a.w.now p.1 a.parts.now p.2 l.k (omega arith)) l.invariant
