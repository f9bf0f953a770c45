use Rattle.std.proofs.Common.{◌≡◌, ◌∙◌, ap, get_or, arith}
use Rattle.std.specs.Int.{from_bool}
use Rattle.page.specs.Fields.{parts_here}
use Rattle.commands.proofs.CountLaws.{at_most_one, counted_all, counted_more, counted_end}
use Rattle.commands.proofs.fields.count_fields.Goals as goal

pub loop-b-init : goal.loop-b-init
loop-b-init c = (omega arith, omega (arith, counted_all c.args.w.now))

pub loop-b-preserved : goal.loop-b-preserved
loop-b-preserved c =
    let l = c.loop-b in
    let w = c.args.w.now in
    let n : c.from-n.result ≡ from_bool (parts_here l.inside (get_or w l.b-index 0)) = c.from-n.ensures ∙ ap from_bool c.parts_here.ensures in (
      omega (arith, at_most_one (parts_here l.inside (get_or w l.b-index 0))),
      rw c.inside_after-inside.ensures (omega (arith, counted_more l.inside w l.b-index c.loop-b-test.true)),
    )

pub returns : goal.returns
returns c = omega (arith, c.loop-b.invariant.1, counted_end c.loop-b.inside c.args.w.now c.loop-b.b-index c.loop-b-test.false)
