use Rattle.std.proofs.Common.{◌∙◌, sym, refl, arith}
use Rattle.page.proofs.NumberLaws.{value_more, value_end, ten_more, ten_up}
use Rattle.dates.proofs.places.value_of.Goals as goal

pub overflow_mul-v : goal.overflow_mul-v
overflow_mul-v c = omega (arith, ten_up c.loop-b.b-index 3 (omega arith))

pub overflow_add-v : goal.overflow_add-v
overflow_add-v c = omega (arith, ten_up c.loop-b.b-index 3 (omega arith))

pub loop-b-preserved : goal.loop-b-preserved
loop-b-preserved c =
    let l = c.loop-b in (
      omega (arith, ten_more l.b-index),
      rw c.weigh.ensures.0 (sym (value_more c.args.w.now l.b-index l.v c.loop-b-test.true) ∙ l.invariant.1),
    )

pub returns : goal.returns
returns c =
    let l = c.loop-b in
    sym (value_end c.args.w.now l.b-index l.v c.loop-b-test.false) ∙ l.invariant.1
