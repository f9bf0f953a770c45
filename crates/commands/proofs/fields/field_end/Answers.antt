use Rattle.std.proofs.Common.{◌≡◌, ◌∙◌, false, sym, get_or, arith}
use Rattle.page.specs.Fields.{parts_here}
use Rattle.page.proofs.FieldLaws.{field_hit, field_more, field_end}
use Rattle.commands.proofs.fields.field_end.Goals as goal

pub returns-then-parts_here : goal.returns-then-parts_here
returns-then-parts_here c =
    let l = c.loop-i in
    omega (arith, field_hit l.inside c.args.w.now l.i c.loop-i-test.true (sym c.parts_here.ensures ∙ c.if-parts_here.true))

pub loop-i-preserved : goal.loop-i-preserved
loop-i-preserved c =
    let l = c.loop-i in
    let w = c.args.w.now in
    let p : parts_here l.inside (get_or w l.i 0) ≡ false = sym c.parts_here.ensures ∙ c.if-parts_here.false in
    (omega arith, omega (arith, field_more l.inside w l.i c.inside_after-inside.result c.loop-i-test.true p c.inside_after-inside.ensures))

pub returns : goal.returns
returns c = let l = c.loop-i in omega (arith, field_end l.inside c.args.w.now l.i c.loop-i-test.false)
