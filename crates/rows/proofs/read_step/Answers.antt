use mathlib.Core.Path.{◌∙◌}
use native.Mathlib.Omega.{arith}
use Rattle.seats.proofs.WalkLaws.{row_end}
use Rattle.rows.proofs.WalkLaws.{step_read}
use Rattle.rows.proofs.read_step.Goals as goal

pub step_over-requires : goal.step_over-requires
step_over-requires c =
    let e = row_end c.args.latin c.args.file.now c.args.at c.read_section-row.result c.requires.within c.read_section-row.ensures in
    (c.requires, omega (arith, e.0))

pub returns : goal.returns
returns c =
    let x = c.read_section-row in
    c.step_over.ensures ∙ step_read c.args.file.now c.args.at c.requires c.args.latin x.result x.ensures c.args.before
