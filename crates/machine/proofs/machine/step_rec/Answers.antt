use mathlib.Core.Path.{sym}
use Rattle.std.proofs.Common.{rules}
use borrow.Author.Tests.{eq-eqb, ne_eqb}
use Rattle.page.specs.Section.{rec_step, choose}
use Rattle.machine.proofs.machine.step_rec.Goals as goal

pub returns-in-0 : goal.returns-in-0
unfolding rec_step choose
returns-in-0 c = rw (sym c.judge_record.ensures, eq-eqb c.judge_record.result 0 c.in-0.is)

pub returns-in_default : goal.returns-in_default
unfolding rec_step choose
returns-in_default c = rw (sym c.judge_record.ensures, ne_eqb c.judge_record.result 0 (search rules))
