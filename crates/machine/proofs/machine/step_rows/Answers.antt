use borrow.Author.Rules.{rules}
use Rattle.page.specs.Section.{line_step, choose}
use Rattle.commands.specs.declared.command.Command.TheVariants.{Rec, End}
use Rattle.commands.proofs.CodeLaws.{apart}
use Rattle.machine.proofs.machine.step_rows.Goals as goal

pub returns-in-Rec : goal.returns-in-Rec
unfolding line_step choose
returns-in-Rec c = rw c.in-Rec.is c.step_rec.ensures

pub returns-in-End : goal.returns-in-End
unfolding line_step choose
returns-in-End c = rw c.in-End.is c.step_end.ensures

pub returns-in_default : goal.returns-in_default
unfolding line_step choose
returns-in_default c = rw (apart c.args.k Rec (search rules), apart c.args.k End (search rules))
