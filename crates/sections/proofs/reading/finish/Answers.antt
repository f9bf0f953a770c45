use Rattle.page.specs.Section.{finish}
use Rattle.sections.proofs.RunLaws.{finish_early}
use Rattle.sections.proofs.reading.finish.Goals as goal

pub returns-in-Ended : goal.returns-in-Ended
unfolding finish
returns-in-Ended c = rw (c.find_number.ensures, c.in-Ended.is)

pub returns-in_default : goal.returns-in_default
returns-in_default c = rw (c.refuse.ensures, c.table_in.ensures) (finish_early c.args.p c.args.n c.in_default.not-Ended)
