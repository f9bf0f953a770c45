use Rattle.std.proofs.Common.{false, sym}
use borrow.Author.Tests.{le-leb}
use Rattle.page.proofs.FieldLaws.{field_end}
use Rattle.digits.proofs.RunLaws.{ends_here}
use Rattle.digits.proofs.walk.ends_at.Goals as goal

pub returns-then-w-at : goal.returns-then-w-at
returns-then-w-at c = rw (le-leb _ _ c.if-w-at.true, field_end false c.args.w.now c.args.at c.if-w-at.true)

pub returns-else-w-at : goal.returns-else-w-at
returns-else-w-at c = sym (ends_here c.args.w.now c.args.at c.if-w-at.false)
