use mathlib.Core.Path.{sym}
use borrow.Author.Tests.{le-leb}
use native.Mathlib.Omega.{arith}
use Rattle.page.specs.Section.{empty_marked}
use Rattle.judging.proofs.records.marks_empty.Goals as goal

pub returns-then-m-ne0 : goal.returns-then-m-ne0
unfolding empty_marked
returns-then-m-ne0 c = rw (le-leb 1 c.args.m (omega arith), sym c.field_at.ensures) c.is_empty_text.ensures

pub returns-else-m-ne0 : goal.returns-else-m-ne0
unfolding empty_marked
returns-else-m-ne0 c = rw c.if-m-ne0.false
