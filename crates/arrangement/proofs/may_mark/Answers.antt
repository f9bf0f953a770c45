use mathlib.Core.Path.{◌∙◌}
use Prim.Native.Nat.{◌-◌}
use native.Mathlib.Omega.{arith}
use borrow.Author.Tests.{le-ltb}
use Rattle.page.proofs.TableLaws.{width_le}
use Rattle.arrangement.proofs.OrderLaws.{mark_none, mark_past, mark_column}
use Rattle.arrangement.proofs.may_mark.Goals as goal

pub returns-then-i-lt1 : goal.returns-then-i-lt1
returns-then-i-lt1 c = mark_none c.args.t c.args.o.now c.requires c.args.i c.if-i-lt1.true

pub bounds-o-p : goal.bounds-o-p
bounds-o-p c = let w = width_le c.args.t in omega arith

pub returns-then-p-find_width : goal.returns-then-p-find_width
returns-then-p-find_width c =
    let a = c.args in
    c.is_fillable.ensures ∙ mark_column a.t a.o.now c.requires a.i (omega arith) (omega arith)

pub returns-else-p-find_width : goal.returns-else-p-find_width
returns-else-p-find_width c =
    let a = c.args in
    rw (le-ltb (a.i - 1) c.find_width.result c.if-p-find_width.false) (mark_past a.t a.o.now c.requires a.i (omega arith) (omega arith))
