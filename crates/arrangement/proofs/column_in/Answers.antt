use Prim.Native.Nat.{◌-◌}
use native.Mathlib.Omega.{arith}
use borrow.Author.Rules.{rules}
use Rattle.page.proofs.TableLaws.{width_le}
use Rattle.arrangement.proofs.OrderLaws.{column_none, column_past, column_there}
use Rattle.arrangement.proofs.column_in.Goals as goal

pub returns-then-m-lt1 : goal.returns-then-m-lt1
returns-then-m-lt1 c = column_none c.args.t c.args.o.now c.requires c.args.m c.if-m-lt1.true

pub returns-then-find_width-p : goal.returns-then-find_width-p
returns-then-find_width-p c =
    let a = c.args in
    column_past a.t a.o.now c.requires a.m (omega arith) (omega arith)

pub bounds-o-p : goal.bounds-o-p
bounds-o-p c = let w = width_le c.args.t in omega arith

pub overflow_cast-result : goal.overflow_cast-result
overflow_cast-result c = let s = c.requires.small (c.args.m - 1) in search rules

pub overflow_add-result : goal.overflow_add-result
overflow_add-result c = let s = c.requires.small (c.args.m - 1) in search rules

pub returns : goal.returns
returns c =
    let a = c.args in
    column_there a.t a.o.now c.requires a.m (omega arith) (omega arith)
