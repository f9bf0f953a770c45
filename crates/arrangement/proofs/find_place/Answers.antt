use mathlib.Core.Path.{sym, ◌∙◌}
use Prim.Native.Nat.{◌<◌, ◌≤◌}
use native.Mathlib.Omega.{arith}
use borrow.Author.Rules.{rules}
use lib.ListN.{length}
use Rattle.page.specs.Tables.{width}
use Rattle.page.proofs.TableLaws.{width_le}
use Rattle.arrangement.specs.Orders.{held}
use Rattle.arrangement.proofs.OrderLaws.{held_length, held_at, place_hit, place_more, place_end}
use Rattle.arrangement.proofs.find_place.Goals as goal

pub bounds-o-p : goal.bounds-o-p
bounds-o-p c = let w = width_le c.args.t in omega arith

pub overflow_cast-o : goal.overflow_cast-o
overflow_cast-o c = let s = c.requires.small c.loop-p.p in search rules

pub returns-then-o-p : goal.returns-then-o-p
returns-then-o-p c =
    let a = c.args in
    let l = c.loop-p in
    let k : l.p < width a.t = omega arith in
    let n : l.p < length (held a.t a.o.now) = omega (arith, held_length a.t a.o.now c.requires) in
    let h = place_hit a.c (held a.t a.o.now) l.p n (held_at a.t a.o.now l.p k ∙ c.if-o-p.true) in
    omega arith

pub loop-p-preserved : goal.loop-p-preserved
loop-p-preserved c =
    let a = c.args in
    let l = c.loop-p in
    let k : l.p < width a.t = omega arith in
    let n : l.p < length (held a.t a.o.now) = omega (arith, held_length a.t a.o.now c.requires) in
    let h = place_more a.c (held a.t a.o.now) l.p n (λ e. c.if-o-p.false (sym (held_at a.t a.o.now l.p k) ∙ e)) in
    omega arith

pub returns : goal.returns
returns c =
    let a = c.args in
    let l = c.loop-p in
    let n : length (held a.t a.o.now) ≤ l.p = omega (arith, held_length a.t a.o.now c.requires) in
    let h = place_end a.c (held a.t a.o.now) l.p n in
    omega arith
