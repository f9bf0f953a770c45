use mathlib.Core.Path.{◌≡◌, sym, ◌∙◌}
use mathlib.Core.Bool.{true, ◌&&◌}
use Prim.Native.Nat.{◌+◌, ◌<◌}
use native.Mathlib.Omega.{arith}
use borrow.Author.Rules.{rules}
use borrow.Author.Tests.{not-false, eqb-true, ltb-true}
use lib.Dec.{eqb, ltb}
use lib.ListN.{length, get_or}
use Rattle.page.proofs.TestLaws.{and_left, and_right}
use Rattle.quoted.proofs.WalkLaws.{walked_none, walked_byte, walked_pair, walked_closed}
use Rattle.quoted.proofs.walk.walk_body.Goals as goal

-- a quote that another follows
pair : (c : goal.Else-not-is_quote)
    → (ltb (c.loop-i.i + 1) (length c.args.w.now) && eqb (get_or c.args.w.now (c.loop-i.i + 1) 0) 34) ≡ true
pair c = sym c.is_quote.ensures ∙ not-false _ c.if-not-is_quote.false-raw

pub loop-i-init : goal.loop-i-init
loop-i-init c = walked_none c.args.w.now c.args.wide c.args.from (search rules)

pub returns-then-not-is_quote : goal.returns-then-not-is_quote
returns-then-not-is_quote c =
    let a = c.args in
    let l = c.loop-i in
    walked_closed a.w.now a.wide a.from l.i l.size l.invariant c.loop-i-test.true c.if-b-eq34.true

pub overflow_add-i : goal.overflow_add-i
overflow_add-i c = let h = (let h : c.loop-i.i + 1 < length c.args.w.now = ltb-true _ _ (and_left _ _ (pair c)) in h) in search rules

pub overflow_add-size : goal.overflow_add-size
overflow_add-size c = omega (arith, (let h : c.loop-i.i + 1 < length c.args.w.now = ltb-true _ _ (and_left _ _ (pair c)) in h), c.loop-i.invariant.few)

pub loop-i-smaller-then-b-eq34 : goal.loop-i-smaller-then-b-eq34
loop-i-smaller-then-b-eq34 c = let h = (let h : c.loop-i.i + 1 < length c.args.w.now = ltb-true _ _ (and_left _ _ (pair c)) in h) in search rules

pub loop-i-preserved-then-b-eq34 : goal.loop-i-preserved-then-b-eq34
loop-i-preserved-then-b-eq34 c =
    let a = c.args in
    let l = c.loop-i in
    walked_pair a.w.now a.wide a.from l.i l.size l.invariant c.loop-i-test.true c.if-b-eq34.true ((let h : c.loop-i.i + 1 < length c.args.w.now = ltb-true _ _ (and_left _ _ (pair c)) in h)) (eqb-true _ 34 (and_right (ltb (l.i + 1) (length a.w.now)) _ (pair c)))

pub overflow_add-size-else-b-eq34 : goal.overflow_add-size-else-b-eq34
overflow_add-size-else-b-eq34 c = omega (arith, c.loop-i.invariant.few)

pub loop-i-preserved : goal.loop-i-preserved
loop-i-preserved c =
    let a = c.args in
    let l = c.loop-i in
    walked_byte a.w.now a.wide a.from l.i l.size l.invariant c.loop-i-test.true c.if-b-eq34.false (sym c.is_allowed.ensures ∙ not-false _ c.if-not-is_allowed.false-raw)
