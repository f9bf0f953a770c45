use native.Mathlib.Omega.{arith}
use borrow.Author.Rules.{rules}
use Rattle.fields.proofs.ColumnLaws.{text_room, text_left, text_beyond, text_place}
use Rattle.fields.proofs.columns.judge_text.Goals as goal

pub overflow_sub-close : goal.overflow_sub-close
overflow_sub-close c =
    let a = c.args in
    let p = c.requires in
    omega (arith, text_room a.w.now a.from a.to (p.0, p.1) a.n p.2)

pub slice_bounds-kept-count : goal.slice_bounds-kept-count
slice_bounds-kept-count c =
    let a = c.args in
    let p = c.requires in
    omega (arith, text_room a.w.now a.from a.to (p.0, p.1) a.n p.2)

pub slice_bounds-kept-start : goal.slice_bounds-kept-start
slice_bounds-kept-start c =
    let a = c.args in
    let p = c.requires in
    omega (arith, text_room a.w.now a.from a.to (p.0, p.1) a.n p.2)

pub overflow_add-e : goal.overflow_add-e
overflow_add-e c =
    let a = c.args in
    let p = c.requires in
    let x = text_left a.w.now a.from a.to (p.0, p.1) a.n p.2 _ c.kept.ensures in
    search (rules, x)

pub overflow_sub-own : goal.overflow_sub-own
overflow_sub-own c =
    let a = c.args in
    let p = c.requires in
    (text_left a.w.now a.from a.to (p.0, p.1) a.n p.2 _ c.kept.ensures).0

pub overflow_sub-own-2 : goal.overflow_sub-own-2
overflow_sub-own-2 c =
    let a = c.args in
    let p = c.requires in
    (text_left a.w.now a.from a.to (p.0, p.1) a.n p.2 _ c.kept.ensures).1

pub returns-then-size-own : goal.returns-then-size-own
returns-then-size-own c =
    let a = c.args in
    let p = c.requires in
    text_beyond a.w.now a.from a.to (p.0, p.1) a.n p.2 _ c.kept.ensures a.size c.if-size-own.true

pub returns : goal.returns
returns c =
    let a = c.args in
    let p = c.requires in
    text_place a.w.now a.from a.to (p.0, p.1) a.n p.2 _ c.kept.ensures a.size c.if-size-own.false
