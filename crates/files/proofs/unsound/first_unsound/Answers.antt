use Rattle.seats.proofs.WalkLaws.{row_end, unsound_here, unsound_more, unsound_end}
use Rattle.page.proofs.CutLaws.{sections_all}
use Rattle.files.proofs.AnswerLaws.{unsound_told, unsound_none}
use Rattle.page.specs.File.{row_of, first_unsound}
use Rattle.page.specs.Cut.{Section}
use mathlib.Core.List.{List, map}
use borrow.Author.Rules.{rules}
use Prim.Native.Nat.{◌+◌}
use mathlib.Core.Path.{ap, sym, ◌∙◌}
use native.Mathlib.Omega.{arith}
use Rattle.files.proofs.unsound.first_unsound.Goals as goal

pub loop-at-init : goal.loop-at-init
loop-at-init c =
    let x = c.find_section-at.ensures in
    let a = c.args in
    (x.within, omega arith, x.settled, ap (λ (xs : List Section). first_unsound 1 (map (row_of a.latin) xs)) (x.same ∙ sections_all a.s.now))

pub overflow_add-at : goal.overflow_add-at
overflow_add-at c =
    let a = c.args in
    let x = row_end a.latin a.s.now c.loop-at.at c.read_section-row.result c.loop-at-test.true c.read_section-row.ensures in
    search rules

pub find_section-at-requires-in-loop-at : goal.find_section-at-requires-in-loop-at
find_section-at-requires-in-loop-at c =
    let a = c.args in
    (row_end a.latin a.s.now c.loop-at.at c.read_section-row.result c.loop-at-test.true c.read_section-row.ensures).2

pub returns-then-row-ne0 : goal.returns-then-row-ne0
returns-then-row-ne0 c =
    let a = c.args in
    let l = c.loop-at in
    let e = sym l.invariant.3 ∙ unsound_here a.s.now l.at l.i a.latin c.loop-at-test.true l.invariant.2 c.read_section-row.result c.read_section-row.ensures c.if-row-ne0.true in
    unsound_told _ _ _ _ e c.if-row-ne0.true

pub loop-at-smaller : goal.loop-at-smaller
loop-at-smaller c =
    let a = c.args in
    let r = c.read_section-row in
    let x = c.find_section-at-in-loop-at.ensures in
    let e = row_end a.latin a.s.now c.loop-at.at r.result c.loop-at-test.true r.ensures in
    omega arith

pub loop-at-preserved : goal.loop-at-preserved
loop-at-preserved c =
    let a = c.args in
    let l = c.loop-at in
    let r = c.read_section-row in
    let x = c.find_section-at-in-loop-at.ensures in
    let e = row_end a.latin a.s.now l.at r.result c.loop-at-test.true r.ensures in (
      x.within,
      omega (arith, x.after, e.1),
      x.settled,
      ap (λ (xs : List Section). first_unsound (l.i + 1) (map (row_of a.latin) xs)) x.same
          ∙ sym (unsound_more a.s.now l.at l.i a.latin c.loop-at-test.true l.invariant.2 r.result r.ensures c.if-row-ne0.false (l.at + r.result.length) e.0)
          ∙ l.invariant.3,
    )

pub returns : goal.returns
returns c =
    let a = c.args in
    let l = c.loop-at in
    unsound_none _ (sym l.invariant.3 ∙ unsound_end a.s.now l.at l.i a.latin c.loop-at-test.false)
