use mathlib.Core.Path.{◌≡◌, refl, sym, ◌∙◌}
use mathlib.Core.Bool.{true}
use lib.Dec.{eqb}
use lib.ListN.{length}
use borrow.Author.Tests.{eqb-true, eq-eqb, ne_eqb}
use Rattle.page.specs.Fields.{fields}
use Rattle.page.specs.Tables.{width}
use Rattle.page.specs.Order.{by_column}
use Rattle.page.specs.Section.{rec_verdict}
use Rattle.arrangement.specs.Orders.{held}
use Rattle.rules.proofs.RuleLaws.{rules_known}
use Rattle.judging.proofs.records.judge_rest.Goals as goal

pub returns-then-not-has_width : goal.returns-then-not-has_width
unfolding rec_verdict
returns-then-not-has_width c = rw (sym c.has_width.ensures ∙ c.if-not-has_width.true)

pub returns-then-broken-ne0 : goal.returns-then-broken-ne0
unfolding rec_verdict
returns-then-broken-ne0 c =
    let a = c.args in
    let j = c.requires in
    let n : eqb (length (fields a.w.now)) (width a.t) ≡ true = sym c.has_width.ensures ∙ c.if-not-has_width.false in
    let p = rules_known a.t (by_column (held a.t a.o.now) (fields a.w.now)) a.j.now.numbers (j.numbers refl (eqb-true _ _ n)) in
    let s = sym p ∙ sym c.judge_rules-broken.ensures in
    rw (n, sym j.first, s, ne_eqb c.judge_rules-broken.result 0 c.if-broken-ne0.true)

pub returns-then-marks_empty : goal.returns-then-marks_empty
unfolding rec_verdict
returns-then-marks_empty c =
    let a = c.args in
    let j = c.requires in
    let n : eqb (length (fields a.w.now)) (width a.t) ≡ true = sym c.has_width.ensures ∙ c.if-not-has_width.false in
    let p = rules_known a.t (by_column (held a.t a.o.now) (fields a.w.now)) a.j.now.numbers (j.numbers refl (eqb-true _ _ n)) in
    let s = sym p ∙ sym c.judge_rules-broken.ensures in
    rw (n, sym j.first, s, eq-eqb c.judge_rules-broken.result 0 c.if-broken-ne0.false, sym c.marks_empty.ensures ∙ c.if-marks_empty.true)

pub returns-else-marks_empty : goal.returns-else-marks_empty
unfolding rec_verdict
returns-else-marks_empty c =
    let a = c.args in
    let j = c.requires in
    let n : eqb (length (fields a.w.now)) (width a.t) ≡ true = sym c.has_width.ensures ∙ c.if-not-has_width.false in
    let p = rules_known a.t (by_column (held a.t a.o.now) (fields a.w.now)) a.j.now.numbers (j.numbers refl (eqb-true _ _ n)) in
    let s = sym p ∙ sym c.judge_rules-broken.ensures in
    rw (n, sym j.first, s, eq-eqb c.judge_rules-broken.result 0 c.if-broken-ne0.false, sym c.marks_empty.ensures ∙ c.if-marks_empty.false)
