use Rattle.std.proofs.Common.{◌≡◌, sym}
use Rattle.std.specs.Prelude.{Some, None}
use Rattle.page.specs.Tables as Page
use Rattle.tables.specs.Rows.{rules_of}
use Rattle.tables.specs.declared.rows.Rule.TheVariants.{Points, Feeder}
use Rattle.rules.specs.Broken.{broken_by}
use Rattle.rules.proofs.RuleLaws.{points_in, feeder_in}
use Rattle.rules.proofs.judge_rules.Goals as goal

pub points_agree-requires : goal.points_agree-requires
points_agree-requires c =
    let x = c.in-Some-Points in
    points_in c.args.t x.p (rw x.field-0-is at x.ensures)

pub is_mixed-requires : goal.is_mixed-requires
is_mixed-requires c =
    let y = c.in-Some-Feeder in
    feeder_in c.args.t y.c y.x (rw y.field-0-is at y.ensures)

pub returns-in-Some-Points : goal.returns-in-Some-Points
unfolding broken_by
returns-in-Some-Points c =
    let x = c.in-Some-Points in
    let e : rules_of (Some (Points x.p)) ≡ Page.rules c.args.t = rw x.field-0-is at x.ensures in
    rw (← e, sym c.points_agree.ensures, c.if-points_agree.true)

pub returns-in-Some-Feeder : goal.returns-in-Some-Feeder
unfolding broken_by
returns-in-Some-Feeder c =
    let x = c.in-Some-Feeder in
    let e : rules_of (Some (Feeder x.c x.x)) ≡ Page.rules c.args.t = rw x.field-0-is at x.ensures in
    rw (← e, sym c.is_mixed.ensures, c.if-is_mixed.true)

pub returns-in_default : goal.returns-in_default
unfolding broken_by
returns-in_default c =
    let x = c.in-Some-Points in
    let e : rules_of (Some (Points x.p)) ≡ Page.rules c.args.t = rw x.field-0-is at x.ensures in
    rw (← e, sym c.points_agree.ensures, c.if-points_agree.false)

pub returns-in_default-2 : goal.returns-in_default-2
unfolding broken_by
returns-in_default-2 c =
    let x = c.in-Some-Feeder in
    let e : rules_of (Some (Feeder x.c x.x)) ≡ Page.rules c.args.t = rw x.field-0-is at x.ensures in
    rw (← e, sym c.is_mixed.ensures, c.if-is_mixed.false)

pub returns-in_default-3 : goal.returns-in_default-3
unfolding broken_by
returns-in_default-3 c =
    let e : rules_of None ≡ Page.rules c.args.t = rw c.in_default.is at c.find_rule.ensures in
    rw (← e)
