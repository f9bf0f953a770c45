use mathlib.Core.Path.{◌∙◌}
use Rattle.arrangement.specs.Orders.{held}
use Rattle.values.proofs.StartLaws.{place_few, column_value}
use Rattle.values.proofs.value_in.Goals as goal

pub find_start-requires : goal.find_start-requires
find_start-requires c =
    let a = c.args in
    let p = c.find_place-p in
    place_few _ a.t a.o.now p.result c.requires.0 p.ensures

pub read_value-requires : goal.read_value-requires
read_value-requires c =
    let a = c.args in
    let p = c.find_place-p in
    (place_few _ a.t a.o.now p.result c.requires.0 p.ensures, c.find_start.ensures, c.requires.2)

pub returns : goal.returns
returns c =
    let a = c.args in
    let n = c.saturating_sub-c in
    let p = c.find_place-p in
    let d = c.find_column in
    c.read_value.ensures
    ∙ column_value a.t a.f n.result p.result a.at a.m (held a.t a.o.now) a.w.now d.result n.ensures p.ensures
    d.ensures
