use Prim.Native.Nat.{suc, ◌+◌}
use mathlib.Core.Path.{◌≡◌, ◌∙◌}
use native.Mathlib.Omega.{arith}
use borrow.Author.Rules.{rules}
use Rattle.values.proofs.StartLaws.{field_is, field_none, field_fits}
use Rattle.values.proofs.read_value.Goals as goal

pub returns-then-w-start : goal.returns-then-w-start
returns-then-w-start c =
    let a = c.args in
    let q = c.requires in
    c.hand_nothing.ensures ∙ field_none a.w.now a.p a.start q.1 c.if-w-start.true _ a.at a.column

pub hand_field-requires : goal.hand_field-requires
hand_field-requires c =
    let a = c.args in
    let r = c.read_field-r in
    field_fits a.w.now a.start a.at (search rules) c.requires.2 a.column r.result.field r.ensures.1

pub returns : goal.returns
returns c =
    let a = c.args in
    let r = c.read_field-r in
    let f = field_is a.w.now a.p a.start c.requires.1 (search rules) a.column r.result.field r.ensures.1 in
    let z : a.p + 1 ≡ suc a.p = omega arith in
    c.hand_field.ensures ∙ rw (f, c.owner_of.ensures, z)
