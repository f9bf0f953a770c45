use mathlib.Core.Path.{sym, ◌∙◌}
use Prim.Native.Nat.{◌-◌}
use lib.ListN.{take, drop}
use Rattle.page.specs.Bytes.{trim}
use Rattle.amounts.proofs.AmountLaws.{number_plus, number_minus, number_none}
use Rattle.amounts.proofs.judge_number.Goals as goal

pub returns-in-Plus : goal.returns-in-Plus
returns-in-Plus c =
    let a = c.args in
    let p = c.requires in
    let f = trim (take (a.to - a.from) (drop a.from a.w.now)) in
    c.judge_amount.ensures ∙ number_plus a.column f p.2 _ (sym c.in-Plus.is ∙ p.3)

pub returns-in-Minus : goal.returns-in-Minus
returns-in-Minus c =
    let a = c.args in
    let p = c.requires in
    let f = trim (take (a.to - a.from) (drop a.from a.w.now)) in
    number_minus a.column f p.2 _ (sym c.in-Minus.is ∙ p.3)

pub returns-in-Nothing : goal.returns-in-Nothing
returns-in-Nothing c =
    let a = c.args in
    let p = c.requires in
    let f = trim (take (a.to - a.from) (drop a.from a.w.now)) in
    c.judge_nothing.ensures ∙ number_none a.column f p.2 (sym c.in-Nothing.is ∙ p.3)
