use Rattle.std.proofs.Common.{◌∙◌, sym}
use Rattle.page.proofs.TestLaws.{false_true}
use Rattle.fields.proofs.ColumnLaws.{text_walked}
use Rattle.fields.proofs.columns.text_from.Goals as goal

pub judge_text-requires : goal.judge_text-requires
judge_text-requires c = let x = c.in-Some.ensures in (x.1, x.2, x.5)

pub returns-in-Some : goal.returns-in-Some
returns-in-Some c =
    let a = c.args in
    let t = c.in-Some.text in
    let x = c.in-Some.ensures in
    (x.0, c.judge_text.ensures ∙ text_walked a.w.now a.at t.from t.end a.size x.3 x.4, λ e. x.6)

pub returns-in-None : goal.returns-in-None
returns-in-None c = let x = c.text_slowly.ensures in (x.0, x.1, λ e. false_true (sym x.2 ∙ e))
