use mathlib.Core.Path.{ap, sym, ◌∙◌}
use Rattle.page.specs.declared.Refusal.{Refusal}
use Rattle.page.specs.Reading.{section_at, value_refusal, value_at, value_of}
use Rattle.handing.proofs.TextLaws.{got_is, got_refused}
use Rattle.forms.proofs.FillingLaws.{fill_unsound, asked_there, fill_nowhere, fill_there}
use Rattle.forms.proofs.answer.refuse_fill.Goals as goal

pub returns-then-verdict-ne0 : goal.returns-then-verdict-ne0
returns-then-verdict-ne0 c = fill_unsound _ _ _ _ _ _ c.check_file-verdict.ensures c.if-verdict-ne0.true

pub judge_fill-requires : goal.judge_fill-requires
unfolding value_of
judge_fill-requires c =
    let a = c.args in
    let s = a.s.now in
    let g = got_is (value_refusal s a.section a.«record» a.field) (value_at (section_at s a.section) a.«record» a.field) _ (sym c.in-Ok.is ∙ c.value.ensures) in
    asked_there s a.section a.«record» a.field g.0

pub returns-in-Ok : goal.returns-in-Ok
unfolding value_of
returns-in-Ok c =
    let a = c.args in
    let s = a.s.now in
    let g = got_is (value_refusal s a.section a.«record» a.field) (value_at (section_at s a.section) a.«record» a.field) _ (sym c.in-Ok.is ∙ c.value.ensures) in
    fill_there s _ _ _ _ (sym (ap (λ (r : Refusal). r.number) c.check_file-verdict.ensures) ∙ c.if-verdict-ne0.false) g.0 _ g.1 _ c.judge_fill.ensures

pub returns-in-Err : goal.returns-in-Err
unfolding value_of
returns-in-Err c =
    let a = c.args in
    let s = a.s.now in
    let g = got_refused (value_refusal s a.section a.«record» a.field) _ (value_at (section_at s a.section) a.«record» a.field) (sym c.in-Err.is ∙ c.value.ensures) in
    fill_nowhere s _ _ _ _ (sym (ap (λ (r : Refusal). r.number) c.check_file-verdict.ensures) ∙ c.if-verdict-ne0.false) _ g.1 g.0
