use Rattle.std.proofs.lemmas.Result.{err_from_is_err_and}
use Rattle.handing.proofs.TextLaws.{got_is, got_refused, value_spans, value_gave, text_refused}
use Rattle.page.specs.Reading.{section_at, value_refusal, value_at, value_of}
use mathlib.Core.Path.{sym, ◌∙◌}
use Rattle.handing.proofs.text.Goals as goal

pub hand_value-requires : goal.hand_value-requires
unfolding value_of
hand_value-requires c =
    let a = c.args in
    let s = a.file.now in
    let g = got_is (value_refusal s a.i a.r a.f) (value_at (section_at s a.i) a.r a.f) _ (sym c.in_ok-v.was ∙ c.value.ensures) in
    value_spans s a.i a.r a.f g.0 _ g.1

pub returns : goal.returns
unfolding value_of
returns c =
    let a = c.args in
    let s = a.file.now in
    let g = got_is (value_refusal s a.i a.r a.f) (value_at (section_at s a.i) a.r a.f) _ (sym c.in_ok-v.was ∙ c.value.ensures) in
    value_gave s a.i a.r a.f g.0 _ g.1 _ _ _ c.hand_value.ensures

pub returns-in_err-v : goal.returns-in_err-v
unfolding value_of
returns-in_err-v c =
    let a = c.args in
    let s = a.file.now in
    let g = got_refused (value_refusal s a.i a.r a.f) _ (value_at (section_at s a.i) a.r a.f) (sym c.in_err-v.was ∙ c.value.ensures) in
    let p = err_from_is_err_and c.from_residual.result c.from_residual.ensures.1 in
    rw (p.1, p.2) (text_refused s a.i a.r a.f _ g.0 g.1 a.out.now)
