use Rattle.std.specs.Prelude.{Err}
use mathlib.Core.Path.{◌≡◌, ap, ◌∙◌}
use borrow.Author.Rules.{rules}
use Rattle.page.specs.Answers.{answered}
use Rattle.page.specs.File.{found, file_refusal}
use Rattle.page.specs.declared.Finding.{Finding}
use Rattle.page.specs.declared.Refusal.{Refusal}
use Rattle.files.proofs.AnswerLaws.{answered_stop, answered_on}
use Rattle.files.proofs.answer.check_all.Goals as goal

header_told : (a h : Refusal) → h ≡ a → answered h (tt {0}) ≡ answered a (tt {0})
header_told a h e = ap (λ (r : Refusal). answered r (tt {0})) e

trailer_told : (a f : Finding) → f ≡ a → answered (found f) (tt {0}) ≡ answered (found a) (tt {0})
trailer_told a f e = ap (λ (r : Finding). answered (found r) (tt {0})) e

pub returns-in_err-pass : goal.returns-in_err-pass
unfolding file_refusal
returns-in_err-pass c =
    let r : c.from_residual.result ≡ Err c.in_err-pass.field-0.0 = search rules in
    rw r (answered_stop _ _ _ (c.in_err-pass.ensures ∙ header_told _ _ c.refuse_header.ensures))

pub returns-in_err-pass-2 : goal.returns-in_err-pass-2
unfolding file_refusal
returns-in_err-pass-2 c =
    let r : c.from_residual-in_err-pass-2.result ≡ Err c.in_err-pass-2.field-0.0 = search rules in
    rw r
    (answered_on _ _ _ (c.in_ok-pass.ensures ∙ header_told _ _ c.refuse_header.ensures)
    (answered_stop _ _ _ (c.in_err-pass-2.ensures ∙ trailer_told _ _ c.read_trailer-trailer.ensures)))

pub returns : goal.returns
unfolding file_refusal
returns c =
    answered_on _ _ _ (c.in_ok-pass.ensures ∙ header_told _ _ c.refuse_header.ensures)
    (answered_on _ _ _ (c.in_ok-pass-2.ensures ∙ trailer_told _ _ c.read_trailer-trailer.ensures) c.check_sections.ensures)
