use Rattle.std.specs.Prelude.{Err}
use mathlib.Core.Path.{◌≡◌}
use borrow.Author.Rules.{rules}
use Rattle.page.specs.File.{record_refusal}
use Rattle.seats.specs.Faults.{repeat_number}
use Rattle.files.proofs.AnswerLaws.{answered_stop, answered_on}
use Rattle.files.proofs.answer.check_records.Goals as goal

pub returns-in_err-first_repeat : goal.returns-in_err-first_repeat
unfolding record_refusal repeat_number
returns-in_err-first_repeat c =
    let r : c.from_residual.result ≡ Err c.in_err-first_repeat.field-0.0 = search rules in
    rw r (answered_stop _ _ _ c.in_err-first_repeat.ensures)

pub returns-in_err-first_repeat-2 : goal.returns-in_err-first_repeat-2
unfolding record_refusal repeat_number
returns-in_err-first_repeat-2 c =
    let r : c.from_residual-in_err-first_repeat-2.result ≡ Err c.in_err-first_repeat-2.field-0.0 = search rules in
    rw r (answered_on _ _ _ c.in_ok-first_repeat.ensures (answered_stop _ _ _ c.in_err-first_repeat-2.ensures))

pub returns : goal.returns
unfolding record_refusal repeat_number
returns c = answered_on _ _ _ c.in_ok-first_repeat.ensures (answered_on _ _ _ c.in_ok-first_repeat-2.ensures c.first_lost.ensures)
