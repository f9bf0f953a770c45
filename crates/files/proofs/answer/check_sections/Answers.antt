use Rattle.std.specs.Prelude.{Err}
use mathlib.Core.Path.{◌≡◌}
use borrow.Author.Rules.{rules}
use Rattle.page.specs.File.{section_refusal}
use Rattle.files.proofs.AnswerLaws.{answered_stop, answered_on, none_unsound, again_stop, again_on}
use Rattle.files.proofs.answer.check_sections.Goals as goal

pub returns-in_err-find_unsound : goal.returns-in_err-find_unsound
unfolding section_refusal
returns-in_err-find_unsound c =
    let r : c.from_residual.result ≡ Err c.in_err-find_unsound.field-0.0 = search rules in
    rw r (answered_stop _ _ _ c.in_err-find_unsound.ensures)

pub seat_tables-requires : goal.seat_tables-requires
seat_tables-requires c = none_unsound _ c.in_ok-find_unsound.ensures

pub returns-in_err-seats : goal.returns-in_err-seats
unfolding section_refusal
returns-in_err-seats c =
    let r : c.from_residual-in_err-seats.result ≡ Err c.in_err-seats.field-0.0 = search rules in
    rw r (answered_on _ _ _ c.in_ok-find_unsound.ensures (answered_stop _ _ _ (again_stop c.args.s.now _ c.in_err-seats.ensures)))

pub check_records-requires : goal.check_records-requires
check_records-requires c = c.in_ok-seats.ensures.1

pub returns : goal.returns
unfolding section_refusal
returns c = answered_on _ _ _ c.in_ok-find_unsound.ensures (answered_on _ _ _ (again_on c.args.s.now _ c.in_ok-seats.ensures) c.check_records.ensures)
