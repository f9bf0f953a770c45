use Rattle.std.proofs.Common.{◌≡◌, ◌+◌, ◌≤◌, sym, ◌∙◌, arith, true, length, get_or}
use borrow.Author.Tests.{not-false}
use Rattle.page.specs.Fields.{digit}
use Rattle.copies.proofs.StandLaws.{number_ends_if}
use Rattle.copies.proofs.standing.number_end.Goals as goal

pub returns : goal.returns
returns c =
    let a = c.args in
    let w = a.w.now in
    let x : a.p + 2 ≤ length w = omega (arith, c.if-w-p-lt2.false) in
    let d : digit (get_or w (a.p + 1) 0) ≡ true = sym c.is_digit.ensures ∙ not-false _ c.if-not-is_digit.false-raw in
    number_ends_if w a.p x c.if-w-p-ne32.false c.if-w-p-eq48.false d c.digits_end.result c.digits_end.ensures
