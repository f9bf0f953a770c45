use Rattle.std.proofs.lemmas.Result.{err_from_is_err_and}
use Rattle.grids.proofs.AnswerLaws.{table_missing}
use Rattle.grids.proofs.table.Goals as goal

pub hand_table-requires : goal.hand_table-requires
hand_table-requires c = rw c.in_ok-at.was at c.locate.ensures.1

pub returns-in_err-at : goal.returns-in_err-at
returns-in_err-at c =
    let a = c.args in
    let b = rw c.in_err-at.was at c.locate.ensures.1 in
    let p = err_from_is_err_and c.from_residual.result c.from_residual.ensures.1 in
    rw (p.1, p.2) (table_missing a.file.now a.section a.cells.now _ b.0 b.1)
