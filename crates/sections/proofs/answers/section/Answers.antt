use Rattle.std.proofs.lemmas.Result.{err_from_is_err_and}
use Rattle.sections.proofs.AnswerLaws.{section_here, section_refused}
use Rattle.sections.proofs.answers.section.Goals as goal

pub read_section-requires : goal.read_section-requires
read_section-requires c =
    let b = rw c.in_ok-at.was at c.locate.ensures.1 in
    b.inside

pub returns : goal.returns
returns c =
    let b = rw c.in_ok-at.was at c.locate.ensures.1 in
    rw (c.read_section.ensures, c.read_charset-latin.ensures) (section_here c.args.file.now c.args.i _ b)

pub returns-in_err-at : goal.returns-in_err-at
returns-in_err-at c =
    let b = rw c.in_err-at.was at c.locate.ensures.1 in
    let p = err_from_is_err_and c.from_residual.result c.from_residual.ensures.1 in
    rw (p.1, p.2) (section_refused c.args.file.now c.args.i _ b.0 b.1)
