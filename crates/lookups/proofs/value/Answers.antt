use Rattle.std.proofs.lemmas.Result.{err_from_is_err_and}
use mathlib.Core.Path.{◌∙◌}
use Rattle.lookups.proofs.LookupLaws.{value_here, value_refused}
use Rattle.lookups.proofs.value.Goals as goal

pub value_at-requires : goal.value_at-requires
value_at-requires c =
    let b = rw c.in_ok-at.was at c.locate.ensures.1 in
    (b.inside, b.short, b.settled)

pub returns : goal.returns
returns c =
    let b = rw c.in_ok-at.was at c.locate.ensures.1 in
    c.value_at.ensures ∙ value_here c.args.file.now c.args.i _ b c.args.r c.args.f

pub returns-in_err-at : goal.returns-in_err-at
returns-in_err-at c =
    let b = rw c.in_err-at.was at c.locate.ensures.1 in
    let p = err_from_is_err_and c.from_residual.result c.from_residual.ensures.1 in
    rw (p.1, p.2) (value_refused c.args.file.now c.args.i _ b.0 b.1 c.args.r c.args.f)
