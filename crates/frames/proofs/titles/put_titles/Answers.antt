use Rattle.std.proofs.Common.{arith}
use Rattle.frames.specs.Titles.{titles}
use Rattle.output.proofs.OutputLaws.{next_by, at_end, puts, put_as}
use Rattle.frames.proofs.TitleLaws.{separated_more, separated_end, titles_line, titles_count, title_is}
use Rattle.frames.proofs.titles.put_titles.Goals as goal

pub loop-k-preserved : goal.loop-k-preserved
loop-k-preserved c =
    let a = c.args in
    next_by
    (separated_more (titles a.formats a.t) c.loop-k.k _ _ (omega (arith, titles_count a.formats a.t)) (title_is a.formats a.t c.loop-k.k))
    c.loop-k.invariant (puts c.put_separator.ensures c.put_title.ensures)

pub returns : goal.returns
returns c =
    let a = c.args in
    let z = separated_end (titles a.formats a.t) c.loop-k.k (omega (arith, titles_count a.formats a.t)) in
    put_as (titles_line _ _ (titles a.formats a.t))
    (puts c.put_bytes.ensures (puts (at_end z c.loop-k.invariant) c.put_line_end.ensures))
