use Rattle.std.proofs.Common.{◌≤◌, length, sym, arith}
use lib.Seq.{length-take-le}
use Rattle.page.specs.Lines.{content}
use Rattle.page.proofs.ContentLaws.{content_le}
use Rattle.lines.proofs.content.content_of.Goals as goal

pub slice_bounds-result-end : goal.slice_bounds-result-end
slice_bounds-result-end c =
    let s = c.args.l.now in
    let h : c.content_len.result ≤ length s = omega (arith, content_le s) in
    sym (length-take-le _ s h)

pub returns : goal.returns
unfolding content
returns c = rw c.content_len.ensures
