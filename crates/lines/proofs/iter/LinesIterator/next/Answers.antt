use Rattle.std.proofs.Common.{refl, ◌∙◌, arith, rules}
use Rattle.page.proofs.ScanLaws.{part_length}
use Rattle.lines.proofs.CursorLaws.{handed}
use Rattle.lines.proofs.iter.LinesIterator.next.Goals as goal

pub slice_bounds-result-count : goal.slice_bounds-result-count
slice_bounds-result-count c =
    let x = handed _ _ _ c.if-s-at.false c.line-walked.ensures in
    omega arith

pub slice_bounds-result-start : goal.slice_bounds-result-start
slice_bounds-result-start c =
    let x = handed _ _ _ c.if-s-at.false c.line-walked.ensures in
    omega arith

pub slice_bounds-result-end : goal.slice_bounds-result-end
slice_bounds-result-end c =
    let x = handed _ _ _ c.if-s-at.false c.line-walked.ensures in
    omega arith

pub returns-clause-steps : goal.returns-clause-steps
returns-clause-steps c =
    let x = handed _ _ _ c.if-s-at.false c.line-walked.ensures in
    let e = c.line-walked.result.span.to in
    (refl, record { before = c.if-s-at.false; at = refl; bytes = rw x.next; size = x.next ∙ x.size; some = omega arith; within = omega arith; long = omega (arith, part_length c.args.self.now.at e c.args.self.now.bytes.now x.within); cut = rw x.next x.cut })

pub returns-clause-goes : goal.returns-clause-goes
returns-clause-goes c =
    let x = handed _ _ _ c.if-s-at.false c.line-walked.ensures in
    search rules
