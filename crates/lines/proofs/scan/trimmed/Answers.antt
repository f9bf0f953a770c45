use Rattle.page.proofs.ScanLaws.{trim_within}
use Rattle.page.specs.Bytes.{trim}
use Rattle.lines.proofs.scan.trimmed.Goals as goal

pub slice_bounds-result-count : goal.slice_bounds-result-count
slice_bounds-result-count c = rw c.trim-part.ensures (trim_within c.args.s.now).0

pub slice_bounds-result-start : goal.slice_bounds-result-start
slice_bounds-result-start c = rw c.trim-part.ensures (trim_within c.args.s.now).0

pub slice_bounds-result-end : goal.slice_bounds-result-end
slice_bounds-result-end c = rw c.trim-part.ensures (trim_within c.args.s.now).1

pub returns : goal.returns
unfolding trim
returns c = rw c.trim-part.ensures
