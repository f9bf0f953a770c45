use borrow.Author.Rules.{rules}
use Rattle.seats.proofs.RepeatLaws.{scan_bounds}
use Rattle.repeats.specs.Parts.{scan_part}
use Rattle.repeats.proofs.repeats.find_part.Goals as goal

pub slice_bounds-result-count : goal.slice_bounds-result-count
slice_bounds-result-count c = (scan_bounds _ _ c.requires _ _ c.find_end-to.ensures).0

pub slice_bounds-result-start : goal.slice_bounds-result-start
slice_bounds-result-start c =
    let b = scan_bounds _ _ c.requires _ _ c.find_end-to.ensures in
    search rules

pub slice_bounds-result-end : goal.slice_bounds-result-end
slice_bounds-result-end c =
    let b = scan_bounds _ _ c.requires _ _ c.find_end-to.ensures in
    search rules

pub returns : goal.returns
unfolding scan_part
returns c = rw c.find_end-to.ensures
