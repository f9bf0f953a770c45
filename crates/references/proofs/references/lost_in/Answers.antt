use mathlib.Core.Path.{refl}
use borrow.Author.Rules.{rules}
use Rattle.seats.proofs.RepeatLaws.{seat_bounds, seat_ordered}
use Rattle.aims.proofs.AimLaws.{lost_by, lost_nothing}
use Rattle.references.proofs.references.lost_in.Goals as goal

pub returns-then-count_references-eq0 : goal.returns-then-count_references-eq0
returns-then-count_references-eq0 c = lost_nothing _ _ c.args.i _ c.seat-seat.ensures _ c.count_references.ensures c.if-count_references-eq0.true

pub slice_bounds-section-count : goal.slice_bounds-section-count
slice_bounds-section-count c = (seat_bounds _ _ c.requires.0 c.args.i c.requires.1 _ c.seat-seat.ensures).0

pub slice_bounds-section-start : goal.slice_bounds-section-start
slice_bounds-section-start c =
    let b = seat_bounds _ _ c.requires.0 c.args.i c.requires.1 _ c.seat-seat.ensures in
    search rules

pub slice_bounds-section-end : goal.slice_bounds-section-end
slice_bounds-section-end c =
    let b = seat_bounds _ _ c.requires.0 c.args.i c.requires.1 _ c.seat-seat.ensures in
    search rules

pub take_aims-requires : goal.take_aims-requires
take_aims-requires c = (c.requires.0, (seat_ordered _ _ c.requires.0 c.args.i c.requires.1 _ c.seat-seat.ensures).stands)

pub returns : goal.returns
returns c =
    let o = seat_ordered _ _ c.requires.0 c.args.i c.requires.1 _ c.seat-seat.ensures in
    rw (lost_by _ _ c.args.i _ c.seat-seat.ensures o _ c.take_aims.ensures _ refl) c.find_lost.ensures
