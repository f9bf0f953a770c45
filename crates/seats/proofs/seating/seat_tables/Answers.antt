use Rattle.std.proofs.Common.{◌≡◌, refl, arith, rules}
use Rattle.page.specs.Tables.{TABLES}
use Rattle.seats.proofs.SeatLaws.{going_few, none_taken, going_first, stating_none, stating_more, table_known, told_here, going_again, seat_room, going_more, going_end}
use Rattle.seats.proofs.seating.seat_tables.Goals as goal

pub loop-section-init : goal.loop-section-init
loop-section-init c =
    let s = c.args.s.now in
    let k = c.sections_of-section-items in
    let e : c.into_iter-section-iterator.result ≡ k.result = search rules in
    rw e (k.ensures.bytes, going_first s _ k.ensures.at _ refl _ refl (none_taken TABLES), stating_none s _)

pub bounds-place-table : goal.bounds-place-table
bounds-place-table c =
    let f = rw c.loop-section.invariant.0 at c.in-Some.ensures.steps.1 in
    table_known _ c.requires _ _ _ _ c.loop-section.invariant.1 _ _ f _ c.table_at-table.ensures

pub offset_bounds-place-table : goal.offset_bounds-place-table
offset_bounds-place-table c =
    let f = rw c.loop-section.invariant.0 at c.in-Some.ensures.steps.1 in
    let k = table_known _ c.requires _ _ _ _ c.loop-section.invariant.1 _ _ f _ c.table_at-table.ensures in
    search rules

pub overflow_add-result : goal.overflow_add-result
overflow_add-result c =
    let k = going_few _ _ _ _ _ c.loop-section.invariant.1 in
    search rules

pub returns-then-place-table-ne0 : goal.returns-then-place-table-ne0
returns-then-place-table-ne0 c =
    let f = rw c.loop-section.invariant.0 at c.in-Some.ensures.steps.1 in
    (going_again _ c.requires _ _ _ _ c.loop-section.invariant.1 _ _ f _ c.table_at-table.ensures c.if-place-table-ne0.true, λ z. omega arith)

pub bounds-seats-count : goal.bounds-seats-count
bounds-seats-count c =
    let f = rw c.loop-section.invariant.0 at c.in-Some.ensures.steps.1 in
    seat_room _ c.requires _ _ _ _ c.loop-section.invariant.1 _ _ f _ c.table_at-table.ensures c.if-place-table-ne0.false

pub offset_bounds-seats-count : goal.offset_bounds-seats-count
offset_bounds-seats-count c =
    let k = going_few _ _ _ _ _ c.loop-section.invariant.1 in
    search rules

pub overflow_add-count : goal.overflow_add-count
overflow_add-count c =
    let k = going_few _ _ _ _ _ c.loop-section.invariant.1 in
    search rules

pub bounds-place-table-in-loop-section : goal.bounds-place-table-in-loop-section
bounds-place-table-in-loop-section c =
    let f = rw c.loop-section.invariant.0 at c.in-Some.ensures.steps.1 in
    table_known _ c.requires _ _ _ _ c.loop-section.invariant.1 _ _ f _ c.table_at-table.ensures

pub offset_bounds-place-table-in-loop-section : goal.offset_bounds-place-table-in-loop-section
offset_bounds-place-table-in-loop-section c =
    let f = rw c.loop-section.invariant.0 at c.in-Some.ensures.steps.1 in
    let k = table_known _ c.requires _ _ _ _ c.loop-section.invariant.1 _ _ f _ c.table_at-table.ensures in
    search rules

pub loop-section-preserved : goal.loop-section-preserved
loop-section-preserved c =
    let f = rw c.loop-section.invariant.0 at c.in-Some.ensures.steps.1 in
    let l = c.loop-section in
    let t = c.table_at-table in
    let z = c.if-place-table-ne0.false in
    let e = c.end in
    let o = c.find_order-order in
    let k = seat_room _ c.requires _ _ _ _ c.loop-section.invariant.1 _ _ f _ c.table_at-table.ensures z in (
      search rules,
      going_more _ c.requires _ _ _ _ l.invariant.1 _ _ f t.result t.ensures e.result e.ensures z o.result,
      stating_more _ _ l.seats (omega (arith, l.invariant.1.long)) l.invariant.2 (record { table = t.result; from = c.in-Some.section.at; to = e.result; order = o.result }) (told_here _ c.requires _ _ _ _ c.loop-section.invariant.1 _ _ f _ c.table_at-table.ensures e.result e.ensures o.result o.ensures),
    )

pub returns : goal.returns
returns c =
    let o = rw c.loop-section.invariant.0 at c.in-None.ensures.steps.2 in
    going_end _ c.requires _ _ _ _ c.loop-section.invariant.1 c.loop-section.invariant.2 o
