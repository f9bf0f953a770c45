use mathlib.Core.Path.{◌≡◌, refl, sym, ◌∙◌}
use borrow.Author.Rules.{rules}
use native.Mathlib.Omega.{arith}
use Rattle.seats.proofs.RepeatLaws.{seat_bounds, seat_ordered}
use Rattle.repeats.proofs.PartLaws.{clean_first, clean_all, clean_more, repeats_here, rising_first, rising_next, rising_end}
use Rattle.repeats.proofs.repeats.first_repeat.Goals as goal

pub scan-init : goal.scan-init
scan-init c = (refl, clean_first _ _ _)

pub choose_key-choice-requires : goal.choose_key-choice-requires
choose_key-choice-requires c = (seat_ordered _ _ c.requires c.scan.i (omega arith) _ c.seat-seat.ensures).stands.orderly

pub find_part-w-requires : goal.find_part-w-requires
find_part-w-requires c = seat_bounds _ _ c.requires c.scan.i (omega arith) _ c.seat-seat.ensures

pub loop-line-init : goal.loop-line-init
loop-line-init c =
    let z : c.into_iter-line-iterator.result.at ≡ 0 = search rules in
    (search rules, c.scan.invariant.0, rw z (rising_first _ _ _))

pub loop-line-preserved : goal.loop-line-preserved
loop-line-preserved c =
    let v = c.loop-line.invariant in
    let t = rw v.0 at c.in-Some.ensures.steps.1 in
    let r = rw t.bytes at c.in-Ok.ensures in
    (search rules, v.1, rising_next _ _ _ _ v.2 _ t.before t.size _ r)

pub scan-preserved-in_default : goal.scan-preserved-in_default
scan-preserved-in_default c = (
  c.loop-line.invariant.1,
  clean_more _ _ c.requires _ _ c.scan.invariant.1 (omega arith) _ c.seat-seat.ensures _ c.choose_key-choice.ensures _ c.find_part-w.ensures c.in_default.ensures,
)

pub scan-preserved : goal.scan-preserved
scan-preserved c =
    let v = c.loop-line.invariant in
    let e = rw v.0 at c.in-None.ensures.steps.2 in (
      v.1,
      clean_more _ _ c.requires _ _ c.scan.invariant.1 (omega arith) _ c.seat-seat.ensures _ c.choose_key-choice.ensures _ c.find_part-w.ensures (rising_end _ _ _ _ v.2 e),
    )

pub returns-after-scan : goal.returns-after-scan
returns-after-scan c = c.scan.invariant.0 ∙ sym (clean_all _ _ c.requires _ c.scan.i c.scan.invariant.1 (omega arith))

pub returns-in-Some-find_repeat : goal.returns-in-Some-find_repeat
returns-in-Some-find_repeat c =
    let n = c.in-Some-find_repeat.ensures in
    rw c.repeat_number.ensures
    (sym (repeats_here _ _ c.requires _ _ c.scan.invariant.1 (omega arith) _ c.seat-seat.ensures _ c.choose_key-choice.ensures _ c.find_part-w.ensures _ n.0 n.1))
