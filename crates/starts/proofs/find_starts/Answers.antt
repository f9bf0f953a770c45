use mathlib.Core.Path.{refl, ◌∙◌}
use mathlib.Core.Bool.{false}
use Prim.Native.Nat.{ℕ, ◌+◌, ◌<◌, ◌≤◌}
use native.Mathlib.Omega.{arith}
use borrow.Author.Rules.{rules}
use lib.ListN.{length, drop, length-drop, length-set}
use Rattle.page.specs.Tables.{width}
use Rattle.page.specs.Places.{field_place}
use Rattle.page.proofs.FieldLaws.{field_le}
use Rattle.page.proofs.TableLaws.{width_le}
use Rattle.starts.proofs.StartLaws.{starts_more, place_on}
use Rattle.starts.proofs.find_starts.Goals as goal

pub loop-k-init : goal.loop-k-init
unfolding field_place
loop-k-init c = (omega arith, refl, refl, λ (p : ℕ) (l : p < 0). absurd (omega arith))

pub offset_bounds-starts-k : goal.offset_bounds-starts-k
offset_bounds-starts-k c = let l = width_le c.args.t in omega arith

pub bounds-starts-k : goal.bounds-starts-k
bounds-starts-k c = let l = width_le c.args.t in omega arith

pub overflow_add-at : goal.overflow_add-at
overflow_add-at c =
    let a = c.args in
    let l = c.loop-k in
    let e = c.field_end-at in
    let g = width_le a.t in
    let h : e.result ≤ length a.w.now + l.k = omega (arith, field_le false (drop l.at a.w.now), length-drop l.at a.w.now) in
    search rules

pub loop-k-preserved : goal.loop-k-preserved
loop-k-preserved c =
    let a = c.args in
    let l = c.loop-k in
    let e = c.field_end-at in
    let g = width_le a.t in
    let h : e.result ≤ length a.w.now + l.k = omega (arith, field_le false (drop l.at a.w.now), length-drop l.at a.w.now) in
    let n : l.k < length l.starts = omega (arith, l.invariant.2) in (
      omega arith,
      place_on a.w.now l.k l.at e.result l.invariant.1 e.ensures,
      length-set l.starts l.k l.at ∙ l.invariant.2,
      starts_more a.w.now l.k l.at l.starts n l.invariant.3 l.invariant.1,
    )

pub returns : goal.returns
returns c = λ (p : ℕ) (h : p < width c.args.t). c.loop-k.invariant.3 p (omega arith)
