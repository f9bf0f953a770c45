use Rattle.std.proofs.Common.{rules, refl, ◌∙◌, arith, ℕ, ◌<◌, ◌≤◌, length}
use lib.ListN.{length-set}
use Rattle.page.specs.Tables.{width}
use Rattle.page.specs.Order.{place}
use Rattle.page.specs.Places.{field_place}
use Rattle.page.proofs.FieldLaws.{end_in}
use Rattle.page.proofs.TableLaws.{width_le}
use Rattle.arrangement.specs.Orders.{held}
use Rattle.starts.proofs.StartLaws.{place_on}
use Rattle.copies.proofs.ReadLaws.{field_begins}
use Rattle.parts.proofs.PartLaws.{placed_more, placed_all}
use Rattle.parts.proofs.find_parts.Goals as goal

pub loop-k-init : goal.loop-k-init
unfolding field_place
loop-k-init c =
    let a = c.args in
    record { begins = refl; long = refl; placed = λ (i : ℕ) (h : i < width a.t) (l : place i (held a.t a.o.now) < 0). absurd (omega arith) }

pub written_end-requires : goal.written_end-requires
written_end-requires c =
    let l = c.loop-k in
    rw l.invariant.begins (field_begins c.args.w.now l.k (omega (arith, c.requires.1)))

pub bounds-o-k : goal.bounds-o-k
bounds-o-k c = omega (arith, width_le c.args.t)

pub overflow_add-at : goal.overflow_add-at
overflow_add-at c =
    let a = c.args in
    let l = c.loop-k in
    let w = a.w.now in
    let b : l.at ≤ length w = rw l.invariant.begins (field_begins w l.k (omega (arith, c.requires.1))) in
    let h = end_in w l.at c.in_ok-to.to b c.in_ok-to.ensures.size in
    search rules

pub loop-k-preserved : goal.loop-k-preserved
loop-k-preserved c =
    let a = c.args in
    let l = c.loop-k in
    let w = a.w.now in
    let e = c.in_ok-to.to in
    let u = c.in_ok-to.ensures in
    let g : l.k < width a.t = omega arith in
    record {
      begins = place_on w l.k l.at e l.invariant.begins u.size;
      long = length-set l.parts _ _ ∙ l.invariant.long;
      placed = placed_more a.t a.o.now c.requires.0 w l.k l.at e l.parts g l.invariant.long l.invariant.placed l.invariant.begins u;
    }

pub returns : goal.returns
returns c =
    let a = c.args in
    let l = c.loop-k in
    placed_all a.t a.o.now c.requires.0 a.w.now l.k l.parts (omega arith) l.invariant.placed
