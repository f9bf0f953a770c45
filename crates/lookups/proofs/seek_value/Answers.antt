use Prim.Native.Nat.{◌-◌}
use mathlib.Core.Path.{◌≡◌, ap, ◌∙◌}
use native.Mathlib.Omega.{arith}
use lib.ListN.{length, take, drop}
use Rattle.page.specs.Reading.{value_in}
use Rattle.page.specs.Places.{Standing}
use Rattle.page.proofs.ScanLaws.{part_length}
use Rattle.arrangement.specs.Orders.{held}
use Rattle.places.proofs.PlaceLaws.{placed_is}
use Rattle.lookups.proofs.seek_value.Goals as goal

pub value_in-requires : goal.value_in-requires
value_in-requires c =
    let a = c.args in
    let q = c.requires in
    let p = c.find_record-p in
    let n : length (take (p.result.to - p.result.from) (drop p.result.from a.s.now)) ≡ p.result.to - p.result.from = part_length p.result.from p.result.to a.s.now p.ensures.within in
    (q.2, q.3, rw n (omega (arith, p.ensures.order, p.ensures.within, q.1)))

pub returns : goal.returns
returns c =
    let a = c.args in
    let p = c.find_record-p in
    c.value_in.ensures ∙ ap (λ (x : Standing). value_in a.t (held a.t a.o.now) x a.f) (placed_is a.s.now _ p.result p.ensures)
