use Rattle.std.proofs.Common.{◌≡◌, ◌+◌, ◌*◌, ◌^◌, ◌≤◌, drop}
use Rattle.page.specs.Fields.{value}
use Rattle.dates.proofs.places.value_of.Given as goal

abbrev pub invariant-loop-b : goal.invariant-loop-b
invariant-loop-b l = (l.v + 23 ≤ 23 * 10 ^ l.b-index) × (value l.v (drop l.b-index l.w) ≡ value 0 l.w)
