use Rattle.std.proofs.Common.{◌≡◌, ◌<◌, ◌^◌, drop}
use Rattle.page.specs.Bytes.{all}
use Rattle.page.specs.Fields.{digit, value}
use Rattle.digits.proofs.numbers.read_digits.Given as goal

abbrev pub invariant-loop-b : goal.invariant-loop-b
invariant-loop-b l = (l.v < 10 ^ l.b-index) × (all digit l.ds ≡ all digit (drop l.b-index l.ds)) × (value 0 l.ds ≡ value l.v (drop l.b-index l.ds))
