use Rattle.std.specs.Prelude.{◌≡◌, Ok}
use Rattle.repeats.proofs.PartLaws.{Clean, Rising}
use Rattle.repeats.proofs.repeats.first_repeat.Given as goal

abbrev pub invariant-loop-line : goal.invariant-loop-line
invariant-loop-line l = (l.line-iterator.bytes.now ≡ l.w) × (l.found ≡ Ok (tt {0})) × Rising l.choice l.w l.top.k l.line-iterator.at

abbrev pub invariant-scan : goal.invariant-scan
invariant-scan l = (l.found ≡ Ok (tt {0})) × Clean l.s l.seats l.second l.i
