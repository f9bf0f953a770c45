use mathlib.Core.Path.{◌≡◌}
use lib.ListN.{drop}
use Rattle.page.specs.Lines.{lines}
use Rattle.page.specs.Records.{atr_in}
use Rattle.names.proofs.orders.find_names.Given as goal

abbrev pub invariant-loop-line : goal.invariant-loop-line
invariant-loop-line l =
    (l.line-iterator.bytes.now ≡ l.s) × (atr_in (lines (drop l.line-iterator.at l.s)) ≡ atr_in (lines l.s))
