use Prim.Native.Nat.{◌-◌, ◌≤◌}
use mathlib.Core.Path.{◌≡◌}
use lib.ListN.{length, drop}
use Rattle.page.specs.Lines.{lines}
use Rattle.page.specs.Section.{run, outcome}
use Rattle.machine.specs.Carries.{records_in, order_at, Carries}
use Rattle.sections.proofs.reading.read_lines.Given as goal

abbrev pub invariant-loop-line : goal.invariant-loop-line
invariant-loop-line l = record {
  within : l.at ≤ length l.s;
  read : l.n ≤ l.at;
  counted : records_in l.p ≤ l.n;
  carries : Carries l.p l.o;
  ran : run l.latin l.p (order_at l.p l.o) l.n (lines (drop l.at l.s)) ≡ outcome l.latin (lines l.s);
}

abbrev pub decreases-loop-line : goal.decreases-loop-line
decreases-loop-line l = length l.s - l.at
