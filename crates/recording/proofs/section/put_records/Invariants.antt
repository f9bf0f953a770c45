use Rattle.std.proofs.Common.{◌≡◌, ◌+◌, ◌≤◌, true, length, drop}
use Rattle.page.specs.Lines.{lines}
use Rattle.arrangement.specs.Orders.{held}
use Rattle.output.proofs.OutputLaws.{Todo}
use Rattle.recording.specs.Said.{rows_of, passes}
use Rattle.copies.specs.Changed.{kept_records}
use Rattle.copies.specs.Planned.{records_by}
use Rattle.recording.proofs.section.put_records.Given as goal

abbrev pub invariant-loop-line : goal.invariant-loop-line
invariant-loop-line l =
    let at = l.line-iterator.at in
    let o = held l.t l.o in
    record {
      bytes : l.line-iterator.bytes.now ≡ l.s;
      within : at ≤ length l.s;
      few : l.n ≤ at;
      sound : passes l.t o l.m (lines (drop at l.s)) ≡ true;
      count : l.n + length (kept_records l.plan.stays (rows_of l.t o l.m (lines (drop at l.s)))) ≡ length (kept_records l.plan.stays (rows_of l.t o 0 (lines l.s)));
      form : Todo l.initial.out (records_by l.plan 0 (rows_of l.t o 0 (lines l.s))) l.out (records_by l.plan l.n (rows_of l.t o l.m (lines (drop at l.s))));
    }
