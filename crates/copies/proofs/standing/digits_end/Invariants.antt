use Rattle.std.proofs.Common.{◌≡◌, ◌+◌, ◌-◌, ◌<◌, ◌≤◌, false, drop, get_or}
use Rattle.page.specs.Fields.{field_size}
use Rattle.copies.proofs.standing.digits_end.Given as goal

abbrev pub invariant-loop-i : goal.invariant-loop-i
invariant-loop-i l =
    record {
      ends : l.from + field_size false (drop l.from l.w) ≡ l.i + field_size false (drop l.i l.w);
      digit_before : l.from < l.i → 48 ≤ get_or l.w (l.i - 1) 0;
    }
