use Rattle.std.proofs.Common.{◌≡◌, ◌+◌, ◌≤◌, max, false, length, drop}
use Rattle.page.specs.Fields.{field_size}
use Rattle.commands.proofs.fields.field_end.Given as goal

abbrev pub invariant-loop-i : goal.invariant-loop-i
invariant-loop-i l = (l.i ≤ max l.at (length l.w)) × (l.at + field_size false (drop l.at l.w) ≡ l.i + field_size l.inside (drop l.i l.w))
