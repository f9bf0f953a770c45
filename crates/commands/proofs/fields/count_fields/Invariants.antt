use Rattle.std.proofs.Common.{◌≡◌, ◌+◌, ◌≤◌, length, drop}
use Rattle.page.specs.Fields.{split, fields}
use Rattle.commands.proofs.fields.count_fields.Given as goal

abbrev pub invariant-loop-b : goal.invariant-loop-b
invariant-loop-b l = (l.n ≤ l.b-index + 1) × (l.n + length (split l.inside (drop l.b-index l.w)) ≡ length (fields l.w) + 1)
