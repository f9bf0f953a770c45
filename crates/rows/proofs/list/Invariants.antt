use Rattle.std.proofs.Common.{◌≡◌, length}
use Rattle.steps.specs.Steps.{at_of}
use Rattle.rows.specs.Walk.{sound_at, filled}
use Rattle.rows.proofs.list.Given as goal

-- the rows are filled up to i, the place is that of section i, and it is known whether all before it are sound
abbrev pub invariant-loop-i : goal.invariant-loop-i
invariant-loop-i l =
    record {
      rows : l.rows ≡ filled l.file l.initial.rows l.i;
      place : l.at ≡ at_of l.file (length l.initial.rows) l.i;
      known : l.sound ≡ sound_at l.file l.i;
    }
