use Rattle.std.proofs.Common.{◌≡◌, ◌+◌, ◌≤◌, length}
use mathlib.Core.List.{map}
use Rattle.page.specs.Cut.{sections}
use Rattle.page.proofs.CutLaws.{sections_from}
use Rattle.cut.specs.Walk.{Settled}
use Rattle.output.proofs.OutputLaws.{Todo}
use Rattle.recording.specs.Said.{said_in, PassingIn}
use Rattle.copies.specs.Planned.{tables_by}
use Rattle.writing.proofs.file.put_sections.Given as goal

abbrev pub invariant-loop-section : goal.invariant-loop-section
invariant-loop-section l =
    let at = l.section-iterator.at in
    record {
      bytes : l.section-iterator.bytes.now ≡ l.s;
      few : l.n ≤ at;
      settled : Settled l.s at;
      passing : PassingIn (sections_from l.s at);
      count : l.n + length (sections_from l.s at) ≡ length (sections l.s);
      form : Todo l.initial.out (tables_by l.plan 0 (map said_in (sections l.s))) l.out (tables_by l.plan l.n (map said_in (sections_from l.s at)));
    }
