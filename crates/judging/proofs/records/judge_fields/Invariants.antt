use mathlib.Core.Path.{◌≡◌}
use mathlib.Core.Bool.{true}
use Prim.Native.Nat.{◌+◌, ◌≤◌}
use lib.ListN.{length, take, drop}
use Rattle.page.specs.Bytes.{all}
use Rattle.page.specs.Lines.{allowed}
use Rattle.page.specs.Fields.{fields}
use Rattle.page.specs.Tables.{WIDEST}
use Rattle.page.specs.Order.{standing}
use Rattle.page.specs.Section.{first_wrong}
use Rattle.page.proofs.FieldLaws.{from}
use Rattle.arrangement.specs.Orders.{held}
use Rattle.judging.specs.Judging.{Numbers}
use Rattle.judging.proofs.records.judge_fields.Given as goal

abbrev pub invariant-loop-k : goal.invariant-loop-k
invariant-loop-k l =
    let o = held l.t l.o in
    record {
      within : l.at ≤ length l.w + 1;
      first : first_wrong (drop l.k (standing l.t o)) (from l.w l.at) ≡ first_wrong (standing l.t o) (fields l.w);
      left : drop l.k (fields l.w) ≡ from l.w l.at;
      some : l.k ≤ length (fields l.w);
      wide : length l.numbers ≡ WIDEST;
      numbers : Numbers l.t l.o (fields l.w) l.k l.numbers;
      clean : l.clean ≡ true → all (allowed l.wide) (take l.at l.w) ≡ true;
    }
