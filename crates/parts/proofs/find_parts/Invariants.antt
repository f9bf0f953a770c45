use Rattle.std.proofs.Common.{◌≡◌, length}
use Rattle.page.specs.Tables.{WIDEST}
use Rattle.page.specs.Places.{field_place}
use Rattle.parts.proofs.PartLaws.{Placed}
use Rattle.parts.proofs.find_parts.Given as goal

abbrev pub invariant-loop-k : goal.invariant-loop-k
invariant-loop-k l =
    record { begins : l.at ≡ field_place l.k 0 l.w; long : length l.parts ≡ WIDEST; placed : Placed l.t l.o l.w l.k l.parts }
