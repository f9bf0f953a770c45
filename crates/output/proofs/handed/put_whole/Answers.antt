use Rattle.std.proofs.Common.{refl, rules}
use Rattle.output.proofs.WriteLaws.{refused, no_room, fits}
use Rattle.output.proofs.handed.put_whole.Goals as goal

pub returns-then-refusal-ne0 : goal.returns-then-refusal-ne0
returns-then-refusal-ne0 g c = refused _ _ _ c.if-refusal-ne0.true

pub returns-in_err-refuse_room : goal.returns-in_err-refuse_room
returns-in_err-refuse_room g c =
    no_room _ _ _ c.if-refusal-ne0.false refl c.put.ensures c.refuse_room.ensures c.in_err-refuse_room.was (search rules)

pub returns : goal.returns
returns g c =
    fits _ _ _ c.if-refusal-ne0.false refl c.put.ensures c.refuse_room.ensures c.in_ok-refuse_room.was refl refl c.put-2.ensures
    (search rules)
