-- A text's owner, told beside what was written of it. Assumes nothing.
use Rattle.std.specs.Prelude.{Err, Ok}
use mathlib.Core.Path.{◌≡◌, refl}
use mathlib.Core.Bool.{Bool, true, false}
use Prim.Native.Nat.{ℕ}
use lib.Dec.{eqb}
use lib.ListN.{length}
use Rattle.page.specs.Bytes.{Bytes, pick}
use Rattle.page.specs.Answers.{answered}
use Rattle.page.specs.Writing.{put_refusal, put_of}
use Rattle.page.specs.Handing.{copied}
use Rattle.page.specs.declared.Refusal.{Refusal}
use Rattle.page.specs.declared.Owner.{Owner}
use Rattle.texts.specs.Own.{owned}

pub owned_put : (o : Owner) (r : Refusal) (form : Bytes) (room : ℕ) → owned o (put_of r form room) ≡ answered (put_refusal r form room) (copied form o)
unfolding put_of answered
owned_put o r form room = by (eqb (put_refusal r form room).number 0)
  where
    by : (b : Bool) → owned o (pick b (Ok (length form)) (Err (put_refusal r form room))) ≡ pick b (Ok (copied form o)) (Err (put_refusal r form room))
    by true = refl
    by false = refl
