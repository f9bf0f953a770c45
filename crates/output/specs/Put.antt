-- What one writing function leaves.
use Rattle.std.specs.Prelude.{◌≡◌, ℕ, ◌+◌, ◌^◌, ◌<◌, ◌≤◌, length, Result}
use Rattle.std.proofs.lemmas.List.Edits.{sets}
use Rattle.page.specs.Bytes.{Bytes}
use Rattle.page.specs.Writing.{put_of, put_after}
use Rattle.output.specs.declared.bytes.Output.{Output}
use Rattle.page.specs.declared.Refusal.{Refusal}

-- The bytes of a form were put at a place: what stood before is changed by those stores that lie inside it and by nothing else, and
-- r is the place after the form, inside or not.
pub record Put (before : Bytes) (at : ℕ) (form after : Bytes) (r : ℕ) : Type 0 where
  pub is : after ≡ sets before at form
  pub next : r ≡ at + length form

-- The bytes of a form were put into lent output, and its place moved on by them. A place that no number of the machine names stays the
-- last one, and then nothing is said of what was lent.
pub record Puts (before : Output) (form : Bytes) (after : Output) : Type 0 where
  pub same : after.room.ghost_name ≡ before.room.ghost_name
  pub within : before.at + length form < 2 ^ 64 → Put before.room.now before.at form after.room.now after.at
  pub past : 2 ^ 64 ≤ before.at + length form → 2 ^ 64 ≤ after.at + 1

-- A call that is refused by r, or else puts a form at the front of lent output: "On success the form's length is given, and the bytes
-- after the form keep their values."
pub record Wrote (r : Refusal) (form before after : Bytes) (w : Result ℕ Refusal) : Type 0 where
  pub answer : w ≡ put_of r form (length before)
  pub left : after ≡ put_after r form before
