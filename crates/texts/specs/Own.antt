-- A text's own bytes, of a file where it stands, handed out with its owner.
use Rattle.std.specs.Prelude.{◌≡◌, false, ℕ, ◌-◌, ◌≤◌, length, take, drop, Err, Ok, Result}
use Rattle.page.specs.declared.Refusal.{Refusal}
use Rattle.page.specs.declared.Copied.{Copied}
use Rattle.page.specs.Bytes.{Bytes}
use Rattle.page.specs.Answers.{refusal, sound, answered}
use Rattle.page.specs.File.{limit}
use Rattle.page.specs.Writing.{put_refusal, put_after}
use Rattle.page.specs.Handing.{copied}
use Rattle.page.specs.declared.Owner.{Owner}
use Rattle.page.specs.declared.Text.{Text}
use Rattle.page.specs.declared.Value.{Value}
use Rattle.page.specs.declared.Value.TheVariants as Va
use Rattle.doubling.specs.Raw.{undoubled}

-- a text's bytes lie in the file
pub record Lies (s : Bytes) (from to : ℕ) : Type 0 where
  pub order : from ≤ to
  pub within : to ≤ length s
  pub short : length s ≤ limit

abbrev pub Spans : Bytes → Value → Type 0
Spans s (Va.Number n) = Unit {0}
Spans s Va.Missing = Unit {0}
Spans s (Va.Words x) = Lies s x.from x.to

-- what was written of a text, and whose it is
abbrev pub owned : Owner → Result ℕ Refusal → Result Copied Refusal
owned o (Ok n) = Ok (record { length = n; owner = o })
owned o (Err r) = Err r

abbrev pub own_of : Bytes → Text → Bytes
own_of s x = undoubled false (take (x.to - x.from) (drop x.from s))

-- "11 if it is a number"
abbrev pub answer_of : Bytes → Value → ℕ → Result Copied Refusal
answer_of s (Va.Number n) room = Err (refusal 11 0 0)
answer_of s Va.Missing room = Err (refusal 11 0 0)
answer_of s (Va.Words x) room = answered (put_refusal sound (own_of s x) room) (copied (own_of s x) x.owner)

abbrev pub left_of : Bytes → Value → Bytes → Bytes
left_of s (Va.Number n) out = out
left_of s Va.Missing out = out
left_of s (Va.Words x) out = put_after sound (own_of s x) out

-- a value that stands in s was handed out
pub record Gave (s : Bytes) (v : Value) (before after : Bytes) (w : Result Copied Refusal) : Type 0 where
  pub answer : w ≡ answer_of s v (length before)
  pub left : after ≡ left_of s v before
