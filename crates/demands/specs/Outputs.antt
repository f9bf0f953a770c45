-- What a call has put into lent output, written again.
use Rattle.std.specs.Prelude.{◌≡◌, ℕ, length, take, drop, Ok, Result}
use Rattle.page.specs.declared.Refusal.{Refusal}
use Rattle.page.specs.Bytes.{Bytes}
use Rattle.page.specs.Writing.{write_of, write_after, strip_of, strip_after}

-- a call that took n bytes has put the same n bytes: the form's length is given, and the bytes after the form keep their values
pub record Unchanged (taken : Bytes) (n : ℕ) (out : Bytes) (answer : Result ℕ Refusal) (after : Bytes) : Type 0 where
  pub given : answer ≡ Ok n
  pub same : take n after ≡ taken
  pub behind : drop n after ≡ drop n out

-- writing, and stripping, these n bytes into an output changes none of them
abbrev pub WritesSame : Bytes → ℕ → Bytes → Type 0
WritesSame s n out = Unchanged s n out (write_of s (length out)) (write_after s out)

abbrev pub StripsSame : Bytes → ℕ → Bytes → Type 0
StripsSame s n out = Unchanged s n out (strip_of s (length out)) (strip_after s out)
