-- The size of a text, "a doubled quote counting once".
use Rattle.std.specs.Prelude.{length, None, Option, Some, ℕ}
use Rattle.page.specs.Bytes.{Bytes}

unfoldable pub size_of : Option Bytes → Option ℕ
size_of None = None
size_of (Some t) = Some (length t)
