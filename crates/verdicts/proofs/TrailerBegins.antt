-- "It starts at the first `eof` line": the first line of a trailer is one. Assumes nothing.
use mathlib.Core.Path.{◌≡◌, refl, ap, sym, ◌∙◌}
use mathlib.Core.Bool.{Bool, true, false, false≢true}
use mathlib.Core.List.{List, [], ◌∷◌}
use lib.Dec.{eqb}
use borrow.Author.Tests.{eqb-true}
use Rattle.page.specs.Bytes.{Bytes, pick}
use Rattle.page.specs.Lines.{lines, content, command, Eof}
use Rattle.page.specs.Cut.{begins_end, from_end, trailer_lines}

from_end_ends : (ls : List Bytes) (l : Bytes) (others : List Bytes) → from_end ls ≡ l ∷ others → command (content l) ≡ Eof
unfolding from_end begins_end
from_end_ends [] l others e = absurd (false≢true cc)
from_end_ends (x ∷ ls) l others e = by (from_end_ends ls l others) (eqb (command (content x)) Eof) refl e
  where
    by : (from_end ls ≡ l ∷ others → command (content l) ≡ Eof) → (b : Bool) → eqb (command (content x)) Eof ≡ b → pick b (x ∷ ls) (from_end ls) ≡ l ∷ others → command (content l) ≡ Eof
    by ih true h e = let z : x ≡ l = cc in ap (λ (y : Bytes). command (content y)) (sym z) ∙ eqb-true (command (content x)) Eof h
    by ih false h e = ih e

pub trailer_begins : (s l : Bytes) (others : List Bytes) → trailer_lines s ≡ l ∷ others → command (content l) ≡ Eof
unfolding trailer_lines
trailer_begins s = from_end_ends (lines s)
