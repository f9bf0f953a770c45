-- The trailer: "`eof; n`, n the number of `tbl` lines, only blank lines after it".
use Rattle.std.specs.Prelude.{Bool, false, ◌&&◌, List, [], ◌∷◌, ℕ, suc, eqb, length, get_or}
use Rattle.page.specs.Bytes.{Bytes, pick}
use Rattle.page.specs.Lines.{content, blank, rest, clean}
use Rattle.page.specs.Fields.{fields, number_of}
use Rattle.page.specs.Cut.{sections, trailer_lines}
use Rattle.page.specs.declared.Number.{Number}
use Rattle.page.specs.declared.Number.TheVariants as N
use Rattle.page.specs.declared.Finding.{Finding}

abbrev pub counts : ℕ → Number → Bool
counts n (N.Plus m) = eqb m n
counts n (N.Minus m) = false
counts n N.Nothing = false

unfoldable pub eof_ok : ℕ → Bytes → Bool
eof_ok n c = clean false c && eqb (length (fields (rest c))) 1 && counts n (number_of (get_or (fields (rest c)) 0 []))

-- "Its lines count from 1; the first that breaks this is the place": n lines have been read
unfoldable pub all_blank : ℕ → List Bytes → Finding
all_blank n [] = record { verdict = 0; line = 0 }
all_blank n (l ∷ ls) = pick (blank (content l)) (all_blank (suc n) ls) (record { verdict = 3; line = suc n })

-- "0 if no `eof` stands"
unfoldable pub trailer_finding : ℕ → List Bytes → Finding
trailer_finding n [] = record { verdict = 3; line = 0 }
trailer_finding n (l ∷ ls) = pick (eof_ok n (content l)) (all_blank 1 ls) (record { verdict = 3; line = 1 })

unfoldable pub trailer_of : Bytes → Finding
trailer_of s = trailer_finding (length (sections s)) (trailer_lines s)
