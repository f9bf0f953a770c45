-- The marks that stand before a record.
use Rattle.std.specs.Prelude.{List, [], ◌∷◌, ℕ, zero, suc, eqb}
use Rattle.page.specs.Bytes.{Bytes, pick}
use Rattle.page.specs.Lines.{content, command, rest, Rec, Com}
use Rattle.page.specs.Marks.{remark_of}
use Rattle.page.specs.declared.Remark.{Remark}
use Rattle.page.specs.declared.Remark.TheVariants as R

-- one mark more, if the line is one
abbrev pub noted : List ℕ → Remark → List ℕ
noted ms R.Comment = ms
noted ms R.Unreadable = ms
noted ms (R.Mark i) = i ∷ ms

unfoldable pub note : List ℕ → Bytes → List ℕ
note ms c = pick (eqb (command c) Com) (noted ms (remark_of (rest c))) ms

abbrev pub here_or : ℕ → List ℕ → (ℕ → List ℕ) → List ℕ
here_or zero ms further = ms
here_or (suc r) ms further = further r

-- "It speaks of the next `rec`": the marks between the record after r others and the record before it; ms stand before these lines
unfoldable pub marks_at : ℕ → List ℕ → List Bytes → List ℕ
marks_at r ms [] = []
marks_at r ms (l ∷ ls) = pick (eqb (command (content l)) Rec) (here_or r ms (λ q. marks_at q [] ls)) (marks_at r (note ms (content l)) ls)
