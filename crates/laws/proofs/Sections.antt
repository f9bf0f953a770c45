-- Every section of a file begins with its `tbl` line, and there are as many sections as `tbl` lines.
use mathlib.Core.Path.{◌≡◌, refl, ◌∙◌}
use mathlib.Core.Bool.{Bool, true, false}
use mathlib.Core.List.{List, [], ◌∷◌}
use Prim.Native.Nat.{ℕ, ◌+◌}
use lib.ListN.{length}
use native.Mathlib.Omega.{arith}
use Rattle.page.specs.Bytes.{Bytes, pick}
use Rattle.page.specs.Lines.{lines, joined, Tbl}
use Rattle.page.specs.Cut.{begins_table, begins_end, Piece, a_table, a_trailer, put, cut, placed, header_lines, sections}
use Rattle.page.specs.Rules.{Every, none_left, one_more, times}
use Rattle.laws.specs.Begins.{begins}

data Begun : Piece → Type 0 where
  of_table : {ls : List Bytes} → begins ls ≡ true → Begun (a_table ls)
  of_trailer : {ls : List Bytes} → Begun (a_trailer ls)

cut_begun : (ls : List Bytes) → Every Begun (cut ls).pieces
unfolding cut put begins
cut_begun [] = none_left
cut_begun (l ∷ ls) = by (begins_table l) (begins_end l) refl (cut_begun ls)
  where
    by : (a b : Bool) → begins_table l ≡ a → Every Begun (cut ls).pieces → Every Begun (put a b l (cut ls)).pieces
    by true b e k = one_more (of_table e) k
    by false true e k = one_more of_trailer k
    by false false e k = k

placed_begun : (at : ℕ) {ps : List Piece} → Every Begun ps → Every (λ x. begins x.lines ≡ true) (placed at ps)
unfolding placed
placed_begun at none_left = none_left
placed_begun at (one_more {xs = ps} (of_table {ls} b) k) = one_more b (placed_begun (at + length (joined ls)) k)
placed_begun at (one_more {xs = ps} (of_trailer {ls}) k) = placed_begun (at + length (joined ls)) k

-- "A section begins at each `tbl` line": its first line is one
pub sections_begin : (s : Bytes) → Every (λ x. begins x.lines ≡ true) (sections s)
unfolding sections
sections_begin s = placed_begun (length (joined (header_lines s))) (cut_begun (lines s))

-- how many of the pieces are sections
abbrev one_table : Piece → ℕ
one_table (a_table ls) = 1
one_table (a_trailer ls) = 0

tables_in : List Piece → ℕ
tables_in [] = 0
tables_in (p ∷ ps) = one_table p + tables_in ps

placed_length : (at : ℕ) (ps : List Piece) → length (placed at ps) ≡ tables_in ps
unfolding placed tables_in
placed_length at [] = refl
placed_length at (a_table ls ∷ ps) = let z = placed_length (at + length (joined ls)) ps in omega arith
placed_length at (a_trailer ls ∷ ps) = let z = placed_length (at + length (joined ls)) ps in omega arith

cut_tables : (ls : List Bytes) → tables_in (cut ls).pieces ≡ times Tbl ls
unfolding cut put times tables_in begins_table
cut_tables [] = refl
cut_tables (l ∷ ls) = by (begins_table l) (begins_end l) refl (cut_tables ls)
  where
    by : (a b : Bool) → begins_table l ≡ a → tables_in (cut ls).pieces ≡ times Tbl ls → tables_in (put a b l (cut ls)).pieces ≡ pick a 1 0 + times Tbl ls
    by true b e k = omega arith
    by false true e k = omega arith
    by false false e k = omega arith

-- "n the number of `tbl` lines": what the trailer counts
pub sections_counted : (s : Bytes) → length (sections s) ≡ times Tbl (lines s)
unfolding sections
sections_counted s = placed_length (length (joined (header_lines s))) (cut (lines s)).pieces ∙ cut_tables (lines s)
