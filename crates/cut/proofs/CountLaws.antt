-- How many sections stand among some lines. Assumes nothing.
use Rattle.std.proofs.Common.{◌≡◌, ◌+◌, Bool, true, false, cond, ℕ, suc, List, [], ◌∷◌, length, drop, refl, ap}
use Rattle.std.specs.List.{filter}
use Rattle.page.specs.Bytes.{Bytes}
use Rattle.page.specs.Lines.{lines, joined}
use Rattle.page.specs.Cut.{begins_table, begins_end, Cut, cut, put, placed}
use Rattle.page.proofs.CutLaws.{sections_from, front_size}

tables_put : (t e : Bool) (l : Bytes) (c : Cut) (rest : List Bytes) → ((n : ℕ) → length (placed n c.pieces) ≡ length rest)
    → (n : ℕ) → length (placed n (put t e l c).pieces) ≡ length (cond {A = List Bytes} t (l ∷ rest) rest)
unfolding put placed
tables_put true e l c rest ih n = ap suc (ih (n + length (joined (l ∷ c.front))))
tables_put false true l c rest ih n = ih (n + length (joined (l ∷ c.front)))
tables_put false false l c rest ih n = ih n

tables_in : (ls : List Bytes) (n : ℕ) → length (placed n (cut ls).pieces) ≡ length (filter begins_table ls)
unfolding cut placed
tables_in [] n = refl
tables_in (l ∷ ls) n = tables_put (begins_table l) (begins_end l) l (cut ls) (filter begins_table ls) (tables_in ls) n

pub sections_count : (s : Bytes) (at : ℕ) → length (sections_from s at) ≡ length (filter begins_table (lines (drop at s)))
unfolding sections_from
sections_count s at = tables_in (lines (drop at s)) (at + front_size (drop at s))
