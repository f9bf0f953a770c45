-- What a pass over a file's sections begins with, the place that it carries, and how it goes on.
use Rattle.std.specs.Prelude.{◌≡◌, Bool, true, false, List, [], ◌∷◌, ℕ, ◌<◌, eqb, length, take, drop}
use Rattle.page.specs.Bytes.{Bytes, pick}
use Rattle.page.specs.Cut.{Section, begins_table, sections}
use Rattle.page.specs.Head.{latin_of}
use Rattle.page.specs.Reading.{list_refusal}
use Rattle.page.specs.declared.Row.{Row}
use Rattle.page.specs.declared.Refusal.{Refusal}
use Rattle.page.proofs.LineLaws.{line_size}
use Rattle.page.proofs.CutLaws.{sections_from}
use Rattle.steps.specs.declared.Start.{Start}
use Rattle.steps.specs.declared.Step.{Step}

-- a `tbl` line begins at a place
pub record Begins (s : Bytes) (at : ℕ) : Type 0 where
  pub within : at < length s
  pub table : begins_table (take (line_size (drop at s)) (drop at s)) ≡ true

-- where sections of s begin: at the first of them, and where s ends if there is none
abbrev pub first_place : Bytes → List Section → ℕ
first_place s [] = length s
first_place s (x ∷ xs) = x.place

-- is a section with this verdict sound, and were all before it?
unfoldable pub stays : Bool → ℕ → Bool
stays before verdict = pick (eqb verdict 0) before false

-- the row of the section at a place, the place of the next, and whether all are sound so far
unfoldable pub step_by : Bytes → ℕ → Row → Bool → Step
step_by s at row before =
    record { row = row; next = first_place s (drop 1 (sections_from s at)); sound = stays before row.verdict }

-- "Listing is refused by 1, 2 and 21 only"
unfoldable pub accepts : Bytes → ℕ → Bool
accepts s room = eqb (list_refusal s room).number 0

-- the place that the pass carries to section i, the first counted as 0
unfoldable pub at_of : Bytes → ℕ → ℕ → ℕ
at_of s room i = pick (accepts s room) (first_place s (drop i (sections s))) 0

-- "and then writes no row"
abbrev pub refused : Refusal → Start
refused r = record { refusal = r; count = 0; at = 0; latin = false }

unfoldable pub start_of : Bytes → ℕ → Start
start_of s room =
    pick (accepts s room)
    (record { refusal = list_refusal s room; count = length (sections s); at = at_of s room 0; latin = latin_of s })
    (refused (list_refusal s room))
