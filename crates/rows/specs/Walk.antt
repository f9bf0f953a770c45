-- One pass over a file's sections: what it hands out at each, and the rows that are written.
use Rattle.std.specs.Prelude.{Bool, List, ◌++◌, ℕ, ◌+◌, eqb, get_or, take, drop}
use Rattle.page.specs.Bytes.{Bytes}
use Rattle.page.specs.File.{row_of, rows_of, first_unsound}
use Rattle.page.specs.Reading.{no_section}
use Rattle.page.specs.declared.Row.{Row}
use Rattle.page.proofs.CutLaws.{sections_from}
use Rattle.steps.specs.Steps.{step_by, at_of}
use Rattle.steps.specs.declared.Step.{Step}

-- the row of the first section from a place on, the place of the second, and whether all are sound so far
unfoldable pub step_of : Bytes → ℕ → Bool → Bool → Step
step_of s at latin before = step_by s at (row_of latin (get_or (sections_from s at) 0 no_section)) before

abbrev pub no_row : Row
no_row = record { table = 0; place = 0; length = 0; records = 0; verdict = 0; line = 0 }

unfoldable pub row_at : Bytes → ℕ → Row
row_at s i = get_or (rows_of s) i no_row

-- are the first i sections sound?
unfoldable pub sound_at : Bytes → ℕ → Bool
sound_at s i = eqb (first_unsound 1 (take i (rows_of s))).number 0

-- what the pass hands out at section i
abbrev pub step_at : Bytes → ℕ → ℕ → Step
step_at s room i = record { row = row_at s i; next = at_of s room (i + 1); sound = sound_at s (i + 1) }

-- lent rows, of which the first i are written
unfoldable pub filled : Bytes → List Row → ℕ → List Row
filled s ys i = take i (rows_of s) ++ drop i ys
