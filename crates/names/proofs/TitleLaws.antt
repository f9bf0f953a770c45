-- The table that a section's first line names. Assumes nothing.
use mathlib.Core.Path.{◌≡◌, refl}
use mathlib.Core.List.{[], ◌∷◌}
use Prim.Native.Nat.{ℕ, ◌+◌, ◌-◌, ◌<◌}
use lib.ListN.{length, get_or, take, drop}
use Rattle.page.specs.Bytes.{Bytes}
use Rattle.page.specs.Lines.{lines, content, rest}
use Rattle.page.specs.Fields.{fields}
use Rattle.page.specs.Tables.{table_named}
use Rattle.page.specs.Cut.{cut}
use Rattle.page.specs.Records.{table_index}
use Rattle.page.proofs.LineLaws.{line_size}
use Rattle.cut.specs.Walk.{section_from}
use Rattle.cut.proofs.WalkLaws.{section_lines}

-- the section at a place
module _ (s : Bytes) (at : ℕ) (h : at < length s) where
  abbrev e : ℕ
  e = at + line_size (drop at s)

  abbrev l : Bytes
  l = take (e - at) (drop at s)

  pub from_lines : (section_from s at).lines ≡ l ∷ (cut (lines (drop e s))).front
  unfolding section_from
  from_lines = section_lines s at e h refl

  pub table_from : (k : ℕ) → k ≡ e → table_index (section_from s at).lines ≡ table_named (get_or (fields (rest (content (take (k - at) (drop at s))))) 0 [])
  unfolding table_index
  table_from k q = rw (from_lines, q)
