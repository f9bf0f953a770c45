-- A section by its number: its place, or why there is none.
use Rattle.std.specs.Prelude.{◌≡◌, ℕ, ◌<◌, ◌≤◌, eqb, length, Err, Ok, Result}
use Rattle.page.specs.declared.Refusal.{Refusal}
use Rattle.page.specs.Bytes.{Bytes, pick}
use Rattle.page.specs.File.{limit}
use Rattle.page.specs.Reading.{section_at, find_refusal}
use Rattle.cut.specs.Walk.{section_from, Settled}

-- "the first of 1, 2, 24 for the section", or the place of section i, from 1
unfoldable pub located : Bytes → ℕ → Result ℕ Refusal
located s i = pick (eqb (find_refusal s i).number 0) (Ok (section_at s i).place) (Err (find_refusal s i))

-- section i begins at a place
pub record Begins (s : Bytes) (i at : ℕ) : Type 0 where
  pub found : (find_refusal s i).number ≡ 0
  pub short : length s ≤ limit
  pub inside : at < length s
  pub settled : Settled s at
  pub is : section_at s i ≡ section_from s at

abbrev pub Locates : Bytes → ℕ → Result ℕ Refusal → Type 0
Locates s i (Ok at) = Begins s i at
Locates s i (Err x) = (x.number ≡ 0 → ⊥) × (x ≡ find_refusal s i)
