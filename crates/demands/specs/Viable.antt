-- The place of a section's refusal, by the grammar alone: the first line after which nothing makes a section, or that none of the lines says `end`.
use Rattle.std.specs.Prelude.{◌≡◌, Bool, List, [], ◌∷◌, ◌++◌, ℕ, suc, length}
use Rattle.page.specs.Bytes.{Bytes}
use Rattle.page.specs.Records.{Record}
use Rattle.page.specs.Grammar.{Denotes}

-- some lines after these make a section
abbrev pub Viable : Bool → List Bytes → Type 0
Viable latin ls = (more : List Bytes) × (t : ℕ) × (rs : List Record) × Denotes latin (ls ++ more) t rs

pub data SectionPlace (latin : Bool) (ls : List Bytes) (n : ℕ) : Type 0 where
  breaks : (before after : List Bytes) (l : Bytes) → ls ≡ before ++ (l ∷ after) → Viable latin before → ¬ Viable latin (before ++ (l ∷ [])) → n ≡ suc (length before) →
      SectionPlace latin ls n
  lacks : Viable latin ls → ((t : ℕ) (rs : List Record) → ¬ Denotes latin ls t rs) → n ≡ length ls → SectionPlace latin ls n
