-- The section at a place.
use Rattle.std.specs.Prelude.{◌≡◌, ◌∷◌, ℕ, ◌+◌, ◌<◌, ◌≤◌, Option, None, Some, length, take, drop}
use Rattle.page.specs.Bytes.{Bytes}
use Rattle.page.specs.Lines.{lines}
use Rattle.page.proofs.CutLaws.{sections_from}
use Rattle.cut.specs.Walk.{section_size, section_from, Settled, Next}
use Rattle.cut.specs.declared.sections.Section.{Section}
use Rattle.cut.specs.declared.sections.Sections.{Sections}

-- the bytes of s from a place to where its section ends, and the place of the next section
pub record SectionAt (s : Bytes) (i : ℕ) (t : Section) (r : ℕ) : Type 0 where
  pub before : i < length s
  pub at : t.at ≡ i
  pub bytes : t.bytes.now ≡ take (section_size (drop i s)) (drop i s)
  pub size : i + length t.bytes.now ≡ i + section_size (drop i s)
  pub some : 0 < length t.bytes.now
  pub within : i + length t.bytes.now ≤ length s
  pub next : Next s (i + section_size (drop i s)) r
  pub lines : (section_from s i).lines ≡ lines t.bytes.now
  pub cut : Settled s i → sections_from s i ≡ section_from s i ∷ sections_from s r

-- a call gave the section at the place that the iterator had come to, or found none there
abbrev pub GivesSection : Sections → Option Section → Sections → Type 0
GivesSection x None y = (y.bytes.now ≡ x.bytes.now) × (y.at ≡ x.at) × (length x.bytes.now ≤ x.at)
GivesSection x (Some t) y = (y.bytes.now ≡ x.bytes.now) × SectionAt x.bytes.now x.at t y.at
