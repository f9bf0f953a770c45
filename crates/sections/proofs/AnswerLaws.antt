-- One section of a file, and what a call answers for it. Assumes nothing.
use Rattle.std.specs.Prelude.{Err, Ok}
use mathlib.Core.Path.{◌≡◌, sym}
use Prim.Native.Nat.{ℕ}
use borrow.Author.Tests.{ne_eqb}
use Rattle.page.specs.Bytes.{Bytes}
use Rattle.page.specs.Answers.{answered}
use Rattle.page.specs.File.{row_of}
use Rattle.page.specs.Head.{latin_of}
use Rattle.page.specs.Reading.{row_at, find_refusal, section_of}
use Rattle.page.specs.declared.Refusal.{Refusal}
use Rattle.cut.specs.Walk.{section_from}
use Rattle.sections.specs.Located.{Begins}

-- the section's answer, where it stands at a place
module _ (s : Bytes) (i : ℕ) where
  pub section_here : (at : ℕ) → Begins s i at → Ok (row_of (latin_of s) (section_from s at)) ≡ section_of s i
  unfolding section_of answered row_at
  section_here at b = rw (b.found, b.is)

  pub section_refused : (x : Refusal) → (x.number ≡ 0 → ⊥) → x ≡ find_refusal s i → Err x ≡ section_of s i
  unfolding section_of answered
  section_refused x n e = rw (sym e, ne_eqb x.number 0 n)
