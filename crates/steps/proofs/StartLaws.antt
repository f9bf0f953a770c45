-- What listing begins with, by what refuses it. Assumes nothing.
use mathlib.Core.Path.{◌≡◌, sym}
use mathlib.Core.Bool.{Bool}
use Prim.Native.Nat.{ℕ, ◌<◌, ◌≤◌}
use borrow.Author.Tests.{ne_eqb, lt-ltb, le-ltb}
use lib.ListN.{length}
use Rattle.page.specs.Bytes.{Bytes}
use Rattle.page.specs.Cut.{sections}
use Rattle.page.specs.Head.{latin_of}
use Rattle.page.specs.Answers.{refusal, earlier, refuse_if}
use Rattle.page.specs.File.{header_refusal}
use Rattle.page.specs.Reading.{list_refusal}
use Rattle.page.specs.declared.Refusal.{Refusal}
use Rattle.page.proofs.CutLaws.{sections_from, sections_all}
use Rattle.steps.specs.Steps.{first_place, accepts, at_of, refused, start_of}

module _ (s : Bytes) (room : ℕ) (r : Refusal) (q : r ≡ header_refusal s) where
  -- 1, 2
  pub start_header : ¬ (r.number ≡ 0) → refused r ≡ start_of s room
  unfolding start_of accepts list_refusal earlier
  start_header z = rw (sym q, ne_eqb r.number 0 z, ne_eqb r.number 0 z)

  module _ (z : r.number ≡ 0) (n : ℕ) (k : n ≡ length (sections s)) where
    -- "Too few rows is 21"
    pub start_small : room < n → refused (refusal 21 0 0) ≡ start_of s room
    unfolding start_of accepts list_refusal earlier refuse_if
    start_small h = rw (sym q, z, sym k, lt-ltb room n h)

    pub start_all : n ≤ room → (at : ℕ) → at ≡ first_place s (sections_from s 0) → (latin : Bool) → latin ≡ latin_of s
        → record { refusal = refusal 0 0 0; count = n; at = at; latin = latin } ≡ start_of s room
    unfolding start_of accepts list_refusal earlier refuse_if at_of
    start_all h at a latin l = rw (sym q, z, sym k, le-ltb room n h, a, sections_all s, l)
