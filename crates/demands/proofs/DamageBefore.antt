-- Demand 3, before the run: of a table whose closing line stands there, the calls answer the same. Assumes nothing.
use mathlib.Core.Path.{◌≡◌}
use mathlib.Core.Bool.{false}
use mathlib.Core.List.{List, ◌++◌, map}
use Prim.Native.Nat.{ℕ, ◌+◌, ◌≤◌}
use native.Mathlib.Omega.{arith}
use lib.ListN.{length, length-append}
use Rattle.page.specs.Bytes.{Bytes}
use Rattle.page.specs.Cut.{sections}
use Rattle.page.specs.File.{header_refusal, row_of, row_given}
use Rattle.page.specs.Reading.{header_of, outside, section_at, row_at, find_refusal, section_of, value_refusal, value_of}
use Rattle.page.specs.Handing.{text_refusal, place_of, own_text, text_owner, text_out, text_after, table_refusal, cells_refusal, table_of, cells_after}
use Rattle.round.specs.Local.{closed, later, reached, SaysSame}
use Rattle.calls.specs.Turns.{Within}
use Rattle.demands.specs.Damage.{file, Replaced, Before}
use Rattle.laws.proofs.Decides.{untested}
use Rattle.round.proofs.Local.{local_header, local_sections, closed_same, closed_says, closed_row}
use Rattle.round.proofs.LocalPlaces.{closed_exactly}
use Rattle.calls.proofs.Turns.{outside_d, not_within}

-- a section that is there
pub inside : (s : Bytes) (i : ℕ) → Within i (length (sections s)) → outside i (length (sections s)) ≡ false
inside s i w = untested (outside_d i (length (sections s))) (not_within i (length (sections s)) w)

module _ (a m n b : Bytes) (d : Replaced a m n b) where
  -- the header, and what refuses it, are the same
  pub same_header : header_refusal (file a m b) ≡ header_refusal (file a n b)
  unfolding header_refusal
  same_header = rw (d.limit, local_header a m b d.whole d.begun d.old, local_header a n b d.whole d.begun d.new)

  pub same_header_of : header_of (file a m b) ≡ header_of (file a n b)
  unfolding header_of
  same_header_of = rw (same_header, local_header a m b d.whole d.begun d.old, local_header a n b d.whole d.begun d.new)

  -- section i of the one file is section i of the other
  module _ (i : ℕ) (h : Before a (file a m b) i) where
    closed_there : i ≤ length (closed a)
    unfolding row_at row_of row_given
    closed_there = (closed_exactly a m b d.whole d.begun d.old i h.there.0 h.there.1).1 (omega (arith, h.ends))

    same_row : row_at (file a m b) i ≡ row_at (file a n b) i
    same_row = closed_row a m n b d.whole d.begun d.old d.new i h.there.0 closed_there

    same_section : section_at (file a m b) i ≡ section_at (file a n b) i
    same_section = closed_same a m n b d.whole d.begun d.old d.new i h.there.0 closed_there

    pub before_there : Before a (file a n b) i
    before_there =
        let w : length (sections (file a n b)) ≡ length (closed a) + length (reached a n b ++ map (later (length a + length n)) (sections b)) =
        rw (local_sections a n b d.whole d.begun d.new) (length-append (closed a) (reached a n b ++ map (later (length a + length n)) (sections b))) in
        record { there = (h.there.0, omega (arith, closed_there, w)); ends = rw same_row at h.ends }

    -- over demand 2's readings: the same lines, outcome and records
    pub before_says : SaysSame (file a m b) (section_at (file a m b) i) (file a n b) (section_at (file a n b) i)
    before_says = closed_says a m n b d.whole d.begun d.old d.new i h.there.0 closed_there

    same_find : find_refusal (file a m b) i ≡ find_refusal (file a n b) i
    unfolding find_refusal
    same_find = rw (same_header, inside (file a m b) i h.there, inside (file a n b) i before_there.there)

    pub before_section : section_of (file a m b) i ≡ section_of (file a n b) i
    unfolding section_of
    before_section = rw (same_find, same_row)

    same_value : (r f : ℕ) → value_refusal (file a m b) i r f ≡ value_refusal (file a n b) i r f
    unfolding value_refusal
    same_value r f = rw (same_find, same_row, same_section)

    pub before_value : (r f : ℕ) → value_of (file a m b) i r f ≡ value_of (file a n b) i r f
    unfolding value_of
    before_value r f = rw (same_value r f, same_section)

    pub before_text : (r f : ℕ) (out : Bytes) →
        (text_out (file a m b) i r f (length out) ≡ text_out (file a n b) i r f (length out))
        × (text_after (file a m b) i r f out ≡ text_after (file a n b) i r f out)
    unfolding text_out text_after text_refusal own_text text_owner place_of
    before_text r f out = (rw (same_value r f, same_section), rw (same_value r f, same_section))

    pub before_table : (cells : List ℕ) →
        (table_of (file a m b) i (length cells) ≡ table_of (file a n b) i (length cells))
        × (cells_after (file a m b) i cells ≡ cells_after (file a n b) i cells)
    unfolding table_of cells_after cells_refusal table_refusal
    before_table cells = (rw (same_find, same_row, same_section), rw (same_find, same_row, same_section))
