-- The values of a section's lines, met from the left. Assumes nothing.
use mathlib.Core.Path.{◌≡◌, sym, ◌∙◌}
use mathlib.Core.Bool.{Bool, true, false}
use mathlib.Core.List.{[], ◌++◌}
use Prim.Native.Nat.{ℕ, ◌+◌, ◌-◌, ◌<◌, ◌≤◌}
use native.Mathlib.Omega.{arith}
use lib.Dec.{eqb}
use lib.ListN.{length, take, drop}
use Rattle.page.specs.Bytes.{Bytes, pick}
use Rattle.page.specs.Lines.{lines, content, command, Rec}
use Rattle.page.specs.Tables.{width}
use Rattle.page.specs.Order.{Order}
use Rattle.page.specs.Records.{waits}
use Rattle.page.specs.Places.{stands}
use Rattle.page.specs.Handing.{record_cells, cells_in}
use Rattle.page.proofs.ScanLaws.{part_length}
use Rattle.page.proofs.LineLaws.{line_size, line_in, cut_at, lines_end}
use Rattle.places.specs.declared.Place.{Place}
use Rattle.places.specs.Placed.{Placed}
use Rattle.places.proofs.PlaceLaws.{placed_is}

-- the line at a place, that ends at e
module _ (s : Bytes) (at e : ℕ) (h : at < length s) (q : e ≡ at + line_size (drop at s)) (t : ℕ) (o : Order) (m : ℕ) where
  abbrev l : Bytes
  l = take (e - at) (drop at s)

  cells_here : cells_in t o m at (lines (drop at s))
      ≡ pick (eqb (command (content l)) Rec) (record_cells t o (stands at l m) 1 (width t) ++ cells_in t o 0 e (lines (drop e s))) (cells_in t o (waits m (content l)) e (lines (drop e s)))
  unfolding cells_in
  cells_here =
      let i = line_in s at e h q in
      let n : at + length l ≡ e = omega (arith, part_length at e s i.1) in
      rw (cut_at s at e h q, n)

  module _ (b : Bool) (x : b ≡ eqb (command (content l)) Rec) where
    pub cells_more : b ≡ true → (p : Place) → Placed s (stands at l m) p → cells_in t o m at (lines (drop at s))
        ≡ record_cells t o (record { at = p.from; rest = take (p.to - p.from) (drop p.from s); mark = p.mark }) 1 (width t) ++ cells_in t o 0 e (lines (drop e s))
    cells_more y p z = cells_here ∙ rw (sym x ∙ y, placed_is s (stands at l m) p z)

    pub cells_other : b ≡ false → cells_in t o m at (lines (drop at s)) ≡ cells_in t o (waits m (content l)) e (lines (drop e s))
    cells_other y = cells_here ∙ rw (sym x ∙ y)

pub cells_end : (s : Bytes) (at t : ℕ) (o : Order) (m : ℕ) → length s ≤ at → cells_in t o m at (lines (drop at s)) ≡ []
unfolding cells_in
cells_end s at t o m h = rw (lines_end s at h)
