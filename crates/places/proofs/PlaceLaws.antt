-- Records looked for line by line. Assumes nothing.
use mathlib.Core.Path.{◌≡◌, refl, ap, sym, ◌∙◌}
use mathlib.Core.Bool.{Bool, true, false}
use Prim.Native.Nat.{ℕ, suc, ◌+◌, ◌-◌, ◌<◌, ◌≤◌}
use native.Mathlib.Omega.{arith}
use lib.Dec.{eqb}
use lib.ListN.{length, take, drop}
use Rattle.page.specs.Bytes.{Bytes, pick, until}
use Rattle.page.specs.Lines.{lines, content_size, content, semicolon, command, rest, Rec}
use Rattle.page.specs.Records.{waits}
use Rattle.page.specs.Places.{Standing, nowhere, stands, this_or, record_at}
use Rattle.page.proofs.ScanLaws.{part_length}
use Rattle.page.proofs.LineLaws.{line_size, line_in, cut_at, lines_end}
use Rattle.headers.proofs.FoundLaws.{content_in, content_here, semicolon_in, rest_here}
use Rattle.places.specs.declared.Place.{Place}
use Rattle.places.specs.Placed.{Placed}

-- the line at a place, that ends at e
module _ (s : Bytes) (at e : ℕ) (h : at < length s) (q : e ≡ at + line_size (drop at s)) where
  abbrev l : Bytes
  l = take (e - at) (drop at s)

  record_here : (k m : ℕ) → record_at k m at (lines (drop at s))
      ≡ pick (eqb (command (content l)) Rec) (this_or k (stands at l m) (λ j. record_at j 0 e (lines (drop e s)))) (record_at k (waits m (content l)) e (lines (drop e s)))
  unfolding record_at
  record_here k m =
      let i = line_in s at e h q in
      let n : at + length l ≡ e = omega (arith, part_length at e s i.1) in
      rw (cut_at s at e h q, n)

  module _ (k m : ℕ) (b : Bool) (x : b ≡ eqb (command (content l)) Rec) where
    pub record_hit : b ≡ true → k ≡ 0 → record_at k m at (lines (drop at s)) ≡ stands at l m
    record_hit t z = record_here k m ∙ rw (sym x ∙ t, z)

    pub record_next : b ≡ true → (k ≡ 0 → ⊥) → record_at k m at (lines (drop at s)) ≡ record_at (k - 1) 0 e (lines (drop e s))
    record_next t z =
        let n : k ≡ suc (k - 1) = omega arith in
        record_here k m ∙ rw (sym x ∙ t) (ap (λ (j : ℕ). this_or j (stands at l m) (λ i. record_at i 0 e (lines (drop e s)))) n)

    pub record_other : b ≡ false → record_at k m at (lines (drop at s)) ≡ record_at k (waits m (content l)) e (lines (drop e s))
    record_other t = record_here k m ∙ rw (sym x ∙ t)

  -- the fields of a `rec` line whose content ends at `to`
  module _ (to : ℕ) (n : to ≡ at + content_size l) (c : command (content l) ≡ Rec) (i : ℕ) (y : i ≡ until semicolon (take (to - at) (drop at s))) where
    named : command (take (to - at) (drop at s)) ≡ Rec
    named = ap command (content_here s at e to h q n) ∙ c

    pub fields_in : (at ≤ to) × (to ≤ length s) × (at + i + 1 ≤ to)
    fields_in =
        let j = content_in s at e to h q n in
        (omega arith, omega arith, semicolon_in s at e to h q n Rec i (omega arith) named y)

    pub fields_placed : (m : ℕ) → Placed s (stands at l m) (record { from = at + i + 1; to = to; mark = m })
    unfolding stands
    fields_placed m =
        let u : until semicolon (content l) ≡ i = sym (y ∙ ap (until semicolon) (content_here s at e to h q n)) in
        record {
          at = sym (ap (λ (j : ℕ). at + j + 1) u);
          order = fields_in.2;
          within = fields_in.1;
          rest = rest_here s at e to h q n Rec i (omega arith) named y ∙ ap rest (content_here s at e to h q n);
          mark = refl;
        }

pub record_none : (s : Bytes) (at k m : ℕ) → length s ≤ at → record_at k m at (lines (drop at s)) ≡ nowhere
unfolding record_at
record_none s at k m h = rw (lines_end s at h)

pub nowhere_placed : (s : Bytes) → Placed s nowhere (record { from = 0; to = 0; mark = 0 })
nowhere_placed s = record { at = refl; order = omega arith; within = omega arith; rest = refl; mark = refl }

-- where a record's fields stand, they are its standing
pub placed_is : (s : Bytes) (x : Standing) (p : Place) → Placed s x p → record { at = p.from; rest = take (p.to - p.from) (drop p.from s); mark = p.mark } ≡ x
placed_is s x p h = rw (h.rest, h.at, h.mark)
