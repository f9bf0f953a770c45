-- Walking from section to section meets the sections of the cut, one after the other. Assumes nothing.
use mathlib.Core.Path.{◌≡◌, refl, ap, sym, ◌∙◌}
use mathlib.Core.Bool.{Bool, true, false}
use mathlib.Core.List.{List, [], ◌∷◌, ◌++◌}
use Prim.Native.Nat.{ℕ, ◌+◌, ◌-◌, ◌<◌, ◌≤◌}
use native.Mathlib.Omega.{arith}
use lib.ListN.{length, take, drop, length-append, length-drop}
use lib.Seq.{drop-drop}
use Rattle.page.specs.Bytes.{Bytes, pick}
use Rattle.page.specs.Lines.{lines, joined}
use Rattle.page.specs.Cut.{begins_table, begins_end, Cut, cut, header_lines}
use Rattle.page.proofs.ScanLaws.{part_length}
use Rattle.page.proofs.PartLaws.{part_rest}
use Rattle.page.proofs.LineLaws.{line_size, line_in, cut_at, lines_end, run_within, run_lines}
use Rattle.page.proofs.CutLaws.{flat, cut_whole, front_size, sections_from, sections_table, sections_trailer, sections_more, sections_skip}
use Rattle.cut.specs.Walk.{section_size, section_from, next_table, Settled}

-- at a place, whose line ends at e
module _ (s : Bytes) (at e : ℕ) (h : at < length s) (q : e ≡ at + line_size (drop at s)) where
  abbrev l : Bytes
  l = take (e - at) (drop at s)

  abbrev after : Cut
  after = cut (lines (drop e s))

  line_long : length l ≡ e - at
  line_long = part_length at e s (line_in s at e h q).1

  size_from : section_size (drop at s) ≡ (e - at) + front_size (drop e s)
  unfolding section_size
  size_from =
      let k : line_size (drop at s) ≡ e - at = omega arith in
      rw (drop-drop (line_size (drop at s)) at s, sym q) (omega arith)

  ends_at : at + section_size (drop at s) ≡ e + front_size (drop e s)
  ends_at = omega (arith, size_from, line_in s at e h q)

  whole : lines (drop at s) ≡ (l ∷ after.front) ++ flat after.pieces
  whole = cut_at s at e h q ∙ ap (λ (x : List Bytes). l ∷ x) (sym (cut_whole (lines (drop e s))))

  run_long : length (joined (l ∷ after.front)) ≡ section_size (drop at s)
  unfolding joined front_size
  run_long = length-append l (joined after.front) ∙ rw line_long (sym size_from)

  size_within : at + section_size (drop at s) ≤ length s
  unfolding joined
  size_within =
      let r = run_within (drop at s) [] (l ∷ after.front) (flat after.pieces) whole in
      omega (arith, run_long, length-drop at s)

  pub section_lines : lines (take (section_size (drop at s)) (drop at s)) ≡ l ∷ after.front
  unfolding joined
  section_lines = rw (sym run_long) (run_lines (drop at s) [] (l ∷ after.front) (flat after.pieces) whole)

  module _ (b : begins_table l ≡ true) where
    section_met : sections_from s at ≡ section_from s at ∷ sections_from s (at + section_size (drop at s))
    unfolding section_from
    section_met = sections_table s at e h q b ∙ rw (section_lines, ends_at, sections_skip s e)

  pub sections_other : begins_table l ≡ false → sections_from s at ≡ sections_from s e
  sections_other b = go (begins_end l) refl
    where
      go : (x : Bool) → begins_end l ≡ x → sections_from s at ≡ sections_from s e
      go true x = sections_trailer s at e h q b x
      go false x = sections_more s at e h q b x

  -- the next `tbl` line
  next_here : next_table (lines (drop at s)) ≡ pick (begins_table l) 0 (length l + next_table (lines (drop e s)))
  unfolding next_table
  next_here = rw (cut_at s at e h q)

  pub next_stop : begins_table l ≡ true → Settled s at
  unfolding Settled
  next_stop b = next_here ∙ rw b

  pub next_more : begins_table l ≡ false → at + next_table (lines (drop at s)) ≡ e + next_table (lines (drop e s))
  next_more b =
      let n : next_table (lines (drop at s)) ≡ length l + next_table (lines (drop e s)) = next_here ∙ rw b in
      omega (arith, line_long, line_in s at e h q)

  pub settled_begins : Settled s at → begins_table l ≡ true
  unfolding Settled
  settled_begins z = go (begins_table l) refl
    where
      go : (x : Bool) → begins_table l ≡ x → begins_table l ≡ true
      go true b = b
      go false b =
          let n : next_table (lines (drop at s)) ≡ length l + next_table (lines (drop e s)) = next_here ∙ rw b in
          absurd (omega (arith, line_long, line_in s at e h q))

-- a place that is a section's: that section, and those from its end on
module _ (s : Bytes) (at : ℕ) (h : at < length s) where
  pub section_within : (at < at + section_size (drop at s)) × (at + section_size (drop at s) ≤ length s)
  section_within =
      let e = at + line_size (drop at s) in
      (omega (arith, line_in s at e h refl, size_from s at e h refl), size_within s at e h refl)

  pub walk_here : Settled s at → sections_from s at ≡ section_from s at ∷ sections_from s (at + section_size (drop at s))
  walk_here z =
      let e = at + line_size (drop at s) in
      section_met s at e h refl (settled_begins s at e h refl z)

pub next_end : (s : Bytes) (at : ℕ) → length s ≤ at → Settled s at
unfolding Settled next_table
next_end s at h = rw (lines_end s at h)

pub settled_zero : (s : Bytes) (at : ℕ) → Settled s at → next_table (lines (drop at s)) ≡ 0
unfolding Settled
settled_zero s at z = z

-- where the section at a place ends: k bytes after its first line, before the next `tbl` or `eof` line
pub end_from : (s : Bytes) (at e k : ℕ) → at < length s → e ≡ at + line_size (drop at s) → k ≡ length (joined (header_lines (take (length s - e) (drop e s))))
    → (e + k ≡ at + section_size (drop at s)) × (at < e + k) × (e + k ≤ length s)
unfolding header_lines front_size
end_from s at e k h q x =
    let y : k ≡ front_size (drop e s) = x ∙ ap (λ (w : Bytes). length (joined (header_lines w))) (part_rest e s) in
    let i = line_in s at e h q in
    let n = size_from s at e h q in
    let z : e + k ≡ at + section_size (drop at s) = omega arith in
    (z, omega arith, omega (arith, size_within s at e h q))
