-- The sections from a section's own place on are the rest of the sections. Assumes nothing.
use mathlib.Core.Path.{◌≡◌, refl, ap}
use mathlib.Core.Bool.{Bool, true, false}
use mathlib.Core.List.{List}
use Prim.Native.Nat.{ℕ, zero, suc, ◌+◌, ◌-◌, ◌<◌}
use native.Mathlib.Omega.{arith}
use borrow.Author.Tests.{ltb-true, ltb-false}
use lib.Dec.{ltb}
use lib.ListN.{length, take, drop, get_or}
use Rattle.page.specs.Bytes.{Bytes}
use Rattle.page.specs.Cut.{Section, begins_table, sections}
use Rattle.page.specs.Reading.{no_section}
use Rattle.page.proofs.LineLaws.{line_size, line_in}
use Rattle.page.proofs.CutLaws.{sections_from, sections_all, sections_table, sections_end}
use Rattle.cut.proofs.WalkLaws.{sections_other}
use Rattle.steps.specs.Steps.{Begins}

-- a section of s that stands at a place, and all after it
record Here (s : Bytes) (at : ℕ) (xs : List Section) : Type 0 where
  begins : Begins s at
  are : sections_from s at ≡ xs

abbrev Rest : Bytes → List Section → ℕ → Type 0
Rest s xs k = Here s (get_or xs k no_section).place (drop k xs)

abbrev Each : Bytes → List Section → Type 0
Each s xs = (k : ℕ) → k < length xs → Rest s xs k

-- from a line on, if from the next line on
module _ (s : Bytes) (at : ℕ) (h : at < length s) where
  abbrev e : ℕ
  e = at + line_size (drop at s)

  abbrev line_here : Bytes
  line_here = take (e - at) (drop at s)

  is_line : line_here ≡ take (line_size (drop at s)) (drop at s)
  is_line =
      let n : at + line_size (drop at s) - at ≡ line_size (drop at s) = omega arith in
      ap (λ (k : ℕ). take k (drop at s)) n

  table_rest : begins_table line_here ≡ true → Each s (sections_from s e) → Each s (sections_from s at)
  table_rest x r zero l =
      let p : (get_or (sections_from s at) 0 no_section).place ≡ at = rw (sections_table s at e h refl x) in
      rw p (record { begins = record { within = h; table = rw is_line at x }; are = refl })
  table_rest x r (suc k) l =
      let n : k < length (sections_from s e) = omega (arith, ap length (sections_table s at e h refl x)) in
      rw (sections_table s at e h refl x) (r k n)

  other_rest : begins_table line_here ≡ false → Each s (sections_from s e) → Each s (sections_from s at)
  other_rest x r = rw (sections_other s at e h refl x) r

  line_rest : Each s (sections_from s e) → Each s (sections_from s at)
  line_rest r = by (begins_table line_here) refl
    where
      by : (b : Bool) → begins_table line_here ≡ b → Each s (sections_from s at)
      by true x = table_rest x r
      by false x = other_rest x r

-- each of the sections from a place on, by its own place; f is more than the bytes that are left
all_rest : (s : Bytes) (f at : ℕ) → length s - at < f → Each s (sections_from s at)
all_rest s zero at n k l = absurd (omega arith)
all_rest s (suc f) at n k l = by (all_rest s f) (ltb at (length s)) refl k l
  where
    by : ((e : ℕ) → length s - e < f → Each s (sections_from s e)) → (b : Bool) → ltb at (length s) ≡ b → Each s (sections_from s at)
    by r true x k l =
        let h = ltb-true at (length s) x in
        let i = line_in s at (at + line_size (drop at s)) h refl in
        line_rest s at h (r (at + line_size (drop at s)) (omega arith)) k l
    by r false x k l = absurd (omega (arith, ap length (sections_end s at (ltb-false at (length s) x))))

module _ (s : Bytes) (k : ℕ) (h : k < length (sections s)) where
  rest : Rest s (sections s) k
  rest =
      let r = all_rest s (suc (length s)) 0 (omega arith) in
      (rw (sections_all s) at r) k h

  -- "A section begins at each `tbl` line"
  pub section_begins : Begins s (get_or (sections s) k no_section).place
  section_begins = rest.begins

  pub section_rest : sections_from s (get_or (sections s) k no_section).place ≡ drop k (sections s)
  section_rest = rest.are
