-- A section by its number, reached by walking. Assumes nothing.
use mathlib.Core.Path.{◌≡◌, refl, ap, sym, ◌∙◌}
use mathlib.Core.Bool.{Bool, true, false}
use mathlib.Core.List.{List, [], ◌∷◌}
use Prim.Native.Nat.{ℕ, ◌+◌, ◌<◌, ◌≤◌}
use native.Mathlib.Nat.{add-zero}
use native.Mathlib.Omega.{arith}
use lib.Dec.{ltb}
use lib.ListN.{length, get_or, drop, length-drop, drop_of_length-le}
use lib.Seq.{drop-drop, get_or-drop}
use borrow.Author.Tests.{lt-ltb, le-ltb, ltb-true, ltb-false}
use Rattle.page.specs.Bytes.{Bytes, pick}
use Rattle.page.specs.Cut.{Section, sections}
use Rattle.page.specs.Reading.{no_section}
use Rattle.page.proofs.CutLaws.{sections_from, sections_all, sections_end}
use Rattle.cut.specs.Walk.{section_size, section_from, Settled, Next, Reached}
use Rattle.cut.proofs.WalkLaws.{walk_here}

-- what is left of a list after k
module _ (xs : List Section) (k : ℕ) where
  left_next : (x : Section) (r : List Section) → drop k xs ≡ x ∷ r → drop (k + 1) xs ≡ r
  left_next x r e = sym (drop-drop 1 k xs) ∙ ap (drop 1) e

  left_here : (x : Section) (r : List Section) → drop k xs ≡ x ∷ r → (k < length xs) × (get_or xs k no_section ≡ x)
  left_here x r e = (
    omega (arith, ap length e, length-drop k xs),
    ap (λ (n : ℕ). get_or xs n no_section) (sym (add-zero k)) ∙ sym (get_or-drop k xs 0 no_section) ∙ ap (λ (y : List Section). get_or y 0 no_section) e,
  )

  left_none : drop k xs ≡ [] → length xs ≤ k
  left_none e = omega (arith, ap length e, length-drop k xs)

module _ (s : Bytes) where
  pub reach_first : (r : ℕ) → Next s 0 r → drop 0 (sections s) ≡ sections_from s r
  reach_first r n = sym (n.same ∙ sections_all s)

  pub reach_next : (j at e r : ℕ) → at < length s → Settled s at → drop j (sections s) ≡ sections_from s at → e ≡ at + section_size (drop at s) → Next s e r
      → drop (j + 1) (sections s) ≡ sections_from s r
  reach_next j at e r h z d q n = left_next (sections s) j _ _ (d ∙ walk_here s at h z) ∙ ap (sections_from s) (sym q) ∙ sym n.same

  -- past the last section nothing is left
  pub reach_none : (j k at : ℕ) → length s ≤ at → j ≤ k → drop j (sections s) ≡ sections_from s at → drop k (sections s) ≡ sections_from s at
  reach_none j k at h i d =
      let n = left_none (sections s) j (d ∙ sections_end s at h) in
      let m : length (sections s) ≤ k = omega arith in
      drop_of_length-le (sections s) m ∙ sym (sections_end s at h)

  module _ (k at : ℕ) (w : at ≤ length s) (z : Settled s at) (d : drop k (sections s) ≡ sections_from s at) where
    pub reach_here : at < length s → (k < length (sections s)) × (get_or (sections s) k no_section ≡ section_from s at)
    reach_here h = left_here (sections s) k _ _ (d ∙ walk_here s at h z)

    pub reach_past : length s ≤ at → length (sections s) ≤ k
    reach_past h = left_none (sections s) k (d ∙ sections_end s at h)

    pub reached : Reached s k at
    unfolding section_from
    reached = record { is = go (ltb at (length s)) refl; within = w; settled = z; left = d }
      where
        go : (b : Bool) → ltb at (length s) ≡ b → at ≡ pick (ltb k (length (sections s))) (get_or (sections s) k no_section).place (length s)
        go true q =
            let x = reach_here (ltb-true at (length s) q) in
            rw (lt-ltb k (length (sections s)) x.0, x.1)
        go false q =
            let h = ltb-false at (length s) q in
            let x = reach_past h in
            rw (le-ltb k (length (sections s)) x) (omega arith)
