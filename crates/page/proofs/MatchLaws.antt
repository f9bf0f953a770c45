-- The fields of a line against columns, one by one from the left: the formats of `frm`. Assumes nothing.
use mathlib.Core.Path.{◌≡◌, refl, sym, ◌∙◌}
use mathlib.Core.Bool.{Bool, true, false, ◌&&◌}
use mathlib.Core.List.{List, [], ◌∷◌}
use Prim.Native.Nat.{ℕ, ◌+◌, ◌<◌, ◌≤◌}
use native.Mathlib.Numerals.{add-one}
use lib.Dec.{ltb}
use lib.ListN.{length, get_or, drop, drop_of_length-le}
use lib.Seq.{drop-cons}
use borrow.Author.Tests.{ltb-true, ltb-false}
use Rattle.page.specs.Bytes.{Bytes}
use Rattle.page.specs.Fields.{field_size}
use Rattle.page.specs.Tables.{Named, no_column}
use Rattle.page.specs.Section.{format_ok, formats_ok}
use Rattle.page.proofs.FieldLaws.{from, from_more, from_end}

-- as many fields as columns, and each passes its column's test
unfoldable pub matches : (Named → Bytes → Bool) → List Named → List Bytes → Bool
matches p [] [] = true
matches p [] (f ∷ fs) = false
matches p (c ∷ cs) [] = false
matches p (c ∷ cs) (f ∷ fs) = p c f && matches p cs fs

abbrev pub has_format : Named → Bytes → Bool
has_format c f = format_ok c.column.text f

pub formats_matches : (cs : List Named) (fs : List Bytes) → formats_ok cs fs ≡ matches has_format cs fs
unfolding formats_ok matches
formats_matches [] [] = refl
formats_matches [] (f ∷ fs) = refl
formats_matches (c ∷ cs) [] = refl
formats_matches (c ∷ cs) (f ∷ fs) = rw (formats_matches cs fs)

-- k columns on
module _ (p : Named → Bytes → Bool) (cs : List Named) (k : ℕ) where
  module _ (h : k < length cs) (fs : List Bytes) where
    pub matches_none : fs ≡ [] → matches p (drop k cs) fs ≡ false
    unfolding matches
    matches_none e = rw (e, drop-cons cs k no_column h)

    module _ (f : Bytes) (r : List Bytes) (e : fs ≡ f ∷ r) where
      pub matches_not : p (get_or cs k no_column) f ≡ false → matches p (drop k cs) fs ≡ false
      unfolding matches
      matches_not q = rw (e, drop-cons cs k no_column h, q)

      pub matches_more : p (get_or cs k no_column) f ≡ true → matches p (drop k cs) fs ≡ matches p (drop (k + 1) cs) r
      unfolding matches
      matches_more q = rw (add-one, e, drop-cons cs k no_column h, q)

  module _ (h : length cs ≤ k) where
    all_met : (fs : List Bytes) → fs ≡ [] → matches p (drop k cs) fs ≡ true
    unfolding matches
    all_met fs e = rw (e, drop_of_length-le cs h)

    one_over : (fs : List Bytes) (f : Bytes) (r : List Bytes) → fs ≡ f ∷ r → matches p (drop k cs) fs ≡ false
    unfolding matches
    one_over fs f r e = rw (e, drop_of_length-le cs h)

    pub matches_last : (w : Bytes) (at : ℕ) → ltb (length w) at ≡ matches p (drop k cs) (from w at)
    matches_last w at = go (ltb (length w) at) refl
      where
        go : (b : Bool) → ltb (length w) at ≡ b → ltb (length w) at ≡ matches p (drop k cs) (from w at)
        go true q = q ∙ sym (all_met (from w at) (from_end w at (ltb-true (length w) at q)))
        go false q =
            q ∙ sym (one_over (from w at) _ _ (from_more w at (at + field_size false (drop at w)) (ltb-false (length w) at q) refl))
