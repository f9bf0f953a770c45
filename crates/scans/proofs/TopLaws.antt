-- The largest key of the lines passed: a key above it is new. Assumes nothing.
use mathlib.Core.Path.{◌≡◌, refl, ◌∙◌}
use mathlib.Core.Bool.{Bool, true, false}
use mathlib.Core.List.{List, [], ◌∷◌, ◌++◌}
use Prim.Native.Nat.{ℕ}
use Rattle.page.specs.Bytes.{Bytes, pick, same}
use Rattle.page.specs.File.{any}
use Rattle.page.proofs.KeyLaws.{any_append}
use Rattle.page.proofs.TestLaws.{same_true, neither}
use Rattle.choices.specs.declared.Choice.{Choice}
use Rattle.keys.specs.Orders.{less}
use Rattle.keys.proofs.OrderLaws.{less_self, less_new, less_top}
use Rattle.scans.specs.Scan.{is_record, line_key, bears, again, above, rises, raised, Topped}

pub topped_none : (q : Choice) (k : List ℕ) → Topped q k []
unfolding any
topped_none q k = record { none = refl }

-- a key above the largest one
module _ (q : Choice) (top k : List ℕ) (h : less top k ≡ true) where
  one_new : (l : Bytes) → above q top l ≡ false → (bears q k l ≡ false) × (above q k l ≡ false)
  unfolding above bears
  one_new l e = by (is_record l) (same (line_key q l) k) refl e
    where
      by : (r b : Bool) → same (line_key q l) k ≡ b → pick r (less top (line_key q l)) false ≡ false
          → (pick r (same (line_key q l) k) false ≡ false) × (pick r (less k (line_key q l)) false ≡ false)
      by false b g e = (refl, refl)
      by true true g e = absurd (less_new top k (line_key q l) h e (same_true (line_key q l) k g))
      by true false g e = (g, less_top top k (line_key q l) h e)

  all_new : (ls : List Bytes) → any (above q top) ls ≡ false → (any (bears q k) ls ≡ false) × (any (above q k) ls ≡ false)
  unfolding any
  all_new [] e = (refl, refl)
  all_new (l ∷ ls) e =
      let n = neither (above q top l) (any (above q top) ls) e in
      let a = one_new l n.0 in
      let b = all_new ls n.1 in
      (rw a.0 b.0, rw a.1 b.1)

-- a line more that is not above the largest key
topped_line : (q : Choice) (k : List ℕ) (ls : List Bytes) (l : Bytes) → any (above q k) ls ≡ false → above q k l ≡ false → Topped q k (ls ++ l ∷ [])
unfolding any
topped_line q k ls l a b = record { none = any_append (above q k) ls (l ∷ []) ∙ rw (a, b) }

-- a line that rises
module _ (q : Choice) (top : List ℕ) (ls : List Bytes) (l : Bytes) (z : Topped q top ls) (e : rises q top l ≡ true) where
  pub rise_new : again q ls l ≡ false
  unfolding rises again
  rise_new = by (is_record l) e
    where
      by : (b : Bool) → pick b (less top (line_key q l)) true ≡ true → pick b (any (bears q (line_key q l)) ls) false ≡ false
      by true m = (all_new q top (line_key q l) m ls z.none).0
      by false m = refl

  pub rise_topped : Topped q (raised q top l) (ls ++ l ∷ [])
  unfolding rises raised above
  rise_topped = by (is_record l) refl e
    where
      by : (b : Bool) → is_record l ≡ b → pick b (less top (line_key q l)) true ≡ true → Topped q (pick b (line_key q l) top) (ls ++ l ∷ [])
      by true r m = topped_line q (line_key q l) ls l (all_new q top (line_key q l) m ls z.none).1 (rw r (less_self (line_key q l)))
      by false r m = topped_line q top ls l z.none (rw r)

-- a line that is no record, and one that is, by what it has in the fields of a choice
module _ (q : Choice) (l : Bytes) (top : List ℕ) where
  pub rises_other : is_record l ≡ false → (rises q top l ≡ true) × (top ≡ raised q top l)
  unfolding rises raised
  rises_other n = (rw n, rw n)

  pub rises_keyed : is_record l ≡ true → (x : List ℕ) → x ≡ line_key q l → (rises q top l ≡ less top x) × (x ≡ raised q top l)
  unfolding rises raised
  rises_keyed r x y = (rw (r, y), rw (r, y))
