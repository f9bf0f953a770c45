-- The records that stay: one by one, how many they are, and that the code's word for them is the definition's. Assumes nothing.
use mathlib.Core.Path.{◌≡◌, refl, ap}
use mathlib.Core.Bool.{Bool, true, false}
use mathlib.Core.List.{List, [], ◌∷◌, ◌++◌}
use Prim.Native.Nat.{suc, ◌≤◌}
use native.Mathlib.Omega.{arith}
use lib.ListN.{length}
use Rattle.page.specs.Bytes.{pick}
use Rattle.page.specs.Records.{Record}
use Rattle.page.specs.Model.{Content, Model, kept}
use Rattle.page.specs.declared.Stays.{Stays}
use Rattle.page.specs.declared.Stays.TheVariants as St
use Rattle.copies.specs.Changed.{stays_in, kept_records, kept_content, kept_tables}

-- whichever stay

module _ (x : Stays) where
  module _ (v : Record) where
    pub kept_here : (b : Bool) → b ≡ stays_in x v → b ≡ true → kept_records x (v ∷ []) ≡ v ∷ []
    unfolding kept_records
    kept_here b e h = let z : stays_in x v ≡ true = cc in rw z

    pub kept_gone : (b : Bool) → b ≡ stays_in x v → b ≡ false → kept_records x (v ∷ []) ≡ []
    unfolding kept_records
    kept_gone b e h = let z : stays_in x v ≡ false = cc in rw z

    pub kept_first : (vs : List Record) → kept_records x (v ∷ vs) ≡ kept_records x (v ∷ []) ++ kept_records x vs
    unfolding kept_records
    kept_first vs = by (stays_in x v)
      where
        by : (b : Bool) → pick b (v ∷ kept_records x vs) (kept_records x vs) ≡ pick b (v ∷ []) [] ++ kept_records x vs
        by true = refl
        by false = refl

  pub kept_few : (vs : List Record) → length (kept_records x vs) ≤ length vs
  unfolding kept_records
  kept_few [] = omega arith
  kept_few (v ∷ vs) = by (stays_in x v) (kept_few vs)
    where
      by : (b : Bool) → length (kept_records x vs) ≤ length vs → length (pick b (v ∷ kept_records x vs) (kept_records x vs)) ≤ suc (length vs)
      by true h = omega arith
      by false h = omega arith

  pub kept_count : (cs : List Content) → length (kept_tables x cs) ≡ length cs
  unfolding kept_tables
  kept_count [] = refl
  kept_count (c ∷ cs) = ap suc (kept_count cs)

-- all of them

all_records : (vs : List Record) → kept_records St.All vs ≡ vs
unfolding kept_records stays_in
all_records [] = refl
all_records (v ∷ vs) = rw (all_records vs)

all_tables : (cs : List Content) → kept_tables St.All cs ≡ cs
unfolding kept_tables kept_content
all_tables [] = refl
all_tables (c ∷ cs) = rw (all_records c.records, all_tables cs)

pub kept_is : (x : Stays) (m : Model) → record { head = m.head; tables = kept_tables x m.tables } ≡ kept x m
unfolding kept
kept_is St.All m = rw (all_tables m.tables)
