-- The rules of a table, asked of the numbers that are kept of a record's fields. Assumes nothing.
use mathlib.Core.Path.{◌≡◌, refl}
use mathlib.Core.List.{List, [], ◌∷◌, ◌++◌, Memᴰ}
use Prim.Native.Nat.{ℕ, ◌+◌, ◌≤◌}
use native.Mathlib.Omega.{arith}
use Rattle.std.specs.Prelude.{Some}
use Rattle.page.specs.Bytes.{Bytes}
use Rattle.page.specs.Tables.{Rule, points_differ, feeder_combined, WIDEST, column_at, width, rules}
use Rattle.page.specs.Section.{amount_at, own_feeder, foreign_feeder, broken, first_broken}
use Rattle.page.proofs.TableLaws.{width_le, points_there, feeder_there}
use Rattle.tables.specs.Rows.{rules_of}
use Rattle.tables.specs.declared.rows.Rule.TheVariants.{Points, Feeder}
use Rattle.rules.specs.Broken.{Columns, own_by, foreign_by, breaks, broken_by}

-- what the numbers say is what the fields say

rule_known : (t : ℕ) (fs : List Bytes) (ns : List ℕ) → Columns t fs ns → (r : Rule) → Memᴰ r (rules t) → breaks r ns ≡ broken r fs
unfolding breaks broken own_by own_feeder foreign_by foreign_feeder amount_at column_at width
rule_known t fs ns m (points_differ p) h =
    let x = points_there t p h in
    rw (
      (m p x.first.within).worth x.first.number,
      (m (p + 1) x.second.within).worth x.second.number,
      (m (p + 2) x.third.within).worth x.third.number,
      (m (p + 3) x.fourth.within).worth x.fourth.number,
    )
rule_known t fs ns m (feeder_combined c x) h =
    let y = feeder_there t c x h in
    let n = y.numbers in
    rw (
      (m c n.first.within).worth n.first.number,
      (m (c + 1) n.second.within).worth n.second.number,
      (m (c + 2) n.third.within).worth n.third.number,
      (m (c + 3) n.fourth.within).worth n.fourth.number,
      (m x y.line_id.within).empty y.line_id.text,
      (m (x + 1) y.direction_id.within).empty y.direction_id.text,
      (m (x + 2) y.area_id.within).empty y.area_id.text,
    )

rules_same : (fs : List Bytes) (ns : List ℕ) (rs : List Rule) → ((r : Rule) → Memᴰ r rs → breaks r ns ≡ broken r fs) → broken_by rs ns ≡ first_broken rs fs
unfolding broken_by first_broken
rules_same fs ns [] h = refl
rules_same fs ns (r ∷ rs) h =
    rw (h r (mathlib.Core.List.Memᴰ.head refl), rules_same fs ns rs (λ x m. h x (mathlib.Core.List.Memᴰ.tail m)))

pub rules_known : (t : ℕ) (fs : List Bytes) (ns : List ℕ) → Columns t fs ns → broken_by (rules t) ns ≡ first_broken (rules t) fs
rules_known t fs ns m = rules_same fs ns (rules t) (rule_known t fs ns m)

-- where the columns of a table's rule stand

pub points_in : (t p : ℕ) → rules_of (Some (Points p)) ≡ rules t → p + 4 ≤ WIDEST
unfolding width
points_in t p e =
    let m : Memᴰ (points_differ p) (rules t) = rw (← e) (mathlib.Core.List.Memᴰ.head refl) in
    omega (arith, (points_there t p m).fourth.within, width_le t)

pub feeder_in : (t c x : ℕ) → rules_of (Some (Feeder c x)) ≡ rules t → (c + 4 ≤ WIDEST) × (x + 3 ≤ WIDEST)
unfolding width
feeder_in t c x e =
    let m : Memᴰ (feeder_combined c x) (rules t) = rw (← e) (mathlib.Core.List.Memᴰ.head refl) in
    let y = feeder_there t c x m in
    (omega (arith, y.numbers.fourth.within, width_le t), omega (arith, y.area_id.within, width_le t))
