-- A record that passed its rules and is copied whole. Assumes nothing.
use mathlib.Core.Path.{◌≡◌}
use mathlib.Core.Bool.{Bool}
use mathlib.Core.List.{◌++◌}
use Prim.Native.Nat.{ℕ}
use lib.ListN.{length}
use Rattle.page.specs.Bytes.{Bytes, bytes}
use Rattle.page.specs.Fields.{fields}
use Rattle.page.specs.Tables.{columns, width}
use Rattle.page.specs.Order.{Order, listed_order, standing, by_column}
use Rattle.page.specs.Section.{first_wrong}
use Rattle.page.specs.Records.{values_of}
use Rattle.page.specs.Form.{line_end, record_form}
use Rattle.page.specs.declared.LineEnd.{LineEnd}
use Rattle.page.proofs.OrderLaws.{listed_standing, listed_column}
use Rattle.copies.specs.Changed.{changed_values}
use Rattle.copies.specs.Parts.{Whole}
use Rattle.copies.proofs.StandLaws.{record_kept}

module _ (ends : LineEnd) (strip : Bool) (x : Bytes) (f m t : ℕ) (o : Order) (w : Bytes) (n : length (fields w) ≡ width t)
    (z : first_wrong (standing t o) (fields w) ≡ 0) (e : o ≡ listed_order t) (k : (m ≡ 0) × (f ≡ 0) × Whole w) where
  many : length (fields w) ≡ length (columns t)
  unfolding width
  many = n

  sound : first_wrong (columns t) (fields w) ≡ 0
  sound = rw (e, listed_standing t) at z

  stands : by_column o (fields w) ≡ fields w
  stands = rw e (listed_column t (fields w) n)

  pub record_copied : bytes "rec;" ++ (w ++ line_end ends) ≡ record_form ends (changed_values strip f x (values_of m 1 (columns t) (by_column o (fields w))))
  record_copied = rw stands (record_kept strip x ends f m (columns t) w many sound k)
