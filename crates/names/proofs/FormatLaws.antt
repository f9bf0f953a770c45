-- A format by its name, its size and its tail.
-- Assumes nothing.
use mathlib.Core.Path.{◌≡◌, ap, sym, ◌∙◌}
use mathlib.Core.Bool.{true, false}
use Prim.Native.Nat.{ℕ, ◌+◌, ◌-◌, ◌<◌, ◌≤◌}
use native.Mathlib.Omega.{arith}
use borrow.Author.Tests.{eq-eqb, ne_eqb}
use lib.Dec.{leb}
use lib.ListN.{length, get_or, take, drop, length-take}
use Rattle.page.specs.Bytes.{Bytes, same, until}
use Rattle.page.specs.Fields.{digits, value}
use Rattle.page.specs.Section.{no_digit, size_ok, formed}
use Rattle.page.proofs.ScanLaws.{same_length, until_le, part_length}
use Rattle.page.proofs.PartLaws.{part_rest}

module _ (w : Bytes) where
  pub size_not : digits w ≡ false → size_ok w ≡ false
  unfolding size_ok
  size_not d = rw d

  pub size_zero : digits w ≡ true → get_or w 0 0 ≡ 48 → size_ok w ≡ false
  unfolding size_ok
  size_zero d e = rw (d, eq-eqb (get_or w 0 0) 48 e)

  pub size_value : digits w ≡ true → (get_or w 0 0 ≡ 48 → ⊥) → size_ok w ≡ leb (value 0 w) 255
  unfolding size_ok
  size_value d e = rw (d, ne_eqb (get_or w 0 0) 48 e)

module _ (name tail w : Bytes) where
  pub formed_short : length w < length name → formed name tail w ≡ false
  unfolding formed
  formed_short h =
      rw
      (same_length (take (length name) w) name
      (λ (e : length (take (length name) w) ≡ length name).
      let z : length (take (length name) w) ≤ length w = simp length-take (omega arith) in
      omega arith))

  pub formed_other : same (take (length name) w) name ≡ false → formed name tail w ≡ false
  unfolding formed
  formed_other e = rw e

  -- u digits are counted in what follows the name
  module _ (u : ℕ) (q : u ≡ until no_digit (take (length w - length name) (drop (length name) w))) where
    pub counted_in : length name ≤ length w → length name + u ≤ length w
    counted_in h =
        omega
        (arith, until_le no_digit (take (length w - length name) (drop (length name) w)), part_length (length name) (length w) w (omega arith))

    counted_is : u ≡ until no_digit (drop (length name) w)
    counted_is = q ∙ ap (until no_digit) (part_rest (length name) w)

    size_part : length name + u - length name ≡ until no_digit (drop (length name) w)
    size_part =
        let e = counted_is in
        omega arith

    module _ (e : same (take (length name) w) name ≡ true) where
      pub formed_size : size_ok (take (length name + u - length name) (drop (length name) w)) ≡ false → formed name tail w ≡ false
      unfolding formed
      formed_size x = rw (e, rw size_part at x)

      pub formed_tail : size_ok (take (length name + u - length name) (drop (length name) w)) ≡ true
          → formed name tail w ≡ same (take (length w - (length name + u)) (drop (length name + u) w)) tail
      unfolding formed
      formed_tail x = rw (e, rw size_part at x, sym counted_is) (ap (λ (l : Bytes). same l tail) (sym (part_rest (length name + u) w)))
