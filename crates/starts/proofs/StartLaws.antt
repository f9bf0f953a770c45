-- Where a record's fields begin, one after the other. Assumes nothing.
use mathlib.Core.Path.{◌≡◌, refl, sym}
use mathlib.Core.Bool.{Bool, true, false}
use mathlib.Core.List.{List}
use Prim.Native.Nat.{ℕ, zero, suc, ◌+◌, ◌<◌}
use native.Mathlib.Omega.{arith}
use lib.Dec.{eqb}
use lib.ListN.{length, get_or, set, drop}
use lib.Seq.{get_or-set_same, get_or-set_other}
use borrow.Author.Tests.{eqb-true, eqb-false}
use Rattle.page.specs.Bytes.{Bytes}
use Rattle.page.specs.Fields.{field_size}
use Rattle.page.specs.Places.{field_place}

-- the first k of them
abbrev pub Starts : Bytes → ℕ → List ℕ → Type 0
Starts w k l = (p : ℕ) → p < k → get_or l p 0 ≡ field_place p 0 w

pub starts_more : (w : Bytes) (k v : ℕ) (l : List ℕ) → k < length l → Starts w k l → v ≡ field_place k 0 w → Starts w (k + 1) (set l k v)
starts_more w k v l h s e p i = by (eqb p k) refl
  where
    by : (b : Bool) → eqb p k ≡ b → get_or (set l k v) p 0 ≡ field_place p 0 w
    by true q = let x : p ≡ k = eqb-true p k q in rw (x, get_or-set_same l k v 0 h) e
    by false q = let x = eqb-false p k q in rw (get_or-set_other l k p v 0 x) (s p (omega arith))

place_next : (k at : ℕ) (w : Bytes) → field_place (suc k) at w ≡ field_place k at w + field_size false (drop (field_place k at w) w) + 1
unfolding field_place
place_next zero at w = refl
place_next (suc k) at w = place_next k (at + field_size false (drop at w) + 1) w

pub place_on : (w : Bytes) (k at e : ℕ) → at ≡ field_place k 0 w → e ≡ at + field_size false (drop at w) → e + 1 ≡ field_place (k + 1) 0 w
place_on w k at e p q =
    let n : k + 1 ≡ suc k = omega arith in
    rw (n, place_next k 0 w, sym p) (omega arith)
