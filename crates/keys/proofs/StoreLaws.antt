-- A walk over a line's fields, each put where it stands in the key, and a text packed byte by byte. Assumes nothing.
use mathlib.Core.Path.{◌≡◌, refl, ap, ◌∙◌}
use mathlib.Core.List.{List, [], ◌∷◌}
use mathlib.Core.Bool.{Bool, true, false}
use Prim.Native.Nat.{ℕ, ◌+◌, ◌*◌, ◌/◌, ◌%◌, ◌<◌, ◌≤◌}
use borrow.Author.Tests.{ne_eqb}
use native.Mathlib.Omega.{arith}
use lib.Dec.{eqb, ltb}
use lib.ListN.{length, get_or, set, drop}
use Rattle.page.specs.Bytes.{Bytes, pick}
use Rattle.page.specs.Fields.{quote, field_size}
use Rattle.page.proofs.FieldLaws.{from, from_end}
use Rattle.doubling.specs.Raw.{undoubled}
use Rattle.doubling.proofs.TextLaws.{undoubled_second, undoubled_first, undoubled_end}
use Rattle.digits.specs.Runs.{field_from}
use Rattle.digits.proofs.RunLaws.{from_next}
use Rattle.keys.specs.Numbers.{room, push, packed_from, field_as, gather}

-- a text's own bytes, from a place of what stands between its quotes on

module _ (n : ℕ) (met : Bool) (s : Bytes) (i : ℕ) where
  pub packed_second : i < length s → met ≡ true → packed_from n (undoubled met (drop i s)) ≡ packed_from n (undoubled false (drop (i + 1) s))
  packed_second h e = ap (packed_from n) (undoubled_second met s i h e)

  pub packed_first : i < length s → met ≡ false
      → packed_from n (undoubled met (drop i s)) ≡ packed_from (push n (get_or s i 0)) (undoubled (quote (get_or s i 0)) (drop (i + 1) s))
  unfolding packed_from
  packed_first h e = ap (packed_from n) (undoubled_first met s i h e)

  pub packed_end : length s ≤ i → packed_from n (undoubled met (drop i s)) ≡ n
  unfolding packed_from
  packed_end h = ap (packed_from n) (undoubled_end met s i h)

pub push_some : (n b : ℕ) → 1 ≤ n → 1 ≤ push n b
unfolding push
push_some n b h = by (ltb n room)
  where
    by : (x : Bool) → 1 ≤ pick x (n * 256 + b) n
    by true = omega arith
    by false = h

-- one field more
abbrev pub put : ℕ → ℕ → Bytes → List ℕ → List ℕ
put d n f k = pick (eqb d 0) k (set k n (field_as d f))

pub gather_one : (q z : ℕ) (f : Bytes) (fs : List Bytes) (k : List ℕ) → gather q z (f ∷ fs) k ≡ gather (q / 4) (z / 8) fs (put (q % 4) (z % 8) f k)
unfolding gather
gather_one q z f fs k = refl

-- a walk over the fields that are left, where the field at a place ends at e
module _ (w : Bytes) (at e q z : ℕ) (k : List ℕ) (h : at ≤ length w) (x : e ≡ at + field_size false (drop at w)) where
  next : gather q z (from w at) k ≡ gather (q / 4) (z / 8) (from w (e + 1)) (put (q % 4) (z % 8) (field_from w at) k)
  next = ap (λ (l : List Bytes). gather q z l k) (from_next w at e h x) ∙ gather_one q z (field_from w at) (from w (e + 1)) k

  pub gather_skip : q % 4 ≡ 0 → gather q z (from w at) k ≡ gather (q / 4) (z / 8) (from w (e + 1)) k
  gather_skip n = next ∙ ap (gather (q / 4) (z / 8) (from w (e + 1))) (ap (λ (d : ℕ). put d (z % 8) (field_from w at) k) n)

  pub gather_take : (q % 4 ≡ 0 → ⊥) → (v : ℕ) → v ≡ pick (eqb (q % 4) 0) 0 (field_as (q % 4) (field_from w at))
      → gather q z (from w at) k ≡ gather (q / 4) (z / 8) (from w (e + 1)) (set k (z % 8) v)
  gather_take n v b = next ∙ ap (gather (q / 4) (z / 8) (from w (e + 1))) (rw (b, ne_eqb (q % 4) 0 n))

pub gather_past : (w : Bytes) (at q z : ℕ) (k : List ℕ) → length w < at → gather q z (from w at) k ≡ k
unfolding gather
gather_past w at q z k h = rw (from_end w at h)

pub gather_none : (z : ℕ) (fs : List Bytes) (k : List ℕ) → gather 0 z fs k ≡ k
unfolding gather
gather_none z [] k = refl
gather_none z (f ∷ fs) k = gather_none (z / 8) fs k
