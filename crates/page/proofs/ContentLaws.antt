-- The laws of a line's content, its command and the bytes allowed in it. Assumes nothing.
use mathlib.Core.Path.{◌≡◌, refl, sym, ◌∙◌}
use mathlib.Core.Bool.{Bool, true, false}
use mathlib.Core.List.{[], ◌∷◌}
use Prim.Native.Nat.{ℕ, ◌+◌, ◌-◌, ◌<◌, ◌≤◌}
use native.Mathlib.Omega.{arith}
use borrow.Author.Tests.{eq-eqb, ne_eqb, lt-ltb, le-ltb}
use lib.Dec.{eqb}
use lib.ListN.{length, take, drop, get_or, drop_of_length-le}
use Rattle.page.specs.Bytes.{Bytes, pick, until, trim}
use Rattle.page.specs.Lines.{content_size, semicolon, command, rest, find, known, Mod, Missing}

pub content_none : (l : Bytes) → length l ≡ 0 → content_size l ≡ 0
unfolding content_size
content_none [] h = refl
content_none (b ∷ l) h = absurd (omega arith)

module _ (l : Bytes) where
  pub content_whole : (get_or l (length l - 1) 0 ≡ 10 → ⊥) → content_size l ≡ length l
  unfolding content_size
  content_whole h = rw (ne_eqb (get_or l (length l - 1) 0) 10 h)

  pub content_cr : get_or l (length l - 1) 0 ≡ 10 → get_or l (length l - 2) 0 ≡ 13 → content_size l ≡ length l - 2
  unfolding content_size
  content_cr h k = rw (eq-eqb (get_or l (length l - 1) 0) 10 h, eq-eqb (get_or l (length l - 2) 0) 13 k)

  pub content_lf : get_or l (length l - 1) 0 ≡ 10 → (get_or l (length l - 2) 0 ≡ 13 → ⊥) → content_size l ≡ length l - 1
  unfolding content_size
  content_lf h k = rw (eq-eqb (get_or l (length l - 1) 0) 10 h, ne_eqb (get_or l (length l - 2) 0) 13 k)

pub content_one : (l : Bytes) → length l ≡ 1 → get_or l (length l - 1) 0 ≡ 10 → content_size l ≡ 0
content_one l n h =
    let a : length l - 1 ≡ 0 = omega arith in
    let b : length l - 2 ≡ 0 = omega arith in
    let x : get_or l 0 0 ≡ 10 = rw a at h in
    content_lf l h (λ (k : get_or l (length l - 2) 0 ≡ 13). let y : get_or l 0 0 ≡ 13 = rw b at k in omega arith) ∙ a

pub content_le : (l : Bytes) → content_size l ≤ length l
unfolding content_size
content_le l = by (eqb (get_or l (length l - 1) 0) 10) (eqb (get_or l (length l - 2) 0) 13)
  where
    by : (x y : Bool) → pick x (pick y (length l - 2) (length l - 1)) (length l) ≤ length l
    by true true = omega arith
    by true false = omega arith
    by false y = omega arith

-- where the first `;` stands, or the end
module _ (c : Bytes) (i : ℕ) (e : i ≡ until semicolon c) where
  pub command_some : i < length c → command c ≡ find Mod known (trim (take i c))
  unfolding command
  command_some h = rw (sym e, lt-ltb i (length c) h)

  pub command_none : length c ≤ i → command c ≡ Missing
  unfolding command
  command_none h = rw (sym e, le-ltb i (length c) h)

  pub rest_at : drop (i + 1) c ≡ rest c
  unfolding rest
  rest_at = rw e

  pub rest_none : length c ≤ i → rest c ≡ []
  rest_none h =
      let k : length c ≤ i + 1 = omega arith in
      sym rest_at ∙ drop_of_length-le c k
