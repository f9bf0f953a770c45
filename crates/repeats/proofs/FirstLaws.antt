-- The first line of a section whose key stands before it, from what is known of each line, and after all rounds. Assumes nothing.
use mathlib.Core.Path.{◌≡◌, refl, sym, ◌∙◌}
use mathlib.Core.Bool.{Bool, true, false}
use mathlib.Core.List.{List, [], ◌∷◌}
use Prim.Native.Nat.{ℕ, zero, suc, ◌+◌, ◌<◌, ◌≤◌}
use native.Mathlib.Numerals.{add-one}
use native.Mathlib.Omega.{arith}
use borrow.Author.Tests.{ltb-true, ltb-false}
use lib.Dec.{eqb, ltb}
use lib.ListN.{length, get_or, take, drop}
use lib.Seq.{drop-cons, take-suc, drop-length}
use Rattle.page.specs.Bytes.{Bytes}
use Rattle.page.specs.Lines.{lines, in_front}
use Rattle.choices.specs.declared.Choice.{Choice}
use Rattle.bits.specs.Bits.{lane_of}
use Rattle.bits.proofs.BitLaws.{lane_lt}
use Rattle.scans.specs.Scan.{again, first_line}
use Rattle.rounds.specs.Rounds.{again_at, hash_of, hash_at, Round}

-- no line is without bytes
front_few : (e : Bool) (b : ℕ) (ls : List Bytes) → length (in_front e b ls) ≤ suc (length ls)
front_few true b ls = omega arith
front_few false b [] = omega arith
front_few false b (l ∷ ls) = omega arith

pub lines_few : (w : Bytes) → length (lines w) ≤ length w
unfolding lines
lines_few [] = omega arith
lines_few (b ∷ bs) = omega (arith, front_few (eqb b 10) b (lines bs), lines_few bs)

-- the first line at fault

module _ (fault : List Bytes → Bytes → Bool) (ls : List Bytes) where
  line_skip : (k : ℕ) → k ≤ length ls → ((m : ℕ) → m < k → fault (take m ls) (get_or ls m []) ≡ false) → first_line fault [] 0 ls ≡ first_line fault (take k ls) k (drop k ls)
  unfolding first_line
  line_skip zero h p = refl
  line_skip (suc k) h p =
      line_skip k (omega arith) (λ m l. p m (omega arith))
      ∙ rw (drop-cons ls k [] (omega arith), p k (omega arith), take-suc ls k [] (omega arith))

  line_none : ((m : ℕ) → m < length ls → fault (take m ls) (get_or ls m []) ≡ false) → first_line fault [] 0 ls ≡ 0
  unfolding first_line
  line_none p = line_skip (length ls) (omega arith) p ∙ rw (drop-length ls)

  line_at : (i : ℕ) → i < length ls → ((m : ℕ) → m < i → fault (take m ls) (get_or ls m []) ≡ false) → fault (take i ls) (get_or ls i []) ≡ true → first_line fault [] 0 ls ≡ suc i
  unfolding first_line
  line_at i h p e = line_skip i (omega arith) p ∙ rw (drop-cons ls i [] h, e)

module _ (q : Choice) (ls : List Bytes) where
  pub repeat_none : ((m : ℕ) → m < length ls → again_at q ls m ≡ false) → first_line (again q) [] 0 ls ≡ 0
  unfolding again_at
  repeat_none p = line_none (again q) ls p

  repeat_at : (i : ℕ) → i < length ls → ((m : ℕ) → m < i → again_at q ls m ≡ false) → again_at q ls i ≡ true → first_line (again q) [] 0 ls ≡ suc i
  unfolding again_at
  repeat_at i h p e = line_at (again q) ls i h p e

-- the lines before `last` of the rounds before r are new, and line `last` is not, if there is one
abbrev pub Done : Choice → List Bytes → ℕ → ℕ → ℕ → ℕ → Type 0
Done q ls size n last r =
    (last ≤ size) × (last < size → (last < length ls) × (again_at q ls last ≡ true))
    × ((m : ℕ) → m < last → m < length ls → lane_of (hash_at q ls m) n < r → again_at q ls m ≡ false)

by_less : {G : Type 0} (a b : ℕ) → (a < b → G) → (b ≤ a → G) → G
by_less {G} a b f g = go (ltb a b) refl
  where
    go : (x : Bool) → ltb a b ≡ x → G
    go true e = f (ltb-true a b e)
    go false e = g (ltb-false a b e)

module _ (q : Choice) (ls : List Bytes) (size n : ℕ) where
  pub done_more : (last r e : ℕ) → Done q ls size n last r → Round q ls r n last e → Done q ls size n e (r + 1)
  done_more last r e d p = (
    omega (arith, p.within),
    (λ l. by_less e last p.hit (λ g. let x : e ≡ last = omega (arith, p.within) in rw x (d.1 (rw x at l)))),
    λ m k l o.
        by_less (lane_of (hash_at q ls m) n) r (λ u. d.2 m (omega (arith, p.within)) l u) (λ u. p.clear m k l (omega arith)),
  )

  module _ (last r : ℕ) (p : 0 < n) (g : n ≤ r) (d : Done q ls size n last r) where
    all : (m : ℕ) → m < last → m < length ls → again_at q ls m ≡ false
    all m k l = d.2 m k l (omega (arith, lane_lt (hash_of q (get_or ls m [])) n p))

    pub done_at : last < size → last + 1 ≡ first_line (again q) [] 0 ls
    done_at l = let h = d.1 l in add-one last ∙ sym (repeat_at q ls last h.0 (λ m k. all m k (omega arith)) h.1)

    pub done_none : length ls ≤ size → size ≤ last → 0 ≡ first_line (again q) [] 0 ls
    done_none f l = sym (repeat_none q ls (λ m k. all m (omega arith) k))
