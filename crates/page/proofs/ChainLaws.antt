-- The page's scans by the library's words for chains. Assumes nothing.
use Rattle.std.proofs.Common.{◌≡◌, ◌+◌, ◌<◌, Bool, true, false, ◌&&◌, ℕ, zero, suc, Option, [], ◌∷◌, eqb, length, refl, sym, arith}
use Rattle.std.specs.List.{AllWithin, HoldsAt}
use lib.Pointwise.{pointwise}
use Rattle.std.specs.Bool.{MatchBool}
use Rattle.std.specs.Option.{MatchOption, unwrap_or}
use Rattle.std.proofs.lemmas.Iterator.{index_from_first}
use Rattle.page.specs.Bytes.{Bytes, until, all, same}

-- p passes at no place, or first at one
abbrev pub FirstAt : (ℕ → Bool) → Bytes → Option ℕ → Type 0
FirstAt p s r =
    MatchOption r (AllWithin (λ b. p b ≡ false) s 0 (length s))
    (λ i. (i < length s) × HoldsAt (λ b. p b ≡ true) s i × AllWithin (λ b. p b ≡ false) s 0 i)

until_hit : (p : ℕ → Bool) (b : ℕ) (s : Bytes) → p b ≡ true → until p (b ∷ s) ≡ 0
unfolding until
until_hit p b s e = rw e

until_miss : (p : ℕ → Bool) (b : ℕ) (s : Bytes) → p b ≡ false → until p (b ∷ s) ≡ until p s + 1
unfolding until
until_miss p b s e = rw e (omega arith)

until_none : (p : ℕ → Bool) → until p [] ≡ 0
unfolding until
until_none p = refl

pub until_first : (p : ℕ → Bool) (s : Bytes) (r : Option ℕ) → FirstAt p s r → unwrap_or r (length s) ≡ until p s
until_first p s r h = sym (index_from_first (until p) (λ b. p b ≡ true) (λ b. p b ≡ false) (until_none p) (until_hit p) (until_miss p) s r h)

-- what `all` answers: p passes at each place, or fails at one
abbrev pub AllOrNot : (ℕ → Bool) → Bytes → Bool → Type 0
AllOrNot p s r =
    MatchBool r (AllWithin (λ b. p b ≡ true) s 0 (length s)) ((k : ℕ) × (k < length s) × HoldsAt (λ b. p b ≡ false) s k)

all_true : (p : ℕ → Bool) (s : Bytes) → AllWithin (λ b. p b ≡ true) s 0 (length s) → all p s ≡ true
unfolding all
all_true p [] h = refl
all_true p (b ∷ s) h =
    let x : p b ≡ true = h 0 0 (omega arith) (omega arith) in
    rw (x, all_true p s (λ k d l u. h (suc k) d (omega arith) (omega arith)))

all_false : (p : ℕ → Bool) (s : Bytes) (k : ℕ) → k < length s → HoldsAt (λ b. p b ≡ false) s k → all p s ≡ false
unfolding all
all_false p [] k l h = absurd (omega arith)
all_false p (b ∷ s) zero l h = rw (h 0)
all_false p (b ∷ s) (suc k) l h = rw (all_false p s k (omega arith) h) (by (p b))
  where
    by : (t : Bool) → t && false ≡ false
    by true = refl
    by false = refl

pub all_first : (p : ℕ → Bool) (s : Bytes) (r : Bool) → AllOrNot p s r → r ≡ all p s
all_first p s true h = sym (all_true p s h)
all_first p s false h = sym (all_false p s h.0 h.1 h.2)

-- `==` of slices
pub same_is : (a b : Bytes) → pointwise eqb a b ≡ same a b
unfolding same
same_is [] [] = refl
same_is [] (y ∷ b) = refl
same_is (x ∷ a) [] = refl
same_is (x ∷ a) (y ∷ b) = rw (same_is a b)
