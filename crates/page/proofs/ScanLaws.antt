-- The laws of the scans over bytes, at an index: the scan stops there, it goes on, or the bytes have ended. Assumes nothing.
use mathlib.Core.Path.{◌≡◌, refl, ap, sym, ◌∙◌}
use mathlib.Core.Bool.{Bool, true, false, and-false}
use mathlib.Core.List.{[], ◌∷◌, ◌++◌}
use Prim.Native.Nat.{ℕ, zero, suc, ◌+◌, ◌-◌, ◌<◌, ◌≤◌}
use native.Mathlib.Numerals.{add-one}
use native.Mathlib.Omega.{arith}
use borrow.Author.Rules.{rules}
use borrow.Author.Tests.{eq-eqb, ne_eqb, lt-ltb, le-ltb, le-leb, lt-leb}
use lib.Dec.{eqb}
use lib.ListN.{length, get_or, take, drop, drop_of_length-le, length-take, length-drop}
use lib.Seq.{drop-cons, take-suc, length-take-le, take-take, drop-drop}
use Rattle.page.specs.declared.Span.{Span}
use Rattle.page.specs.Bytes.{Bytes, pick, same, all, until, keep, kept_after, part, moved, space, no_space, trim_of, trim, unpadded}
use Rattle.page.proofs.TestLaws.{and_left, and_right}

-- what closes the answers of a function that goes by tests, where its definition goes by `pick`
pub ruleset tests = (rules, eq-eqb, ne_eqb, lt-ltb, le-ltb, le-leb, lt-leb)

module _ (p : ℕ → Bool) (s : Bytes) (i : ℕ) where
  pub until_hit : i < length s → p (get_or s i 0) ≡ true → until p (drop i s) ≡ 0
  unfolding until
  until_hit h e = rw (drop-cons s i 0 h, e)

  pub until_more : i < length s → p (get_or s i 0) ≡ false → until p (drop i s) ≡ suc (until p (drop (i + 1) s))
  unfolding until
  until_more h e = rw (add-one, drop-cons s i 0 h, e)

  pub until_end : length s ≤ i → until p (drop i s) ≡ 0
  unfolding until
  until_end h = rw (drop_of_length-le s h)

  pub all_more : i < length s → p (get_or s i 0) ≡ true → all p (drop i s) ≡ all p (drop (i + 1) s)
  unfolding all
  all_more h e = rw (add-one, drop-cons s i 0 h, e)

  pub all_not : i < length s → p (get_or s i 0) ≡ false → all p (drop i s) ≡ false
  unfolding all
  all_not h e = rw (drop-cons s i 0 h, e)

  pub all_end : length s ≤ i → all p (drop i s) ≡ true
  unfolding all
  all_end h = rw (drop_of_length-le s h)

stop_le : (b : Bool) (n m : ℕ) → n ≤ m → pick b 0 (suc n) ≤ suc m
stop_le true n m h = omega arith
stop_le false n m h = omega arith

pub until_le : (p : ℕ → Bool) (s : Bytes) → until p s ≤ length s
unfolding until
until_le p [] = omega arith
until_le p (b ∷ bs) = stop_le (p b) (until p bs) (length bs) (until_le p bs)

pub all_at : (p : ℕ → Bool) (s : Bytes) (i : ℕ) → all p s ≡ true → i < length s → p (get_or s i 0) ≡ true
unfolding all
all_at p [] i h l = absurd (omega arith)
all_at p (b ∷ s) zero h l = and_left (p b) (all p s) h
all_at p (b ∷ s) (suc i) h l = all_at p s i (and_right (p b) (all p s) h) (omega arith)

pub all_take : (p : ℕ → Bool) (n : ℕ) (s : Bytes) → all p s ≡ true → all p (take n s) ≡ true
unfolding all
all_take p zero s h = refl
all_take p (suc n) [] h = refl
all_take p (suc n) (b ∷ s) h = rw (and_left (p b) (all p s) h) (all_take p n s (and_right (p b) (all p s) h))

-- the same bytes

pub same_length : (a b : Bytes) → (length a ≡ length b → ⊥) → same a b ≡ false
unfolding same
same_length [] [] h = absurd (h refl)
same_length [] (y ∷ b) h = refl
same_length (x ∷ a) [] h = refl
same_length (x ∷ a) (y ∷ b) h = rw (same_length a b (λ (e : length a ≡ length b). h (ap suc e))) (and-false (eqb x y))

module _ (a b : Bytes) (i : ℕ) (h : i < length a) (k : i < length b) where
  pub same_more : get_or a i 0 ≡ get_or b i 0 → same (drop i a) (drop i b) ≡ same (drop (i + 1) a) (drop (i + 1) b)
  unfolding same
  same_more e = rw (add-one, drop-cons a i 0 h, drop-cons b i 0 k, eq-eqb (get_or a i 0) (get_or b i 0) e)

  pub same_not : (get_or a i 0 ≡ get_or b i 0 → ⊥) → same (drop i a) (drop i b) ≡ false
  unfolding same
  same_not e = rw (drop-cons a i 0 h, drop-cons b i 0 k, ne_eqb (get_or a i 0) (get_or b i 0) e)

pub same_end : (a b : Bytes) (i : ℕ) → length a ≤ i → length b ≤ i → same (drop i a) (drop i b) ≡ true
unfolding same
same_end a b i h k = rw (drop_of_length-le a h, drop_of_length-le b k)

-- what is kept, of bytes with one more at their end and from there at an index

snoc_nil : (b : Bool) → kept_after b 0 ≡ pick b 0 1
snoc_nil true = refl
snoc_nil false = refl

snoc_cons : (b d : Bool) (k n : ℕ) → kept_after d (pick b k (suc n)) ≡ pick b (kept_after d k) (suc (suc n))
snoc_cons true d k n = refl
snoc_cons false true k n = refl
snoc_cons false false k n = refl

pub keep_snoc : (p : ℕ → Bool) (s : Bytes) (b : ℕ) → keep p (s ++ b ∷ []) ≡ pick (p b) (keep p s) (suc (length s))
unfolding keep
keep_snoc p [] b = snoc_nil (p b)
keep_snoc p (d ∷ s) b = ap (kept_after (p d)) (keep_snoc p s b) ∙ snoc_cons (p b) (p d) (keep p s) (length s)

module _ (p : ℕ → Bool) (s : Bytes) where
  keep_suc : (t : ℕ) → t < length s → keep p (take (suc t) s) ≡ pick (p (get_or s t 0)) (keep p (take t s)) (suc t)
  keep_suc t h =
      let le : t ≤ length s = omega arith in
      rw (take-suc s t 0 h, keep_snoc, length-take-le t s le)

  keep_last : (t : ℕ) → 0 < t → t ≤ length s → keep p (take t s) ≡ pick (p (get_or s (t - 1) 0)) (keep p (take (t - 1) s)) t
  keep_last t pos le =
      let e : t ≡ suc (t - 1) = omega arith in
      ap (λ (n : ℕ). keep p (take n s)) e ∙ keep_suc (t - 1) (omega arith) ∙ ap (pick (p (get_or s (t - 1) 0)) (keep p (take (t - 1) s))) (sym e)

  pub keep_on : (t : ℕ) → 0 < t → t ≤ length s → p (get_or s (t - 1) 0) ≡ true → keep p (take t s) ≡ keep p (take (t - 1) s)
  keep_on t pos le e = keep_last t pos le ∙ rw e

  pub keep_stop : (t : ℕ) → 0 < t → t ≤ length s → p (get_or s (t - 1) 0) ≡ false → keep p (take t s) ≡ t
  keep_stop t pos le e = keep_last t pos le ∙ rw e

  pub keep_none : (t : ℕ) → t ≤ 0 → keep p (take t s) ≡ 0
  unfolding keep
  keep_none t le =
      let e : t ≡ 0 = omega arith in
      rw e

kept_le : (b : Bool) (n m : ℕ) → n ≤ m → kept_after b n ≤ suc m
kept_le true zero m h = omega arith
kept_le true (suc n) m h = omega arith
kept_le false n m h = omega arith

pub keep_le : (p : ℕ → Bool) (s : Bytes) → keep p s ≤ length s
unfolding keep
keep_le p [] = omega arith
keep_le p (b ∷ bs) = kept_le (p b) (keep p bs) (length bs) (keep_le p bs)

kept_more : (p : ℕ → Bool) (b : ℕ) (s : Bytes) (n : ℕ) → keep p (take n s) ≡ n → keep p (take (kept_after (p b) n) (b ∷ s)) ≡ kept_after (p b) n
unfolding keep
kept_more p b s n h = by (p b) refl n h
  where
    by : (q : Bool) → p b ≡ q → (n : ℕ) → keep p (take n s) ≡ n → keep p (take (kept_after q n) (b ∷ s)) ≡ kept_after q n
    by true e zero h = refl
    by true e (suc n) h = rw (e, h)
    by false e n h = rw (e, h)

-- what is kept is kept again
pub keep_kept : (p : ℕ → Bool) (s : Bytes) → keep p (take (keep p s) s) ≡ keep p s
unfolding keep
keep_kept p [] = refl
keep_kept p (b ∷ s) = kept_more p b s (keep p s) (keep_kept p s)

pub unpadded_length : (t : Bytes) → length (unpadded t) ≡ keep space t
unfolding unpadded
unpadded_length t = length-take-le (keep space t) t (keep_le space t)

pub unpadded_once : (t : Bytes) → unpadded (unpadded t) ≡ unpadded t
unfolding unpadded
unpadded_once t = rw (keep_kept space t) (take-take (keep space t) (keep space t) t (omega arith))

-- spans and parts

pub trim_within : (s : Bytes) → ((trim_of s).from ≤ (trim_of s).to) × ((trim_of s).to ≤ length s)
trim_within s =
    let k : keep space s ≤ length s = keep_le space s in
    (omega (arith, until_le no_space (take (keep space s) s), length-take-le (keep space s) s k), k)

-- the same of a value that is known to be the trimmed span
pub trim_in : (s : Bytes) (r : Span) → r ≡ trim_of s → (r.from ≤ r.to) × (r.to ≤ length s)
trim_in s r e = rw e (trim_within s)

pub part_length : (a e : ℕ) (s : Bytes) → e ≤ length s → length (take (e - a) (drop a s)) ≡ e - a
part_length a e s h = simp (length-take, length-drop) (omega arith)

take_drop_take : (k a n : ℕ) (s : Bytes) → a + k ≤ n → take k (drop a (take n s)) ≡ take k (drop a s)
take_drop_take k zero n s h = take-take k n s (omega arith)
take_drop_take k (suc a) zero s h = absurd (omega arith)
take_drop_take k (suc a) (suc n) [] h = refl
take_drop_take k (suc a) (suc n) (b ∷ s) h = take_drop_take k a n s (omega arith)

-- a part of a part is a part of the whole
pub part_moved : (sp : Span) (at n : ℕ) (s : Bytes) → sp.from ≤ sp.to → sp.to ≤ n → part sp (take n (drop at s)) ≡ part (moved at sp) s
part_moved sp at n s h k =
    let e : at + sp.to - (at + sp.from) ≡ sp.to - sp.from = omega arith in
    take_drop_take (sp.to - sp.from) sp.from n (drop at s) (omega arith) ∙ rw (drop-drop sp.from at s, e)

pub trim_moved : (at n : ℕ) (s : Bytes) → at + n ≤ length s → trim (take n (drop at s)) ≡ part (moved at (trim_of (take n (drop at s)))) s
unfolding trim
trim_moved at n s h =
    let x = trim_within (take n (drop at s)) in
    let l : length (take n (drop at s)) ≡ n = length-take-le n (drop at s) (omega (arith, length-drop at s)) in
    part_moved (trim_of (take n (drop at s))) at n s x.0 (omega arith)
