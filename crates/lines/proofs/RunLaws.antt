-- Bytes that are tested several at a time. Assumes nothing.
use mathlib.Core.Path.{◌≡◌, refl, ap, sym, ◌∙◌}
use mathlib.Core.Bool.{Bool, true, false, ◌&&◌, and-true}
use mathlib.Core.List.{[], ◌∷◌, ◌++◌}
use Prim.Native.Nat.{ℕ, zero, suc, ◌+◌, ◌-◌, ◌≤◌, min}
use native.Mathlib.Omega.{arith}
use borrow.Author.Tests.{not-true, eqb-true, eqb-false}
use lib.Dec.{eqb}
use lib.ListN.{length, take, drop, get_or, length-drop}
use lib.Seq.{take-add, take_all, drop-cons, drop-drop}
use Rattle.page.specs.Bytes.{Bytes, pick, until, all}
use Rattle.page.specs.Lines.{lines}
use Rattle.page.proofs.TestLaws.{and_left, and_right}
use Rattle.page.proofs.LineLaws.{line_size, size_more, size_hit}
use Rattle.lines.specs.Lines.{lf, no_lf, Onward}

in_four : (a b c d : Bool) → a && (b && (c && d)) ≡ ((a && b) && c) && d
in_four true true true d = refl
in_four true true false d = refl
in_four true false c d = refl
in_four false b c d = refl

module _ (p : ℕ → Bool) where
  pub all_append : (a b : Bytes) → all p (a ++ b) ≡ all p a && all p b
  unfolding all
  all_append [] b = refl
  all_append (x ∷ a) b = by (p x) (all p a) (all p b) (all_append a b)
    where
      by : (u v w : Bool) → all p (a ++ b) ≡ v && w → u && all p (a ++ b) ≡ (u && v) && w
      by true v w e = e
      by false v w e = refl

  pub all_run : (n m : ℕ) (s : Bytes) → all p (take (n + m) s) ≡ all p (take n s) && all p (take m (drop n s))
  all_run n m s = ap (all p) (take-add n m s) ∙ all_append (take n s) (take m (drop n s))

  pub all_four : (s : Bytes) (i : ℕ) → i + 4 ≤ length s
      → all p (take 4 (drop i s)) ≡ ((p (get_or s i 0) && p (get_or s (i + 1) 0)) && p (get_or s (i + 2) 0)) && p (get_or s (i + 3) 0)
  unfolding all
  all_four s i h =
      let a : i + 1 ≡ suc i = omega arith in
      let b : i + 2 ≡ suc (suc i) = omega arith in
      let c : i + 3 ≡ suc (suc (suc i)) = omega arith in
      rw (
        a,
        b,
        c,
        drop-cons s i 0 (omega arith),
        drop-cons s (suc i) 0 (omega arith),
        drop-cons s (suc (suc i)) 0 (omega arith),
        drop-cons s (suc (suc (suc i))) 0 (omega arith),
        and-true,
      )
      (in_four (p (get_or s i 0)) (p (get_or s (suc i) 0)) (p (get_or s (suc (suc i)) 0)) (p (get_or s (suc (suc (suc i))) 0)))

  four_more : (s : Bytes) (i m : ℕ) → all p (take (4 + m) (drop i s)) ≡ all p (take 4 (drop i s)) && all p (take m (drop (i + 4) s))
  four_more s i m = all_run 4 m (drop i s) ∙ ap (λ (w : Bytes). all p (take 4 (drop i s)) && all p (take m w)) (drop-drop 4 i s)

  pub all_block : (s : Bytes) (i : ℕ)
      → all p (take 16 (drop i s))
      ≡ ((all p (take 4 (drop i s)) && all p (take 4 (drop (i + 4) s))) && all p (take 4 (drop (i + 8) s))) && all p (take 4 (drop (i + 12) s))
  all_block s i =
      let a : i + 4 + 4 ≡ i + 8 = omega arith in
      let b : i + 8 + 4 ≡ i + 12 = omega arith in
      let e = four_more s i 12 in
      let f : all p (take 12 (drop (i + 4) s)) ≡ all p (take 4 (drop (i + 4) s)) && all p (take 8 (drop (i + 8) s)) = rw a at (four_more s (i + 4) 8) in
      let g : all p (take 8 (drop (i + 8) s)) ≡ all p (take 4 (drop (i + 8) s)) && all p (take 4 (drop (i + 12) s)) = rw b at (four_more s (i + 8) 4) in
      e ∙ rw (f, g)
      (in_four (all p (take 4 (drop i s))) (all p (take 4 (drop (i + 4) s))) (all p (take 4 (drop (i + 8) s))) (all p (take 4 (drop (i + 12) s))))

  -- bytes that overlap those before them
  pub all_cover : (s : Bytes) (at i n : ℕ) → at ≤ i → all p (take i s) ≡ true → all p (take n (drop at s)) ≡ true → all p (take (at + n) s) ≡ true
  all_cover s at i n h e f =
      let q : at + (i - at) ≡ i = omega arith in
      let g : all p (take (at + (i - at)) s) ≡ true = rw q e in
      let k : all p (take at s) ≡ true = and_left _ _ (sym (all_run at (i - at) s) ∙ g) in
      all_run at n s ∙ rw (k, f)

  pub all_whole : (s : Bytes) (i : ℕ) → length s ≤ i → all p (take i s) ≡ true → all p s ≡ true
  all_whole s i h e = rw (take_all i s h) at e

  pub all_part : (s : Bytes) (at n : ℕ) → all p (take n (drop at s)) ≡ false → all p s ≡ false
  unfolding all
  all_part s at n e = go (all p s) refl
    where
      split : (k : ℕ) (w : Bytes) → all p w ≡ true → (all p (take k w) ≡ true) × (all p (drop k w) ≡ true)
      split zero w h = (refl, h)
      split (suc k) [] h = (refl, refl)
      split (suc k) (x ∷ w) h =
          let i = split k w (and_right (p x) (all p w) h) in
          (rw (and_left (p x) (all p w) h) i.0, i.1)

      go : (b : Bool) → all p s ≡ b → all p s ≡ false
      go true h = sym ((split n (drop at s) (split at s h).1).0 ∙ sym h) ∙ e
      go false h = h

-- a line goes on past bytes of which none is an LF

run_on : (n : ℕ) (w : Bytes) → n ≤ length w → all no_lf (take n w) ≡ true → line_size w ≡ n + line_size (drop n w)
unfolding all
run_on zero w h e = omega arith
run_on (suc n) [] h e = absurd (omega arith)
run_on (suc n) (b ∷ w) h e =
    let f : no_lf b ≡ true = and_left (no_lf b) (all no_lf (take n w)) e in
    let k : line_size (b ∷ w) ≡ suc (line_size w) = size_more (b ∷ w) 0 (omega arith) (eqb-false b 10 (not-true (eqb b 10) f)) in
    let i = run_on n w (omega arith) (and_right (no_lf b) (all no_lf (take n w)) e) in
    omega arith

pub onward_from : (s : Bytes) (at : ℕ) → at ≤ length s → Onward s at at
onward_from s at h = record { within = h; size = refl }

pub onward_more : (s : Bytes) (at i n : ℕ) → Onward s at i → i + n ≤ length s → all no_lf (take n (drop i s)) ≡ true → Onward s at (i + n)
onward_more s at i n o h e =
    let l : n ≤ length (drop i s) = omega (arith, length-drop i s) in
    let r : line_size (drop i s) ≡ n + line_size (drop (i + n) s) = run_on n (drop i s) l e ∙ ap (λ (w : Bytes). n + line_size w) (drop-drop n i s) in
    record { within = h; size = o.size ∙ omega arith }

-- to after its first LF

size_until : (w : Bytes) → line_size w ≡ min (length w) (until lf w + 1)
unfolding line_size lines until
size_until [] = refl
size_until (b ∷ w) = by (lf b) refl (size_until w)
  where
    by : (q : Bool) → lf b ≡ q → line_size w ≡ min (length w) (until lf w + 1)
        → line_size (b ∷ w) ≡ min (suc (length w)) (pick q 0 (suc (until lf w)) + 1)
    by true e h = size_hit (b ∷ w) 0 (omega arith) (eqb-true b 10 e) ∙ omega arith
    by false e h = size_more (b ∷ w) 0 (omega arith) (eqb-false b 10 e) ∙ omega (arith, h)

pub until_size : (s : Bytes) (at from n : ℕ) → Onward s at from → n ≡ until lf (take (length s - from) (drop from s))
    → min (length s) (from + n + 1) ≡ at + line_size (drop at s)
until_size s at from n o e =
    let long = length-drop from s in
    let w = take_all (length s - from) (drop from s) (omega (arith, long)) in
    omega (arith, o.within, o.size, size_until (drop from s), long, rw w at e)
