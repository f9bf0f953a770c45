-- Spaces at the ends of bytes: what is trimmed, and what is blank, is exactly what the page says. Assumes nothing.
use mathlib.Core.Path.{◌≡◌, refl, ap, sym, ◌∙◌}
use mathlib.Core.Bool.{Bool, true, false, not, false≢true}
use mathlib.Core.List.{[], ◌∷◌, ◌++◌, append_assoc, append-nil}
use mathlib.Core.Logic.{◌⊎◌, inl, inr, ◌↔◌}
use Prim.Native.Nat.{ℕ, zero, suc, ◌-◌, ◌<◌}
use native.Mathlib.Omega.{arith}
use borrow.Author.Tests.{eqb-true, eqb-false, eq-eqb, ne_eqb}
use lib.Dec.{eqb}
use lib.ListN.{length, take, drop, length-append, take-append-drop}
use lib.Seq.{take-append_seam, drop-length, take-nil, drop-nil, drop_at}
use Rattle.page.specs.Bytes.{Bytes, pick, until, keep, kept_after, space, no_space, trim, unpadded}
use Rattle.page.specs.Lines.{blank}
use Rattle.page.specs.Lexical.{blanks, Begins, Ends, Trimmed, Blank}
use Rattle.page.proofs.ScanLaws.{keep_le, keep_kept, keep_snoc, unpadded_length}

-- the end

-- what is left of bytes, and their spaces
pub unpadded_blanks : (w : Bytes) → w ≡ unpadded w ++ blanks (length w - keep space w)
unfolding unpadded keep blanks
unpadded_blanks [] = refl
unpadded_blanks (b ∷ w) = by (eqb b 32) refl (keep space w) (unpadded_blanks w)
  where
    by : (d : Bool) → eqb b 32 ≡ d → (n : ℕ) → w ≡ take n w ++ blanks (length w - n) → b ∷ w ≡ take (kept_after d n) (b ∷ w) ++ blanks (suc (length w) - kept_after d n)
    by true e zero h =
        let z : suc (length w) - 0 ≡ suc (length w) = omega arith in
        let y : length w - 0 ≡ length w = omega arith in
        let x : w ≡ blanks (length w) = rw y at h in
        rw (z, eqb-true b 32 e) (ap (λ (l : Bytes). 32 ∷ l) x)
    by true e (suc n) h =
        let z : suc (length w) - suc (suc n) ≡ length w - suc n = omega arith in
        rw z (ap (λ (l : Bytes). b ∷ l) h)
    by false e n h =
        let z : suc (length w) - suc n ≡ length w - n = omega arith in
        rw z (ap (λ (l : Bytes). b ∷ l) h)

-- spaces at the end are not kept
pub keep_blanks : (t : Bytes) (n : ℕ) → keep space (t ++ blanks n) ≡ keep space t
unfolding blanks
keep_blanks t zero = ap (keep space) (append-nil t)
keep_blanks t (suc n) = ap (keep space) (sym (append_assoc t (32 ∷ []) (blanks n))) ∙ (keep_blanks (t ++ 32 ∷ []) n ∙ keep_snoc space t 32)

-- all is kept, or the last byte is a space
kept_or_ends : (t : Bytes) → (keep space t ≡ length t) ⊎ Ends 32 t
unfolding keep
kept_or_ends [] = inl refl
kept_or_ends (b ∷ t) = by t (kept_or_ends t)
  where
    alone : (d : Bool) → eqb b 32 ≡ d → (kept_after d 0 ≡ 1) ⊎ Ends 32 (b ∷ [])
    alone true e = inr ([], rw (eqb-true b 32 e))
    alone false e = inl refl

    more : (d : Bool) (n : ℕ) → kept_after d (suc n) ≡ suc (suc n)
    more true n = refl
    more false n = refl

    by : (t : Bytes) → (keep space t ≡ length t) ⊎ Ends 32 t → (keep space (b ∷ t) ≡ suc (length t)) ⊎ Ends 32 (b ∷ t)
    by [] h = alone (eqb b 32) refl
    by (c ∷ t) (inl e) = inl (rw e (more (eqb b 32) (length t)))
    by (c ∷ t) (inr x) = inr (b ∷ x.0, ap (λ (l : Bytes). b ∷ l) x.1)

pub bare_kept : (t : Bytes) → ¬ Ends 32 t → keep space t ≡ length t
bare_kept t n = by (kept_or_ends t)
  where
    by : (keep space t ≡ length t) ⊎ Ends 32 t → keep space t ≡ length t
    by (inl e) = e
    by (inr x) = absurd (n x)

pub kept_bare : (t : Bytes) → keep space t ≡ length t → ¬ Ends 32 t
kept_bare t e x =
    let r = x.0 in
    let k : keep space t ≡ keep space r = ap (keep space) x.1 ∙ keep_snoc space r 32 in
    omega (arith, keep_le space r, ap length x.1, length-append r (32 ∷ []))

-- the front

-- the spaces in front of bytes, and the others
led_blanks : (w : Bytes) → w ≡ blanks (until no_space w) ++ drop (until no_space w) w
unfolding until blanks
led_blanks [] = refl
led_blanks (b ∷ w) = by (eqb b 32) refl (led_blanks w)
  where
    by : (d : Bool) → eqb b 32 ≡ d → w ≡ blanks (until no_space w) ++ drop (until no_space w) w →
        b ∷ w ≡ blanks (pick (not d) 0 (suc (until no_space w))) ++ drop (pick (not d) 0 (suc (until no_space w))) (b ∷ w)
    by true e h = rw (eqb-true b 32 e) (ap (λ (l : Bytes). 32 ∷ l) h)
    by false e h = refl

led_bare : (w : Bytes) → ¬ Begins 32 (drop (until no_space w) w)
unfolding until
led_bare [] x = let e = x.1 in false≢true (cc)
led_bare (b ∷ w) x = by (eqb b 32) refl (led_bare w) x
  where
    by : (d : Bool) → eqb b 32 ≡ d → ¬ Begins 32 (drop (until no_space w) w) → ¬ Begins 32 (drop (pick (not d) 0 (suc (until no_space w))) (b ∷ w))
    by true e n x = n x
    by false e n x = let q = x.1 in eqb-false b 32 e (cc)

until_blanks : (n : ℕ) (t : Bytes) → ¬ Begins 32 t → until no_space (blanks n ++ t) ≡ n
unfolding until blanks
until_blanks zero [] h = refl
until_blanks zero (b ∷ t) h = rw (ne_eqb b 32 (λ (e : b ≡ 32). h (t, rw e)))
until_blanks (suc n) t h = ap suc (until_blanks n t h)

blanks_length : (n : ℕ) → length (blanks n) ≡ n
unfolding blanks
blanks_length zero = refl
blanks_length (suc n) = ap suc (blanks_length n)

-- spaces in front are kept, if anything behind them is
keep_led : (n : ℕ) (t : Bytes) → 0 < length t → keep space t ≡ length t → keep space (blanks n ++ t) ≡ length (blanks n ++ t)
unfolding keep blanks
keep_led zero t l h = h
keep_led (suc n) t l h = by (length (blanks n ++ t)) (keep_led n t l h) (omega (arith, length-append (blanks n) t))
  where
    by : (m : ℕ) → keep space (blanks n ++ t) ≡ m → 0 < m → kept_after true (keep space (blanks n ++ t)) ≡ suc m
    by zero e k = absurd (omega arith)
    by (suc m) e k = rw e

-- both

take_drop : (k a : ℕ) (w : Bytes) → take (k - a) (drop a w) ≡ drop a (take k w)
take_drop k zero w = let z : k - 0 ≡ k = omega arith in rw z
take_drop zero (suc a) w = let z : 0 - suc a ≡ 0 = omega arith in rw z
take_drop (suc k) (suc a) [] = take-nil (suc k - suc a)
take_drop (suc k) (suc a) (b ∷ w) = let z : suc k - suc a ≡ k - a = omega arith in rw z (take_drop k a w)

trim_led : (w : Bytes) → trim w ≡ drop (until no_space (unpadded w)) (unpadded w)
unfolding trim unpadded
trim_led w = take_drop (keep space w) (until no_space (take (keep space w) w)) w

-- an end of bytes ends as they do
drop_ends : (b n : ℕ) (w : Bytes) → Ends b (drop n w) → Ends b w
drop_ends b n w x = (take n w ++ x.0, sym (take-append-drop n w) ∙ ap (λ (l : Bytes). take n w ++ l) x.1 ∙ sym (append_assoc (take n w) x.0 (b ∷ [])))

trimmed_of : (w : Bytes) → Trimmed w (trim w)
unfolding unpadded
trimmed_of w =
    let u = unpadded w in
    let n = until no_space u in
    let s = blanks (length w - keep space w) in
    let k : keep space u ≡ length u = keep_kept space w ∙ sym (unpadded_length w) in
    rw (trim_led w)
    (
    record {
      before = n;
      after = length w - keep space w;
      whole = unpadded_blanks w ∙ ap (λ (l : Bytes). l ++ s) (led_blanks u) ∙ append_assoc (blanks n) (drop n u) s;
      front = led_bare u;
      back = λ x. kept_bare u k (drop_ends 32 n u x);
    }
    )

-- what ends in no space is what is left when spaces follow it
unpadded_end : (u : Bytes) (m : ℕ) → keep space u ≡ length u → unpadded (u ++ blanks m) ≡ u
unfolding unpadded
unpadded_end u m h = rw (keep_blanks u m, h) (take-append_seam u (blanks m))

unpadded_none : (n m : ℕ) → unpadded (blanks n ++ blanks m) ≡ []
unfolding unpadded keep
unpadded_none n m = rw (keep_blanks (blanks n) m, keep_blanks [] n)

trimmed_back : (w t : Bytes) → Trimmed w t → trim w ≡ t
trimmed_back w [] x = trim_led w ∙ rw (x.whole, unpadded_none x.before x.after) (drop-nil (until no_space []))
trimmed_back w (b ∷ r) x =
    let t : Bytes = b ∷ r in
    let n = x.before in
    let k : keep space (blanks n ++ t) ≡ length (blanks n ++ t) = keep_led n t (omega arith) (bare_kept t x.back) in
    let u : unpadded w ≡ blanks n ++ t = ap unpadded (x.whole ∙ sym (append_assoc (blanks n) t (blanks x.after))) ∙ unpadded_end (blanks n ++ t) x.after k in
    trim_led w ∙ rw (u, until_blanks n t x.front) (drop_at (blanks n) t n (blanks_length n))

-- "spaces trimmed"
pub trim_exactly : (w t : Bytes) → trim w ≡ t ↔ Trimmed w t
trim_exactly w t = (λ e. rw e at (trimmed_of w), trimmed_back w t)

-- "A line of spaces only, or of nothing, is blank"
pub blank_exactly : (c : Bytes) → blank c ≡ true ↔ Blank c
unfolding blank
blank_exactly c = (into, back)
  where
    into : eqb (until no_space c) (length c) ≡ true → Blank c
    into h =
        let e = eqb-true (until no_space c) (length c) h in
        (until no_space c, led_blanks c ∙ rw (e, drop-length c, append-nil))

    back : Blank c → eqb (until no_space c) (length c) ≡ true
    back x =
        let n = x.0 in
        let e : until no_space (blanks n ++ []) ≡ n = until_blanks n [] (λ y. let q = y.1 in false≢true (cc)) in
        eq-eqb (until no_space c) (length c) (rw (x.1, ← append-nil (blanks n), e, append-nil (blanks n), blanks_length n))
