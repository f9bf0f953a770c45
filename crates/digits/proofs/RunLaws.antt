-- The field at a place; a number field that is a run of digits, with at most one space before it. Assumes nothing.
use mathlib.Core.Path.{◌≡◌, refl, ap, sym, ◌∙◌}
use mathlib.Core.Bool.{Bool, true, false}
use mathlib.Core.List.{[], ◌∷◌, ◌++◌}
use Prim.Native.Nat.{ℕ, suc, ◌+◌, ◌-◌, ◌*◌, ◌^◌, ◌<◌, ◌≤◌}
use native.Mathlib.Omega.{arith}
use borrow.Author.Tests.{ne_eqb, eqb-true, le-leb, ltb-true, ltb-false}
use lib.Dec.{eqb, ltb, lit<}
use lib.ListN.{length, take, drop, get_or, take-append-drop, length-drop}
use lib.Seq.{take-suc, drop-cons, drop-drop, get_or-drop, length-take-le, take-length, take_at}
use Rattle.page.specs.Bytes.{Bytes, pick, all, until, keep, space, trim}
use Rattle.page.specs.Lines.{allowed}
use Rattle.page.specs.Fields.{digit, value, digits, number_of, parts_here, inside_after, field_size}
use Rattle.page.specs.declared.Number.TheVariants as N
use Rattle.page.proofs.TestLaws.{false_true, and_left, and_right}
use Rattle.page.proofs.FieldLaws.{from, from_more, field_hit, field_more}
use Rattle.page.proofs.NumberLaws.{digit_range, digits_short, ten_more}
use Rattle.digits.specs.Runs.{field_from, Run}

pub from_next : (w : Bytes) (at e : ℕ) → at ≤ length w → e ≡ at + field_size false (drop at w) → from w at ≡ field_from w at ∷ from w (e + 1)
from_next w at e h x =
    let n : e - at ≡ field_size false (drop at w) = omega arith in
    from_more w at e h x ∙ ap (λ (k : ℕ). trim (take k (drop at w)) ∷ from w (e + 1)) n

-- one digit more at the end

all_snoc : (p : ℕ → Bool) (s : Bytes) (b : ℕ) → all p s ≡ true → p b ≡ true → all p (s ++ b ∷ []) ≡ true
unfolding all
all_snoc p [] b h e = rw e
all_snoc p (a ∷ s) b h e = rw (and_left (p a) (all p s) h) (all_snoc p s b (and_right (p a) (all p s) h) e)

value_snoc : (n : ℕ) (s : Bytes) (b : ℕ) → value n (s ++ b ∷ []) ≡ value n s * 10 + (b - 48)
unfolding value
value_snoc n [] b = refl
value_snoc n (a ∷ s) b = value_snoc (n * 10 + (a - 48)) s b

pub run_none : (w : Bytes) (from : ℕ) → from ≤ length w → Run w from from 0
unfolding all value
run_none w from h =
    let z : from - from ≡ 0 = omega arith in
    record { begins = omega arith; few = omega arith; within = h; small = rw z (lit< tt); plain = rw z; worth = rw z }

module _ (w : Bytes) (from i v : ℕ) (r : Run w from i v) where
  pub run_more : i < from + 18 → i < length w → digit (get_or w i 0) ≡ true → Run w from (i + 1) (v * 10 + (get_or w i 0 - 48))
  run_more h k e =
      let d = digit_range (get_or w i 0) e in
      let g = r.begins in
      let n : i + 1 - from ≡ suc (i - from) = omega arith in
      let a : from + (i - from) ≡ i = omega arith in
      let j : i - from < length (drop from w) = omega (arith, length-drop from w) in
      let b : get_or (drop from w) (i - from) 0 ≡ get_or w i 0 = get_or-drop from w (i - from) 0 ∙ ap (λ (m : ℕ). get_or w m 0) a in
      let t : take (i + 1 - from) (drop from w) ≡ take (i - from) (drop from w) ++ get_or w i 0 ∷ [] = rw (n, take-suc (drop from w) (i - from) 0 j, b) in
      let p : 10 ^ (i - from + 1) ≡ 10 * 10 ^ (i - from) = ten_more (i - from) in
      let q : i + 1 - from ≡ i - from + 1 = omega arith in
      record {
        begins = omega arith;
        few = omega arith;
        within = omega arith;
        small = rw (q, p) (omega (arith, r.small));
        plain = rw t (all_snoc digit (take (i - from) (drop from w)) (get_or w i 0) r.plain e);
        worth = rw (t, value_snoc 0 (take (i - from) (drop from w)) (get_or w i 0), r.worth);
      }

-- digits part no fields, and are no spaces

digit_under : (b c : ℕ) → digit b ≡ true → c < 48 → eqb b c ≡ false
digit_under b c e h = let d = digit_range b e in ne_eqb b c (λ (q : b ≡ c). omega arith)

digit_over : (b c : ℕ) → digit b ≡ true → 57 < c → eqb b c ≡ false
digit_over b c e h = let d = digit_range b e in ne_eqb b c (λ (q : b ≡ c). omega arith)

size_run : (ds rest : Bytes) → all digit ds ≡ true → field_size false rest ≡ 0 → field_size false (ds ++ rest) ≡ length ds
unfolding field_size all
size_run [] rest h z = z
size_run (b ∷ ds) rest h z =
    let d = and_left (digit b) (all digit ds) h in
    rw (digit_over b 59 d (lit< tt), digit_under b 34 d (lit< tt)) (ap suc (size_run ds rest (and_right (digit b) (all digit ds) h) z))

keep_run : (ds : Bytes) → all digit ds ≡ true → keep space ds ≡ length ds
unfolding keep all
keep_run [] h = refl
keep_run (b ∷ ds) h = rw (digit_under b 32 (and_left (digit b) (all digit ds) h) (lit< tt), keep_run ds (and_right (digit b) (all digit ds) h))

trim_run : (ds : Bytes) → all digit ds ≡ true → 1 ≤ length ds → trim ds ≡ ds
unfolding trim until all
trim_run [] h some = absurd (omega arith)
trim_run (b ∷ ds) h some =
    let e : eqb b 32 ≡ false = digit_under b 32 (and_left (digit b) (all digit ds) h) (lit< tt) in
    let k : keep space (b ∷ ds) ≡ suc (length ds) = keep_run (b ∷ ds) h in
    let z : suc (length ds) - 0 ≡ suc (length ds) = omega arith in
    rw (k, e, z) (take-length (b ∷ ds))

trim_spaced : (ds : Bytes) → all digit ds ≡ true → 1 ≤ length ds → trim (32 ∷ ds) ≡ ds
unfolding trim keep until all
trim_spaced [] h some = absurd (omega arith)
trim_spaced (b ∷ ds) h some =
    let e : eqb b 32 ≡ false = digit_under b 32 (and_left (digit b) (all digit ds) h) (lit< tt) in
    let k : keep space (b ∷ ds) ≡ suc (length ds) = keep_run (b ∷ ds) h in
    let z : suc (suc (length ds)) - 1 ≡ suc (length ds) = omega arith in
    rw (k, e, z) (take-length (b ∷ ds))

number_run : (ds : Bytes) → all digit ds ≡ true → 1 ≤ length ds → length ds ≤ 18 → number_of ds ≡ N.Plus (value 0 ds)
unfolding number_of all
number_run [] h some few = absurd (omega arith)
number_run (b ∷ ds) h some few =
    rw (digit_under b 45 (and_left (digit b) (all digit ds) h) (lit< tt), digits_short (b ∷ ds) some few ∙ h)

module _ (ds rest : Bytes) (h : all digit ds ≡ true) (some : 1 ≤ length ds) (few : length ds ≤ 18) (z : field_size false rest ≡ 0) where
  here_number : number_of (trim (take (field_size false (ds ++ rest)) (ds ++ rest))) ≡ N.Plus (value 0 ds)
  here_number = rw (size_run ds rest h z, take_at ds rest (length ds) refl, trim_run ds h some) (number_run ds h some few)

  next_size : field_size false (32 ∷ (ds ++ rest)) ≡ suc (length ds)
  unfolding field_size
  next_size = ap suc (size_run ds rest h z)

  next_number : number_of (trim (take (field_size false (32 ∷ (ds ++ rest))) (32 ∷ (ds ++ rest)))) ≡ N.Plus (value 0 ds)
  next_number = rw (next_size, take_at ds rest (length ds) refl, trim_spaced ds h some) (number_run ds h some few)

-- the field at a place where at most one space stands before a run that ends the field
module _ (w : Bytes) (at from to v : ℕ) (h : at < length w) (f : from ≡ pick (space (get_or w at 0)) (at + 1) at) (r : Run w from to v)
    (some : from < to) (z : field_size false (drop to w) ≡ 0) where
  abbrev ds : Bytes
  ds = take (to - from) (drop from w)

  cut : drop from w ≡ ds ++ drop to w
  cut =
      let n : from + (to - from) ≡ to = omega arith in
      sym (take-append-drop (to - from) (drop from w)) ∙ ap (λ (l : Bytes). ds ++ l) (drop-drop (to - from) from w ∙ ap (λ (m : ℕ). drop m w) n)

  size : length ds ≡ to - from
  size = length-take-le (to - from) (drop from w) (omega (arith, length-drop from w, r.within))

  pub run_field : (to ≡ at + field_size false (drop at w)) × (N.Plus v ≡ number_of (field_from w at))
  run_field = by (space (get_or w at 0)) refl
    where
      long : 1 ≤ length ds
      long = omega (arith, size)

      short : length ds ≤ 18
      short = omega (arith, size, r.few)

      by : (b : Bool) → space (get_or w at 0) ≡ b
          → (to ≡ at + field_size false (drop at w)) × (N.Plus v ≡ number_of (field_from w at))
      by true e =
          let q : from ≡ at + 1 = f ∙ rw e in
          let m : suc at ≡ from = omega arith in
          let s : drop at w ≡ 32 ∷ (ds ++ drop to w) =
          drop-cons w at 0 h ∙ ap (λ (x : ℕ). x ∷ drop (suc at) w) (eqb-true (get_or w at 0) 32 e) ∙ ap (λ (x : ℕ). 32 ∷ drop x w) m ∙ ap (λ (l : Bytes). 32 ∷ l) cut in (
            omega (arith, ap (field_size false) s ∙ next_size ds (drop to w) r.plain long short z, size),
            ap N.Plus (sym r.worth) ∙ sym (next_number ds (drop to w) r.plain long short z) ∙ ap (λ (l : Bytes). number_of (trim (take (field_size false l) l))) (sym s),
          )
      by false e =
          let q : from ≡ at = f ∙ rw e in
          let s : drop at w ≡ ds ++ drop to w = ap (λ (x : ℕ). drop x w) (sym q) ∙ cut in (
            omega (arith, ap (field_size false) s ∙ size_run ds (drop to w) r.plain z, size),
            ap N.Plus (sym r.worth) ∙ sym (here_number ds (drop to w) r.plain long short z) ∙ ap (λ (l : Bytes). number_of (trim (take (field_size false l) l))) (sym s),
          )

-- a field that does not end where the bytes do ends at a `;`

field_stop : (inside : Bool) (w : Bytes) → field_size inside w < length w → get_or w (field_size inside w) 0 ≡ 59
unfolding field_size
field_stop inside [] h = absurd (omega arith)
field_stop inside (b ∷ w) h = by (parts_here inside b) refl h (field_stop (inside_after inside b) w)
  where
    parts : (x : Bool) → parts_here x b ≡ true → b ≡ 59
    parts true e = false_true e
    parts false e = eqb-true b 59 e

    by : (x : Bool) → parts_here inside b ≡ x → pick x 0 (suc (field_size (inside_after inside b) w)) < suc (length w)
        → (field_size (inside_after inside b) w < length w → get_or w (field_size (inside_after inside b) w) 0 ≡ 59)
        → get_or (b ∷ w) (pick x 0 (suc (field_size (inside_after inside b) w))) 0 ≡ 59
    by true e l f = parts inside e
    by false e l f = f (omega arith)

pub stop_at : (w : Bytes) (at e : ℕ) → e ≡ at + field_size false (drop at w) → e < length w → get_or w e 0 ≡ 59
stop_at w at e q h =
    let n : field_size false (drop at w) < length (drop at w) = omega (arith, length-drop at w) in
    ap (λ (k : ℕ). get_or w k 0) q ∙ sym (get_or-drop at w (field_size false (drop at w)) 0) ∙ field_stop false (drop at w) n

-- whether a field that has come to a place ends there
pub ends_here : (w : Bytes) (i : ℕ) → i < length w → eqb (field_size false (drop i w)) 0 ≡ eqb (get_or w i 0) 59
ends_here w i h = by (eqb (get_or w i 0) 59) refl
  where
    by : (b : Bool) → eqb (get_or w i 0) 59 ≡ b → eqb (field_size false (drop i w)) 0 ≡ eqb (get_or w i 0) 59
    by true e = rw (field_hit false w i h e, e)
    by false e =
        let n = field_more false w i (inside_after false (get_or w i 0)) h e refl in
        ne_eqb (field_size false (drop i w)) 0 (omega arith) ∙ sym e

pub space_in : (w : Bytes) (at : ℕ) → at < length w → pick (space (get_or w at 0)) (at + 1) at ≤ length w
space_in w at h = by (space (get_or w at 0))
  where
    by : (b : Bool) → pick b (at + 1) at ≤ length w
    by true = omega arith
    by false = omega arith

pub number_none : (s : Bytes) → number_of (trim (take 0 s)) ≡ N.Nothing
unfolding number_of trim keep until digits
number_none s = refl

number_space : (s : Bytes) → number_of (trim (take 1 (32 ∷ s))) ≡ N.Nothing
unfolding number_of trim keep until digits
number_space s = refl

pub space_more : (s : Bytes) → field_size false (32 ∷ s) ≡ suc (field_size false s)
unfolding field_size
space_more s = refl

-- a field that ends before its first digit
module _ (w : Bytes) (at from : ℕ) (h : at < length w) (f : from ≡ pick (space (get_or w at 0)) (at + 1) at) (z : field_size false (drop from w) ≡ 0) where
  blank_field : (from ≡ at + field_size false (drop at w)) × (N.Nothing ≡ number_of (field_from w at))
  blank_field = by (space (get_or w at 0)) refl
    where
      by : (b : Bool) → space (get_or w at 0) ≡ b → (from ≡ at + field_size false (drop at w)) × (N.Nothing ≡ number_of (field_from w at))
      by true e =
          let q : from ≡ at + 1 = f ∙ rw e in
          let m : suc at ≡ from = omega arith in
          let s : drop at w ≡ 32 ∷ drop from w =
          drop-cons w at 0 h ∙ ap (λ (x : ℕ). x ∷ drop (suc at) w) (eqb-true (get_or w at 0) 32 e) ∙ ap (λ (x : ℕ). 32 ∷ drop x w) m in
          let n : field_size false (32 ∷ drop from w) ≡ 1 = space_more (drop from w) ∙ ap suc z in
          (omega (arith, ap (field_size false) s ∙ n), sym (rw (s, n) (number_space (drop from w))))
      by false e =
          let q : from ≡ at = f ∙ rw e in
          let n : field_size false (drop at w) ≡ 0 = ap (λ (x : ℕ). field_size false (drop x w)) (sym q) ∙ z in
          (omega (arith, n), sym (rw n (number_none (drop at w))))

-- the field at a place where at most one space stands before digits, or nothing, and then its end; its bytes are allowed everywhere
module _ (w : Bytes) (at from to v : ℕ) (h : at < length w) (f : from ≡ pick (space (get_or w at 0)) (at + 1) at) (r : Run w from to v) where
  pub run_told : field_size false (drop to w) ≡ 0
      → (to ≡ at + field_size false (drop at w)) × (pick (ltb from to) (N.Plus v) N.Nothing ≡ number_of (field_from w at))
  run_told z = by (ltb from to) refl
    where
      by : (b : Bool) → ltb from to ≡ b
          → (to ≡ at + field_size false (drop at w)) × (pick b (N.Plus v) N.Nothing ≡ number_of (field_from w at))
      by true e = run_field w at from to v h f r (ltb-true from to e) z
      by false e =
          let g = r.begins in
          let q : to ≡ from = omega (arith, ltb-false from to e) in
          rw q (blank_field w at from h f (rw q at z))

  pub run_clean : (wide : Bool) → all (allowed wide) (take (to - at) (drop at w)) ≡ true
  unfolding all allowed
  run_clean wide = by (space (get_or w at 0)) refl
    where
      digit_clean : (b : ℕ) → digit b ≡ true → allowed wide b ≡ true
      digit_clean b e = let d = digit_range b e in rw (le-leb 32 b (omega arith), le-leb b 126 (omega arith))

      digits_clean : (ds : Bytes) → all digit ds ≡ true → all (allowed wide) ds ≡ true
      digits_clean [] e = refl
      digits_clean (b ∷ ds) e = rw (digit_clean b (and_left (digit b) (all digit ds) e)) (digits_clean ds (and_right (digit b) (all digit ds) e))

      by : (b : Bool) → space (get_or w at 0) ≡ b → all (allowed wide) (take (to - at) (drop at w)) ≡ true
      by true e =
          let g = r.begins in
          let q : from ≡ at + 1 = f ∙ rw e in
          let m : suc at ≡ from = omega arith in
          let n : to - at ≡ suc (to - from) = omega arith in
          rw (n, drop-cons w at 0 h, eqb-true (get_or w at 0) 32 e, m) (digits_clean (take (to - from) (drop from w)) r.plain)
      by false e =
          let q : from ≡ at = f ∙ rw e in
          rw (sym q) (digits_clean (take (to - from) (drop from w)) r.plain)
