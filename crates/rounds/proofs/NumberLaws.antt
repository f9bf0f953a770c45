-- Lines by their numbers: where each begins, and when its key is new. Assumes nothing.
use mathlib.Core.Path.{◌≡◌, refl, ap, sym, ◌∙◌}
use mathlib.Core.Bool.{Bool, true, false}
use mathlib.Core.List.{List, [], ◌∷◌, ◌++◌}
use Prim.Native.Nat.{ℕ, ◌+◌, ◌-◌, ◌<◌, ◌≤◌}
use native.Mathlib.Numerals.{add-one}
use native.Mathlib.Omega.{arith}
use lib.ListN.{length, get_or, take, drop, length-drop}
use lib.Seq.{length-take-le, get_or-take, take-suc}
use Rattle.page.specs.Bytes.{Bytes, pick, same}
use Rattle.page.specs.Lines.{lines}
use Rattle.page.specs.File.{any}
use Rattle.page.proofs.LineLaws.{line_size, line_in, cut_at, lines_end}
use Rattle.page.proofs.FieldLaws.{next_left, head_left}
use Rattle.page.proofs.KeyLaws.{any_no}
use Rattle.page.proofs.TestLaws.{same_true}
use Rattle.choices.specs.declared.Choice.{Choice}
use Rattle.scans.specs.Scan.{is_record, line_key, bears, again, Starts}
use Rattle.rounds.specs.Rounds.{again_at}
use Rattle.scans.proofs.ScanLaws.{starts_first, starts_next, passed_lines}

-- line n begins at a place, or the lines end there
pub record Stands (w : Bytes) (at n : ℕ) : Type 0 where
  pub starts : Starts w at
  pub before : lines (take at w) ≡ take n (lines w)
  pub after : lines (drop at w) ≡ drop n (lines w)
  pub low : n ≤ at

pub stands_first : (w : Bytes) → Stands w 0 0
unfolding lines
stands_first w = record { starts = starts_first w; before = refl; after = refl; low = omega arith }

module _ (w : Bytes) (at n e : ℕ) (z : Stands w at n) (h : at < length w) (q : e ≡ at + line_size (drop at w)) where
  left : drop n (lines w) ≡ take (e - at) (drop at w) ∷ lines (drop e w)
  left = sym z.after ∙ cut_at w at e h q

  pub stands_in : n < length (lines w)
  stands_in = omega (arith, ap length left, length-drop n (lines w))

  pub stands_line : get_or (lines w) n [] ≡ take (e - at) (drop at w)
  stands_line = head_left (lines w) n _ _ left

  taken : take (n + 1) (lines w) ≡ lines (take at w) ++ take (e - at) (drop at w) ∷ []
  taken = rw (add-one n) (take-suc (lines w) n [] stands_in ∙ rw (stands_line, z.before))

  pub stands_next : Stands w e (n + 1)
  stands_next =
      record {
        starts = starts_next w at e h q z.starts;
        before = passed_lines w at e h q z.starts ∙ sym taken;
        after = sym (next_left (lines w) n _ _ left);
        low = omega (arith, line_in w at e h q, z.low);
      }

  -- what is said of the line at the place is said of line n
  pub again_here : (c : Choice) (b : Bool) → b ≡ again c (lines (take at w)) (take (e - at) (drop at w)) → again_at c (lines w) n ≡ b
  unfolding again_at
  again_here c b x = rw (stands_line, sym z.before) (sym x)

pub stands_end : (w : Bytes) (at n : ℕ) → Stands w at n → length w ≤ at → length (lines w) ≤ n
stands_end w at n z h = omega (arith, ap length (sym z.after ∙ lines_end w at h), length-drop n (lines w))

module _ (q : Choice) (ls : List Bytes) (i : ℕ) where
  pub again_other : is_record (get_or ls i []) ≡ false → again_at q ls i ≡ false
  unfolding again_at again
  again_other r = rw r

  -- a key that no record before it has
  pub again_new : i < length ls → ((j : ℕ) → j < i → is_record (get_or ls j []) ≡ true → line_key q (get_or ls j []) ≡ line_key q (get_or ls i []) → ⊥) → again_at q ls i ≡ false
  unfolding again_at again bears
  again_new h f = by (is_record (get_or ls i []))
    where
      one : (j : ℕ) → j < i → (r b : Bool) → is_record (get_or ls j []) ≡ r → same (line_key q (get_or ls j [])) (line_key q (get_or ls i [])) ≡ b
          → pick r (same (line_key q (get_or ls j [])) (line_key q (get_or ls i []))) false ≡ false
      one j l false b x y = refl
      one j l true true x y = absurd (f j l x (same_true (line_key q (get_or ls j [])) (line_key q (get_or ls i [])) y))
      one j l true false x y = y

      none : any (bears q (line_key q (get_or ls i []))) (take i ls) ≡ false
      none =
          any_no (bears q (line_key q (get_or ls i []))) [] (take i ls) (λ j a.
          let b : j < i = omega (arith, length-take-le i ls (omega arith)) in
          rw (get_or-take i ls j [] b) (one j b (is_record (get_or ls j [])) (same (line_key q (get_or ls j [])) (line_key q (get_or ls i []))) refl refl))

      by : (r : Bool) → pick r (any (bears q (line_key q (get_or ls i []))) (take i ls)) false ≡ false
      by true = none
      by false = refl
