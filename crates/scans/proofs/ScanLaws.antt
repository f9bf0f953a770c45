-- A loop over whole lines: the lines passed, those left, and the first at fault. Assumes nothing.
use mathlib.Core.Path.{◌≡◌, refl, ap, sym, ◌∙◌}
use mathlib.Core.Bool.{Bool, true, false, ◌||◌}
use mathlib.Core.List.{List, [], ◌∷◌, ◌++◌, append-nil}
use Prim.Native.Nat.{ℕ, zero, suc, ◌+◌, ◌-◌, ◌<◌, ◌≤◌}
use native.Mathlib.Numerals.{add-one}
use native.Mathlib.Omega.{arith}
use borrow.Author.Tests.{eq-eqb}
use lib.Dec.{eqb}
use lib.ListN.{length, get_or, take, drop, take-append-drop}
use lib.Seq.{length-take-le, append_snoc, take-suc}
use lib.Pointwise.{pointwise}
use Rattle.std.specs.Prelude.{Option, None, Some, MatchOption}
use Rattle.std.specs.Option.{option_eq}
use Rattle.page.specs.Bytes.{Bytes}
use Rattle.page.specs.Lines.{lines, joined, content, command, rest, Rec}
use Rattle.page.specs.Fields.{fields}
use Rattle.page.specs.File.{any}
use Rattle.page.proofs.ScanLaws.{part_length}
use Rattle.page.proofs.LineLaws.{line_size, line_in, cut_at, lines_end, joined_lines, joined_length, run_lines, ends, lines_append}
use Rattle.page.proofs.PartLaws.{part_rest}
use Rattle.page.proofs.KeyLaws.{any_append}
use Rattle.choices.specs.declared.Choice.{Choice}
use Rattle.keys.specs.Numbers.{gathered}
use Rattle.keys.specs.declared.key.Key.{Key}
use Rattle.keys.proofs.DeriveLaws.{same_pointwise}
use Rattle.scans.specs.Scan.{is_record, line_key, bears, again, Starts, first_line, some}
use Rattle.page.proofs.TestLaws.{or_false}

pub starts_first : (w : Bytes) → Starts w 0
unfolding lines
starts_first w = record { within = omega arith; split = refl }

-- after a line's end another begins
pub starts_after : (w : Bytes) (at : ℕ) → (at ≡ 0 → ⊥) → at ≤ length w → get_or w (at - 1) 0 ≡ 10 → Starts w at
starts_after w zero n h e = absurd (n refl)
starts_after w (suc k) n h e =
    let o : k ≡ suc k - 1 = omega arith in
    let b : get_or w k 0 ≡ 10 = ap (λ (i : ℕ). get_or w i 0) o ∙ e in
    let t : take (suc k) w ≡ take k w ++ 10 ∷ [] = take-suc w k 0 (omega arith) ∙ ap (λ (x : ℕ). take k w ++ x ∷ []) b in
    record { within = h; split = ap lines (sym (take-append-drop (suc k) w)) ∙ rw t (lines_append (ends (take k w)) (drop (suc k) w)) }

or_true : (b : Bool) → (b || true) ≡ true
or_true true = refl
or_true false = refl

-- a search from a place on, and then before it
module _ (w : Bytes) (at : ℕ) (z : Starts w at) (p : Bytes → Bool) (x : Bool) (e : x ≡ any p (lines (take (length w - at) (drop at w)))) where
  both : any p (lines w) ≡ (any p (lines (take at w)) || x)
  both =
      ap (any p) z.split ∙ any_append p (lines (take at w)) (lines (drop at w))
      ∙ ap (λ (b : Bool). any p (lines (take at w)) || b) (ap (λ (l : Bytes). any p (lines l)) (sym (part_rest at w)) ∙ sym e)

  pub ahead_hit : x ≡ true → true ≡ any p (lines w)
  ahead_hit t = sym (both ∙ rw t (or_true (any p (lines (take at w)))))

  pub ahead_none : x ≡ false → (y : Bool) → y ≡ any p (lines (take at w)) → y ≡ any p (lines w)
  ahead_none t y f = f ∙ sym (both ∙ rw t (or_false (any p (lines (take at w)))))

module _ (w : Bytes) (at e : ℕ) (h : at < length w) (q : e ≡ at + line_size (drop at w)) where
  abbrev l : Bytes
  l = take (e - at) (drop at w)

  pub any_hit : (p : Bytes → Bool) → p (take (e - at) (drop at w)) ≡ true → any p (lines (drop at w)) ≡ true
  unfolding any
  any_hit p b = rw (cut_at w at e h q, b)

  pub any_more : (p : Bytes → Bool) → p (take (e - at) (drop at w)) ≡ false → any p (lines (drop at w)) ≡ any p (lines (drop e w))
  unfolding any
  any_more p b = rw (cut_at w at e h q, b)

  module _ (z : Starts w at) where
    abbrev passed : List Bytes
    passed = lines (take at w) ++ l ∷ []

    whole : lines w ≡ [] ++ (passed ++ lines (drop e w))
    whole = z.split ∙ rw (cut_at w at e h q) (sym (append_snoc (lines (take at w)) l (lines (drop e w))))

    passed_length : length (joined passed) ≡ e
    unfolding joined
    passed_length =
        let i = line_in w at e h q in
        let a : length (joined (lines (take at w))) ≡ at = rw (joined_lines (take at w)) (length-take-le at w z.within) in
        let b : length (l ++ []) ≡ e - at = rw (append-nil l) (part_length at e w i.1) in
        omega (arith, joined_length (lines (take at w)) (l ∷ []))

    pub passed_lines : lines (take e w) ≡ passed
    unfolding joined
    passed_lines = rw passed_length at (run_lines w [] passed (lines (drop e w)) whole)

    pub starts_next : Starts w e
    starts_next = record { within = (line_in w at e h q).1; split = whole ∙ rw passed_lines }

    module _ (fault : List Bytes → Bytes → Bool) (n : ℕ) where
      pub line_more : fault (lines (take at w)) (take (e - at) (drop at w)) ≡ false
          → first_line fault (lines (take at w)) n (lines (drop at w)) ≡ first_line fault (lines (take e w)) (n + 1) (lines (drop e w))
      unfolding first_line
      line_more b = rw (cut_at w at e h q, b, passed_lines, add-one)

  pub line_hit : (fault : List Bytes → Bytes → Bool) (n : ℕ) → fault (lines (take at w)) (take (e - at) (drop at w)) ≡ true
      → first_line fault (lines (take at w)) n (lines (drop at w)) ≡ n + 1
  unfolding first_line
  line_hit fault n b = rw (cut_at w at e h q, b, add-one)

pub any_end : (w : Bytes) (at : ℕ) (p : Bytes → Bool) → length w ≤ at → any p (lines (drop at w)) ≡ false
unfolding any
any_end w at p h = rw (lines_end w at h)

pub line_end : (w : Bytes) (at : ℕ) (fault : List Bytes → Bytes → Bool) (b : List Bytes) (n : ℕ) → length w ≤ at → first_line fault b n (lines (drop at w)) ≡ 0
unfolding first_line
line_end w at fault b n h = rw (lines_end w at h)

-- numbers that are tested one after the other, n of them, of which i have been

module _ (p : ℕ → Bool) (i n : ℕ) (h : i < n) where
  some_left : n - i ≡ suc (n - (i + 1))
  some_left = omega arith

  pub some_hit : p i ≡ true → some p i (n - i) ≡ true
  unfolding some
  some_hit b = rw (some_left, b)

  pub some_more : p i ≡ false → some p i (n - i) ≡ some p (i + 1) (n - (i + 1))
  unfolding some
  some_more b = rw (some_left, b, add-one)

pub some_end : (p : ℕ → Bool) (i n : ℕ) → n ≤ i → some p i (n - i) ≡ false
unfolding some
some_end p i n h = let z : n - i ≡ 0 = omega arith in rw z

-- a list's tests, by their numbers
pub any_some : {A : Type 0} (f : A → Bool) (d : A) (p : ℕ → Bool) (xs : List A) (i : ℕ) → ((j : ℕ) → j < length xs → f (get_or xs j d) ≡ p (i + j)) → any f xs ≡ some p i (length xs)
unfolding any some
any_some f d p [] i h = refl
any_some f d p (x ∷ xs) i h =
    let a : i + 0 ≡ i = omega arith in
    let b : f x ≡ p i = rw a at (h 0 (omega arith)) in
    rw (b, any_some f d p xs (suc i) (λ j l. h (suc j) (omega arith) ∙ ap p (let n : i + suc j ≡ suc i + j = omega arith in n)))

-- a line's content c, what follows its `;`, and what that has in the fields of a choice
pub keyed : (q : Choice) (l c : Bytes) → c ≡ content l → (w : Bytes) → w ≡ rest c → (x : List ℕ) → x ≡ gathered q (fields w) → x ≡ line_key q l
unfolding line_key
keyed q l c a w r x y = y ∙ ap (λ (v : Bytes). gathered q (fields v)) (r ∙ ap rest a)

-- a line that is no record, and one that is, by what it has in the fields of a choice
module _ (q : Choice) (l : Bytes) where
  pub bears_keyed : (o : Option Key) (key : Key) → MatchOption o (is_record l ≡ false) (λ k. (is_record l ≡ true) × (k.k ≡ line_key q l))
      → option_eq (λ (x y : Key). pointwise eqb x.k y.k) o (Some key) ≡ bears q key.k l
  unfolding bears
  bears_keyed None key h = rw h
  bears_keyed (Some k) key h = rw (h.0, sym h.1) (same_pointwise k.k key.k)

  pub again_other : (before : List Bytes) → is_record l ≡ false → again q before l ≡ false
  unfolding again
  again_other before n = rw n

  pub again_keyed : (before : List Bytes) → is_record l ≡ true → (x : List ℕ) → x ≡ line_key q l → again q before l ≡ any (bears q x) before
  unfolding again
  again_keyed before r x y = rw (r, y)
