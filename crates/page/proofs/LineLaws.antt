-- The laws of lines: put together again they are the bytes; cutting is a homomorphism on whole lines; the first line at a place;
-- a line's place is the length of what stands before it. Assumes nothing.
use mathlib.Core.Path.{◌≡◌, refl, ap, sym, ◌∙◌}
use mathlib.Core.Bool.{Bool, true, false}
use mathlib.Core.List.{List, [], ◌∷◌, ◌++◌, append_assoc}
use Prim.Native.Nat.{ℕ, suc, ◌+◌, ◌-◌, ◌<◌, ◌≤◌}
use native.Mathlib.Numerals.{add-one}
use native.Mathlib.Omega.{arith}
use borrow.Author.Tests.{ne_eqb}
use lib.Dec.{eqb}
use lib.ListN.{length, take, drop, get_or, drop_of_length-le, length-append, length-drop}
use lib.Seq.{drop-cons, drop-drop, take-append_seam, drop-append_seam}
use Rattle.page.specs.Bytes.{Bytes}
use Rattle.page.specs.Lines.{lines, in_front, joined}

-- lines put together again are the bytes

joined_front : (e : Bool) (b : ℕ) (ls : List Bytes) → joined (in_front e b ls) ≡ b ∷ joined ls
unfolding joined
joined_front true b ls = refl
joined_front false b [] = refl
joined_front false b (l ∷ ls) = refl

pub joined_lines : (s : Bytes) → joined (lines s) ≡ s
unfolding lines joined
joined_lines [] = refl
joined_lines (b ∷ bs) = joined_front (eqb b 10) b (lines bs) ∙ ap (λ (x : Bytes). b ∷ x) (joined_lines bs)

pub joined_append : (a b : List Bytes) → joined (a ++ b) ≡ joined a ++ joined b
unfolding joined
joined_append [] b = refl
joined_append (l ∷ a) b = rw (joined_append a b, append_assoc)

pub joined_length : (a b : List Bytes) → length (joined (a ++ b)) ≡ length (joined a) + length (joined b)
joined_length a b = rw (joined_append a b) (length-append (joined a) (joined b))

-- bytes of which none is an LF; bytes that end in LF and have no other

pub data Plain : Bytes → Type 0 where
  one : {b : ℕ} → eqb b 10 ≡ false → Plain (b ∷ [])
  more : {b : ℕ} {l : Bytes} → eqb b 10 ≡ false → Plain l → Plain (b ∷ l)

pub data Ended : Bytes → Type 0 where
  lf : {b : ℕ} → eqb b 10 ≡ true → Ended (b ∷ [])
  after : {b : ℕ} {l : Bytes} → eqb b 10 ≡ false → Ended l → Ended (b ∷ l)

-- "A line ends at LF. Only a file's last line may lack LF": lines as a file has them, and each run of them
pub data Laid : List Bytes → Type 0 where
  none : Laid []
  last : {l : Bytes} → Plain l → Laid (l ∷ [])
  next : {l : Bytes} {ls : List Bytes} → Ended l → Laid ls → Laid (l ∷ ls)

laid_front : (e : Bool) (b : ℕ) {ls : List Bytes} → eqb b 10 ≡ e → Laid ls → Laid (in_front e b ls)
laid_front true b q h = next (lf q) h
laid_front false b q none = last (one q)
laid_front false b q (last p) = last (more q p)
laid_front false b q (next p h) = next (after q p) h

pub laid_lines : (s : Bytes) → Laid (lines s)
unfolding lines
laid_lines [] = none
laid_lines (b ∷ bs) = laid_front (eqb b 10) b refl (laid_lines bs)

laid_one : {l : Bytes} {ls : List Bytes} → Laid (l ∷ ls) → Laid (l ∷ [])
laid_one (last p) = last p
laid_one (next p h) = next p none

pub laid_rest : {l : Bytes} {ls : List Bytes} → Laid (l ∷ ls) → Laid ls
laid_rest (last p) = none
laid_rest (next p h) = h

pub laid_left : (a b : List Bytes) → Laid (a ++ b) → Laid a
laid_left [] b h = none
laid_left (l ∷ []) b h = laid_one h
laid_left (l ∷ m ∷ a) b (next p h) = next p (laid_left (m ∷ a) b h)

pub laid_right : (a b : List Bytes) → Laid (a ++ b) → Laid b
laid_right [] b h = h
laid_right (l ∷ a) b h = laid_right a b (laid_rest h)

plain_line : {l : Bytes} → Plain l → lines (l ++ []) ≡ l ∷ []
unfolding lines
plain_line (one q) = rw q
plain_line (more q h) = rw (q, plain_line h)

ended_line : {l : Bytes} → Ended l → (r : Bytes) → lines (l ++ r) ≡ l ∷ lines r
unfolding lines
ended_line (lf q) r = rw q
ended_line (after q h) r = rw (q, ended_line h r)

-- cut again, lines are the same
pub lines_joined : {ls : List Bytes} → Laid ls → lines (joined ls) ≡ ls
unfolding lines joined
lines_joined none = refl
lines_joined (last p) = plain_line p
lines_joined (next {l} {ls} p h) = ended_line p (joined ls) ∙ ap (λ (x : List Bytes). l ∷ x) (lines_joined h)

plain_some : {l : Bytes} → Plain l → 0 < length l
plain_some (one q) = omega arith
plain_some (more q h) = omega arith

pub ended_some : {l : Bytes} → Ended l → 0 < length l
ended_some (lf q) = omega arith
ended_some (after q h) = omega arith

pub laid_some : {l : Bytes} {ls : List Bytes} → Laid (l ∷ ls) → 0 < length l
laid_some (last p) = plain_some p
laid_some (next p h) = ended_some p

-- the length of the first line, with its end

abbrev pub first : List Bytes → Bytes
first [] = []
first (l ∷ ls) = l

unfoldable pub line_size : Bytes → ℕ
line_size w = length (first (lines w))

size_other : (b : ℕ) (r : Bytes) → eqb b 10 ≡ false → line_size (b ∷ r) ≡ suc (line_size r)
unfolding line_size lines
size_other b r e = rw e (by (lines r))
  where
    by : (ls : List Bytes) → length (first (in_front false b ls)) ≡ suc (length (first ls))
    by [] = refl
    by (l ∷ ls) = refl

module _ (s : Bytes) (i : ℕ) where
  pub size_more : i < length s → (get_or s i 0 ≡ 10 → ⊥) → line_size (drop i s) ≡ suc (line_size (drop (i + 1) s))
  size_more h ne = rw (add-one, drop-cons s i 0) (size_other (get_or s i 0) (drop (suc i) s) (ne_eqb (get_or s i 0) 10 ne))

  pub size_hit : i < length s → get_or s i 0 ≡ 10 → line_size (drop i s) ≡ 1
  unfolding line_size lines
  size_hit h e = rw (drop-cons s i 0, e)

  pub size_end : length s ≤ i → line_size (drop i s) ≡ 0
  unfolding line_size lines
  size_end h = rw (drop_of_length-le s h)

-- the lines of bytes that are some: the first, and those of what follows it
pub record First (w : Bytes) : Type 0 where
  pub some : 0 < line_size w
  pub within : line_size w ≤ length w
  pub cut : lines w ≡ take (line_size w) w ∷ lines (drop (line_size w) w)

first_of : (l : Bytes) (ls : List Bytes) (w : Bytes) → Laid (l ∷ ls) → lines w ≡ l ∷ ls → w ≡ l ++ joined ls → First w
unfolding line_size
first_of l ls w h e x =
    let n : line_size w ≡ length l = rw e in
    record {
      some = rw n (laid_some h);
      within = omega (arith, n, ap length x, length-append l (joined ls));
      cut = e ∙ rw (n, x, take-append_seam l (joined ls), drop-append_seam l (joined ls), lines_joined (laid_rest h));
    }

pub lines_some : (w : Bytes) → 0 < length w → First w
unfolding joined
lines_some w h = by (lines w) refl
  where
    by : (ls : List Bytes) → lines w ≡ ls → First w
    by [] e = absurd (omega (arith, ap length (sym (joined_lines w) ∙ ap joined e)))
    by (l ∷ ls) e = first_of l ls w (rw e at (laid_lines w)) e (sym (joined_lines w) ∙ ap joined e)

-- the line at a place, that ends at e
module _ (s : Bytes) (at e : ℕ) (h : at < length s) (q : e ≡ at + line_size (drop at s)) where
  here : First (drop at s)
  here = lines_some (drop at s) (omega (arith, length-drop at s))

  pub line_in : (at < e) × (e ≤ length s)
  line_in = omega (arith, here.some, here.within, length-drop at s)

  pub cut_at : lines (drop at s) ≡ take (e - at) (drop at s) ∷ lines (drop e s)
  cut_at =
      let k : e - at ≡ line_size (drop at s) = omega arith in
      rw k (here.cut ∙ ap (λ (x : Bytes). take (line_size (drop at s)) (drop at s) ∷ lines x) (drop-drop (line_size (drop at s)) at s ∙ ap (λ (n : ℕ). drop n s) (sym q)))

pub lines_end : (s : Bytes) (at : ℕ) → length s ≤ at → lines (drop at s) ≡ []
unfolding lines
lines_end s at h = rw (drop_of_length-le s h)

-- cutting is a homomorphism on whole lines

pub data Whole : Bytes → Type 0 where
  empty : Whole []
  ends : (a : Bytes) → Whole (a ++ 10 ∷ [])

data Some : List Bytes → Type 0 where
  some_line : (l : Bytes) (ls : List Bytes) → Some (l ∷ ls)

front_some : (e : Bool) (b : ℕ) (ls : List Bytes) → Some (in_front e b ls)
front_some true b ls = some_line (b ∷ []) ls
front_some false b [] = some_line (b ∷ []) []
front_some false b (l ∷ ls) = some_line (b ∷ l) ls

ends_some : (a : Bytes) → Some (lines (a ++ 10 ∷ []))
unfolding lines
ends_some [] = front_some true 10 []
ends_some (b ∷ a) = front_some (eqb b 10) b (lines (a ++ 10 ∷ []))

front_append : (e : Bool) (b : ℕ) {x : List Bytes} → Some x → (y : List Bytes) → in_front e b (x ++ y) ≡ in_front e b x ++ y
front_append true b (some_line l ls) y = refl
front_append false b (some_line l ls) y = refl

lines_after : (a c : Bytes) → lines ((a ++ 10 ∷ []) ++ c) ≡ lines (a ++ 10 ∷ []) ++ lines c
unfolding lines
lines_after [] c = refl
lines_after (b ∷ a) c = rw (lines_after a c) (front_append (eqb b 10) b (ends_some a) (lines c))

pub lines_append : {a : Bytes} → Whole a → (c : Bytes) → lines (a ++ c) ≡ lines a ++ lines c
unfolding lines
lines_append empty c = refl
lines_append (ends a) c = lines_after a c

-- a run of a file's lines: where it stands, and its bytes
module _ (s : Bytes) (a b c : List Bytes) (e : lines s ≡ a ++ (b ++ c)) where
  whole : s ≡ joined a ++ (joined b ++ joined c)
  whole = sym (joined_lines s) ∙ ap joined e ∙ joined_append a (b ++ c) ∙ ap (λ (x : Bytes). joined a ++ x) (joined_append b c)

  pub run_within : length (joined a) + length (joined b) ≤ length s
  run_within = omega (arith, ap length whole, length-append (joined a) (joined b ++ joined c), length-append (joined b) (joined c))

  pub run_bytes : take (length (joined b)) (drop (length (joined a)) s) ≡ joined b
  run_bytes = rw (whole, drop-append_seam (joined a) (joined b ++ joined c), take-append_seam (joined b) (joined c))

  pub run_rest : lines (drop (length (joined a)) s) ≡ b ++ c
  run_rest =
      rw (whole, drop-append_seam (joined a) (joined b ++ joined c), ← joined_append b c)
      (lines_joined (laid_right a (b ++ c) (rw e at (laid_lines s))))

  pub run_lines : lines (take (length (joined b)) (drop (length (joined a)) s)) ≡ b
  run_lines = rw run_bytes (lines_joined (laid_left b c (laid_right a (b ++ c) (rw e at (laid_lines s)))))
