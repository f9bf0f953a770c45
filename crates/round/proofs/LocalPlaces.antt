-- Demand 3 by byte place: the sections closed before the run are those that end before its lines begin, and those after it are those that begin
-- where it is over. Assumes nothing.
use mathlib.Core.Path.{◌≡◌, refl, ap, sym, ◌∙◌}
use mathlib.Core.Bool.{Bool, true, false, false≢true}
use mathlib.Core.List.{List, [], ◌∷◌, ◌++◌, append_assoc, map}
use mathlib.Core.Logic.{◌↔◌}
use Prim.Native.Nat.{ℕ, zero, suc, ◌+◌, ◌-◌, ◌<◌, ◌≤◌}
use native.Mathlib.Omega.{arith}
use lib.Dec.{ltb}
use lib.ListN.{length, get_or, length-append, length-map, get_or-append}
use borrow.Author.Tests.{ltb-true, ltb-false}
use Rattle.page.specs.Bytes.{Bytes}
use Rattle.page.specs.Lines.{lines, joined}
use Rattle.page.specs.Cut.{begins_table, begins_end, Piece, a_table, a_trailer, put, Section, cut, placed, piece_lines, header_lines, sections}
use Rattle.page.specs.Open.{open_all}
use Rattle.page.specs.Reading.{no_section, section_at}
use Rattle.page.specs.Rules.{Every, none_left, one_more}
use Rattle.page.proofs.LineLaws.{Whole, joined_length, joined_lines, lines_append}
use Rattle.page.proofs.CutLaws.{extend, flat, cut_join}
use Rattle.round.specs.Local.{Run, settled, closed, later, reached}
use Rattle.round.proofs.Local.{run_lines, bytes_in, all_bytes, whole_bytes, front_some, placed_append, local_header, local_sections, later_at, closed_at}

-- where a section ends
abbrev end : Section → ℕ
end x = x.place + length (joined x.lines)

-- every piece begins with a line, which has a byte
abbrev Filled : Piece → Type 0
Filled p = 0 < length (joined (piece_lines p))

none_table : begins_table [] ≡ false
unfolding open_all
none_table = refl

none_end : begins_end [] ≡ false
unfolding open_all
none_end = refl

some : (l : Bytes) → ¬ (l ≡ []) → (ms : List Bytes) → 0 < length (joined (l ∷ ms))
unfolding joined
some [] n ms = absurd (n refl)
some (b ∷ l) n ms = omega arith

cut_filled : (ls : List Bytes) → Every Filled (cut ls).pieces
unfolding cut put
cut_filled [] = none_left
cut_filled (l ∷ ls) = by (begins_table l) (begins_end l) refl refl (cut_filled ls)
  where
    by : (t e : Bool) → begins_table l ≡ t → begins_end l ≡ e → Every Filled (cut ls).pieces → Every Filled (put t e l (cut ls)).pieces
    by true e h k x = one_more (some l (λ z. false≢true (sym none_table ∙ ap begins_table (sym z) ∙ h)) (cut ls).front) x
    by false true h k x = one_more (some l (λ z. false≢true (sym none_end ∙ ap begins_end (sym z) ∙ k)) (cut ls).front) x
    by false false h k x = x

-- no section of pieces begins before them
not_before : (at : ℕ) (ps : List Piece) (k : ℕ) → k < length (placed at ps) → at ≤ (get_or (placed at ps) k no_section).place
unfolding placed
not_before at [] k h = absurd (omega arith)
not_before at (a_table ls ∷ ps) zero h = omega arith
not_before at (a_table ls ∷ ps) (suc k) h = omega (arith, not_before (at + length (joined ls)) ps k (omega arith))
not_before at (a_trailer ls ∷ ps) k h = omega (arith, not_before (at + length (joined ls)) ps k h)

-- two sections do not begin at one place
one_place : (at : ℕ) {ps : List Piece} → Every Filled ps → (k l : ℕ) → k < length (placed at ps) → l < length (placed at ps) →
    (get_or (placed at ps) k no_section).place ≡ (get_or (placed at ps) l no_section).place → k ≡ l
unfolding placed
one_place at none_left k l h g e = absurd (omega arith)
one_place at (one_more {x = a_table ls} {xs = ps} f fs) zero zero h g e = refl
one_place at (one_more {x = a_table ls} {xs = ps} f fs) zero (suc l) h g e =
    absurd (omega (arith, not_before (at + length (joined ls)) ps l (omega arith)))
one_place at (one_more {x = a_table ls} {xs = ps} f fs) (suc k) zero h g e =
    absurd (omega (arith, not_before (at + length (joined ls)) ps k (omega arith)))
one_place at (one_more {x = a_table ls} {xs = ps} f fs) (suc k) (suc l) h g e =
    ap suc (one_place (at + length (joined ls)) fs k l (omega arith) (omega arith) e)
one_place at (one_more {x = a_trailer ls} {xs = ps} f fs) k l h g e = one_place (at + length (joined ls)) fs k l h g e

-- "place is the section's first byte": no two sections of a file have the same
pub place_once : (s : Bytes) (k l : ℕ) → k < length (sections s) → l < length (sections s) →
    (get_or (sections s) k no_section).place ≡ (get_or (sections s) l no_section).place → k ≡ l
unfolding sections
place_once s = one_place (length (joined (header_lines s))) (cut_filled (lines s))

bytes_more : (p : Piece) (ps : List Piece) → bytes_in (p ∷ ps) ≡ length (joined (piece_lines p)) + bytes_in ps
unfolding flat
bytes_more p ps = joined_length (piece_lines p) (flat ps)

-- a section that another piece follows ends before the last of them
settled_ends : (at : ℕ) {ps : List Piece} → Every Filled ps → (k : ℕ) → k < length (placed at (settled ps)) →
    end (get_or (placed at (settled ps)) k no_section) < at + bytes_in ps
unfolding placed settled
settled_ends at none_left k h = absurd (omega arith)
settled_ends at (one_more f none_left) k h = absurd (omega arith)
settled_ends at (one_more {x = a_table ls} f (one_more {x = q} {xs = ps} g fs)) zero h = omega (arith, bytes_more (a_table ls) (q ∷ ps), bytes_more q ps)
settled_ends at (one_more {x = a_table ls} f (one_more {x = q} {xs = ps} g fs)) (suc k) h =
    omega (arith, bytes_more (a_table ls) (q ∷ ps), settled_ends (at + length (joined ls)) (one_more {x = q} {xs = ps} g fs) k (omega arith))
settled_ends at (one_more {x = a_trailer ls} f (one_more {x = q} {xs = ps} g fs)) k h =
    omega (arith, bytes_more (a_trailer ls) (q ∷ ps), settled_ends (at + length (joined ls)) (one_more {x = q} {xs = ps} g fs) k h)

-- and every other one does not: the last piece with the lines that follow it, and what begins after that
others_end : (at : ℕ) (ps : List Piece) (ms : List Bytes) (qs : List Piece) (k : ℕ) →
    length (placed at (settled ps)) ≤ k → k < length (placed at (extend ps ms ++ qs)) → at + bytes_in ps ≤ end (get_or (placed at (extend ps ms ++ qs)) k no_section)
unfolding placed settled extend joined flat
others_end at [] ms qs k g h = omega (arith, not_before at qs k h)
others_end at (a_table ls ∷ []) ms qs zero g h = omega (arith, bytes_more (a_table ls) [], joined_length ls ms)
others_end at (a_table ls ∷ []) ms qs (suc k) g h =
    omega (arith, bytes_more (a_table ls) [], joined_length ls ms, not_before (at + length (joined (ls ++ ms))) qs k (omega arith))
others_end at (a_trailer ls ∷ []) ms qs k g h =
    omega (arith, bytes_more (a_trailer ls) [], joined_length ls ms, not_before (at + length (joined (ls ++ ms))) qs k h)
others_end at (a_table ls ∷ q ∷ ps) ms qs zero g h = absurd (omega arith)
others_end at (a_table ls ∷ q ∷ ps) ms qs (suc k) g h =
    omega (arith, bytes_more (a_table ls) (q ∷ ps), others_end (at + length (joined ls)) (q ∷ ps) ms qs k (omega arith) (omega arith))
others_end at (a_trailer ls ∷ q ∷ ps) ms qs k g h =
    omega (arith, bytes_more (a_trailer ls) (q ∷ ps), others_end (at + length (joined ls)) (q ∷ ps) ms qs k g h)

-- where lines that begin nothing follow pieces, each section still begins within their bytes
extended_begin : (at : ℕ) {ps : List Piece} → Every Filled ps → (ms : List Bytes) (k : ℕ) → k < length (placed at (extend ps ms)) →
    (get_or (placed at (extend ps ms)) k no_section).place < at + bytes_in ps
unfolding placed extend
extended_begin at none_left ms k h = absurd (omega arith)
extended_begin at (one_more {x = a_table ls} f none_left) ms zero h = omega (arith, bytes_more (a_table ls) [])
extended_begin at (one_more {x = a_table ls} f none_left) ms (suc k) h = absurd (omega arith)
extended_begin at (one_more {x = a_trailer ls} f none_left) ms k h = absurd (omega arith)
extended_begin at (one_more {x = a_table ls} f (one_more {x = q} {xs = ps} g fs)) ms zero h = omega (arith, bytes_more (a_table ls) (q ∷ ps))
extended_begin at (one_more {x = a_table ls} f (one_more {x = q} {xs = ps} g fs)) ms (suc k) h =
    omega (arith, bytes_more (a_table ls) (q ∷ ps), extended_begin (at + length (joined ls)) (one_more {x = q} {xs = ps} g fs) ms k (omega arith))
extended_begin at (one_more {x = a_trailer ls} f (one_more {x = q} {xs = ps} g fs)) ms k h =
    omega (arith, bytes_more (a_trailer ls) (q ∷ ps), extended_begin (at + length (joined ls)) (one_more {x = q} {xs = ps} g fs) ms k h)

-- there are as many sections wherever the pieces begin
as_many : (at to : ℕ) (ps : List Piece) → length (placed at ps) ≡ length (placed to ps)
unfolding placed
as_many at to [] = refl
as_many at to (a_table ls ∷ ps) = ap suc (as_many (at + length (joined ls)) (to + length (joined ls)) ps)
as_many at to (a_trailer ls ∷ ps) = as_many (at + length (joined ls)) (to + length (joined ls)) ps

-- a: whole lines, the first `tbl` or `eof` line among them; a run m; b: the rest
module _ (a m b : Bytes) (wa : Whole a) (ha : 0 < length (cut (lines a)).pieces) (r : Run m b) where
  -- the sections, where lines x with the first `tbl` or `eof` line are followed by lines y
  split_sections : (x y : List Bytes) → lines (a ++ (m ++ b)) ≡ x ++ y →
      sections (a ++ (m ++ b)) ≡ placed (length (joined (header_lines a))) (extend (cut x).pieces (cut y).front ++ (cut y).pieces)
  unfolding sections
  split_sections x y e = rw (local_header a m b wa ha r, e, cut_join x y)

  run_split : lines (a ++ (m ++ b)) ≡ lines a ++ (lines m ++ lines b)
  run_split = rw (lines_append wa (m ++ b), run_lines r)

  -- section i is closed in a exactly if it ends before a does: the line that closes it stands there
  pub closed_exactly : (i : ℕ) → 0 < i → i ≤ length (sections (a ++ (m ++ b))) →
      i ≤ length (closed a) ↔ (section_at (a ++ (m ++ b)) i).place + length (joined (section_at (a ++ (m ++ b)) i).lines) < length a
  unfolding closed section_at
  closed_exactly i p h = (into, λ l. back (ltb (length (closed a)) i) refl l)
    where
      into : i ≤ length (closed a) → end (section_at (a ++ (m ++ b)) i) < length a
      into l =
          rw (closed_at a m b wa ha r i p l)
          (omega (arith, whole_bytes a, settled_ends (length (joined (header_lines a))) (cut_filled (lines a)) (i - 1) (omega arith)))

      back : (q : Bool) → ltb (length (closed a)) i ≡ q → end (section_at (a ++ (m ++ b)) i) < length a → i ≤ length (closed a)
      back false g l = ltb-false (length (closed a)) i g
      back true g l =
          let y : List Bytes = lines m ++ lines b in
          let e = split_sections (lines a) y run_split in
          let o = others_end (length (joined (header_lines a))) (cut (lines a)).pieces (cut y).front (cut y).pieces (i - 1)
          (omega (arith, ltb-true (length (closed a)) i g)) (rw (← e) (omega arith)) in
          absurd (omega (arith, whole_bytes a, rw (← e) at o))

  pub local_counted : length (sections (a ++ (m ++ b))) ≡ length (closed a) + length (reached a m b) + length (sections b)
  local_counted =
      let k = length a + length m in
      rw (
        local_sections a m b wa ha r,
        length-append (closed a) (reached a m b ++ map (later k) (sections b)),
        length-append (reached a m b) (map (later k) (sections b)),
        length-map,
      )
      (omega arith)

  -- where the sections closed in a and those that the run reaches begin
  before_rest : (i : ℕ) → 0 < i → i ≤ length (closed a) + length (reached a m b) → (section_at (a ++ (m ++ b)) i).place < length a + length m
  unfolding section_at sections header_lines
  before_rest i p h =
      let x : List Bytes = lines a ++ lines m in
      let at : ℕ = length (joined (header_lines a)) in
      let ps : List Piece = extend (cut x).pieces (cut (lines b)).front in
      let qs : List Piece = (cut (lines b)).pieces in
      let k : ℕ = at + bytes_in ps in
      let e : sections (a ++ (m ++ b)) ≡ placed at ps ++ placed k qs =
      split_sections x (lines b) (run_split ∙ sym (append_assoc (lines a) (lines m) (lines b))) ∙ placed_append at ps qs in
      let n : length (closed a) + length (reached a m b) ≡ length (placed at ps) =
      omega (arith, local_counted, ap length e, length-append (placed at ps) (placed k qs), as_many k (length (joined (header_lines b))) qs) in
      let q : length (joined (cut x).front) + bytes_in (cut x).pieces ≡ length a + length m =
      all_bytes x ∙ joined_length (lines a) (lines m) ∙ rw (joined_lines a, joined_lines m) in
      let f : length (joined (cut x).front) ≡ at =
      rw (cut_join (lines a) (lines m), front_some (cut (lines a)).pieces (cut (lines a)).front (cut (lines m)).front ha) in
      rw (e, get_or-append (placed at ps) (placed k qs) no_section (i - 1) (omega arith))
      (omega (arith, q, f, extended_begin at (cut_filled x) (cut (lines b)).front (i - 1) (omega arith)))

  -- section i begins after the run exactly if neither a closes it nor the run reaches it
  pub beyond_exactly : (i : ℕ) → 0 < i → i ≤ length (sections (a ++ (m ++ b))) →
      length (closed a) + length (reached a m b) < i ↔ length a + length m ≤ (section_at (a ++ (m ++ b)) i).place
  unfolding later
  beyond_exactly i p h = (into, λ l. back (ltb (length (closed a) + length (reached a m b)) i) refl l)
    where
      into : length (closed a) + length (reached a m b) < i → length a + length m ≤ (section_at (a ++ (m ++ b)) i).place
      into l =
          let k : ℕ = i - suc (length (closed a) + length (reached a m b)) in
          let z : i ≡ length (closed a) + length (reached a m b) + suc k = omega arith in
          rw (z, later_at a m b wa ha r k (omega (arith, local_counted))) (omega arith)

      back : (q : Bool) → ltb (length (closed a) + length (reached a m b)) i ≡ q → length a + length m ≤ (section_at (a ++ (m ++ b)) i).place →
          length (closed a) + length (reached a m b) < i
      back true g l = ltb-true (length (closed a) + length (reached a m b)) i g
      back false g l = absurd (omega (arith, before_rest i p (ltb-false (length (closed a) + length (reached a m b)) i g)))
