-- The laws of the cut into header, sections and trailer: it is a homomorphism and loses no line; a section's place is the length of
-- what stands before it. Assumes nothing.
use mathlib.Core.Path.{◌≡◌, refl, ap, sym, ◌∙◌}
use mathlib.Core.Bool.{Bool, true, false}
use mathlib.Core.List.{List, [], ◌∷◌, ◌++◌, append_assoc}
use Prim.Native.Nat.{ℕ, zero, suc, ◌+◌, ◌-◌, ◌<◌, ◌≤◌}
use native.Mathlib.Nat.{add-zero, zero-add}
use native.Mathlib.Omega.{arith}
use lib.ListN.{length, take, drop, get_or, length-append, length-drop}
use lib.Seq.{length-take-le, drop-drop}
use Rattle.page.specs.Bytes.{Bytes}
use Rattle.page.specs.Lines.{lines, joined}
use Rattle.page.specs.Cut.{begins_table, begins_end, Piece, a_table, a_trailer, Cut, put, cut, Section, placed, placed_piece, piece_lines, header_lines, sections, from_end}
use Rattle.page.proofs.LineLaws.{line_size, line_in, cut_at, lines_end, joined_length, run_within, run_bytes, run_rest, run_lines}

-- a piece with more lines
abbrev pub longer : Piece → List Bytes → Piece
longer (a_table ls) ms = a_table (ls ++ ms)
longer (a_trailer ls) ms = a_trailer (ls ++ ms)

-- the last piece with more lines
unfoldable pub extend : List Piece → List Bytes → List Piece
extend [] ms = []
extend (p ∷ []) ms = longer p ms ∷ []
extend (p ∷ q ∷ ps) ms = p ∷ extend (q ∷ ps) ms

abbrev pub front_by : List Piece → List Bytes → List Bytes → List Bytes
front_by [] f g = f ++ g
front_by (p ∷ ps) f g = f

abbrev pub join : Cut → Cut → Cut
join c d = record { front = front_by c.pieces c.front d.front; pieces = extend c.pieces d.front ++ d.pieces }

put_join : (t e : Bool) (l : Bytes) (f : List Bytes) (ps : List Piece) (d : Cut)
    → put t e l (join (record { front = f; pieces = ps }) d) ≡ join (put t e l (record { front = f; pieces = ps })) d
unfolding put extend
put_join true e l f [] d = refl
put_join true e l f (p ∷ ps) d = refl
put_join false true l f [] d = refl
put_join false true l f (p ∷ ps) d = refl
put_join false false l f [] d = refl
put_join false false l f (p ∷ ps) d = refl

pub cut_join : (a b : List Bytes) → cut (a ++ b) ≡ join (cut a) (cut b)
unfolding cut extend
cut_join [] b = refl
cut_join (l ∷ a) b = rw (cut_join a b) (put_join (begins_table l) (begins_end l) l (cut a).front (cut a).pieces (cut b))

-- the cut loses no line

unfoldable pub flat : List Piece → List Bytes
flat [] = []
flat (p ∷ ps) = piece_lines p ++ flat ps

put_whole : (t e : Bool) (l : Bytes) (c : Cut) → (put t e l c).front ++ flat (put t e l c).pieces ≡ l ∷ (c.front ++ flat c.pieces)
unfolding put flat
put_whole true e l c = refl
put_whole false true l c = refl
put_whole false false l c = refl

pub cut_whole : (ls : List Bytes) → (cut ls).front ++ flat (cut ls).pieces ≡ ls
unfolding cut flat
cut_whole [] = refl
cut_whole (l ∷ ls) = put_whole (begins_table l) (begins_end l) l (cut ls) ∙ ap (λ (x : List Bytes). l ∷ x) (cut_whole ls)

-- the cut from a place, whose line ends at e
pub cut_step : (s : Bytes) (at e : ℕ) → at < length s → e ≡ at + line_size (drop at s)
    → cut (lines (drop at s))
    ≡ put (begins_table (take (e - at) (drop at s))) (begins_end (take (e - at) (drop at s))) (take (e - at) (drop at s)) (cut (lines (drop e s)))
unfolding cut
cut_step s at e h q = rw (cut_at s at e h q)

pub cut_end : (s : Bytes) (at : ℕ) → length s ≤ at → cut (lines (drop at s)) ≡ record { front = []; pieces = [] }
unfolding cut
cut_end s at h = rw (lines_end s at h)

-- how many bytes stand before the next line that begins a table or the trailer
unfoldable pub front_size : Bytes → ℕ
front_size w = length (joined (cut (lines w)).front)

at_line : (s : Bytes) (at e : ℕ) → at < length s → e ≡ at + line_size (drop at s) → (f : List Bytes)
    → at + length (take (e - at) (drop at s) ++ joined f) ≡ e + length (joined f)
at_line s at e h q f =
    let i = line_in s at e h q in
    let n = length-take-le (e - at) (drop at s) (omega (arith, length-drop at s)) in
    omega (arith, length-append (take (e - at) (drop at s)) (joined f))

module _ (s : Bytes) (at e : ℕ) (h : at < length s) (q : e ≡ at + line_size (drop at s)) where
  abbrev line : Bytes
  line = take (e - at) (drop at s)

  pub front_table : begins_table (take (e - at) (drop at s)) ≡ true → front_size (drop at s) ≡ 0
  unfolding front_size put joined
  front_table x = rw (cut_step s at e h q, x)

  pub front_trailer : begins_end (take (e - at) (drop at s)) ≡ true → front_size (drop at s) ≡ 0
  unfolding front_size put joined
  front_trailer x = rw (cut_step s at e h q, x) (by (begins_table line))
    where
      by : (t : Bool) → length (joined (put t true line (cut (lines (drop e s)))).front) ≡ 0
      by true = refl
      by false = refl

  pub front_more : begins_table (take (e - at) (drop at s)) ≡ false → begins_end (take (e - at) (drop at s)) ≡ false
      → at + front_size (drop at s) ≡ e + front_size (drop e s)
  unfolding front_size put joined
  front_more x y = rw (cut_step s at e h q, x, y) (at_line s at e h q (cut (lines (drop e s))).front)

pub front_end : (s : Bytes) (at : ℕ) → length s ≤ at → front_size (drop at s) ≡ 0
unfolding front_size joined
front_end s at h = rw (cut_end s at h)

-- the sections from a line's place on, in places of the whole: in a loop that moves line by line, or over a whole section at once

unfoldable pub sections_from : Bytes → ℕ → List Section
sections_from s at = placed (at + front_size (drop at s)) (cut (lines (drop at s))).pieces

pub sections_all : (s : Bytes) → sections_from s 0 ≡ sections s
unfolding sections_from sections header_lines front_size
sections_all s = rw zero-add

module _ (s : Bytes) (at e : ℕ) (h : at < length s) (q : e ≡ at + line_size (drop at s)) where
  pub sections_table : begins_table (take (e - at) (drop at s)) ≡ true
      → sections_from s at ≡ record { place = at; lines = take (e - at) (drop at s) ∷ (cut (lines (drop e s))).front } ∷ sections_from s e
  unfolding sections_from put placed joined front_size
  sections_table x =
      let f = (cut (lines (drop e s))).front in
      let n : at + length (take (e - at) (drop at s) ++ joined f) ≡ e + length (joined f) = at_line s at e h q f in
      rw (cut_step s at e h q, x, add-zero at, n)

  pub sections_trailer : begins_table (take (e - at) (drop at s)) ≡ false → begins_end (take (e - at) (drop at s)) ≡ true
      → sections_from s at ≡ sections_from s e
  unfolding sections_from put placed joined front_size
  sections_trailer x y =
      let f = (cut (lines (drop e s))).front in
      let n : at + length (take (e - at) (drop at s) ++ joined f) ≡ e + length (joined f) = at_line s at e h q f in
      rw (cut_step s at e h q, x, y, add-zero at, n)

  pub sections_more : begins_table (take (e - at) (drop at s)) ≡ false → begins_end (take (e - at) (drop at s)) ≡ false
      → sections_from s at ≡ sections_from s e
  unfolding sections_from put placed joined front_size
  sections_more x y =
      let f = (cut (lines (drop e s))).front in
      let n : at + length (take (e - at) (drop at s) ++ joined f) ≡ e + length (joined f) = at_line s at e h q f in
      rw (cut_step s at e h q, x, y, n)

pub sections_end : (s : Bytes) (at : ℕ) → length s ≤ at → sections_from s at ≡ []
unfolding sections_from placed
sections_end s at h = rw (cut_end s at h)

-- past the lines that begin nothing, the pieces are the same

cut_put : (t e : Bool) (l : Bytes) (ls : List Bytes) → begins_table l ≡ t → begins_end l ≡ e
    → cut (flat (cut ls).pieces) ≡ record { front = []; pieces = (cut ls).pieces }
    → cut (flat (put t e l (cut ls)).pieces) ≡ record { front = []; pieces = (put t e l (cut ls)).pieces }
unfolding put flat cut
cut_put true e l ls x y ih = rw (cut_whole ls, x)
cut_put false true l ls x y ih = rw (cut_whole ls, x, y)
cut_put false false l ls x y ih = ih

cut_flat : (ls : List Bytes) → cut (flat (cut ls).pieces) ≡ record { front = []; pieces = (cut ls).pieces }
unfolding cut flat
cut_flat [] = refl
cut_flat (l ∷ ls) = cut_put (begins_table l) (begins_end l) l ls refl refl (cut_flat ls)

is_front : (w : Bytes) → front_size w ≡ length (joined (cut (lines w)).front)
unfolding front_size
is_front w = refl

module _ (s : Bytes) (at : ℕ) where
  pub cut_skip : cut (lines (drop (at + front_size (drop at s)) s)) ≡ record { front = []; pieces = (cut (lines (drop at s))).pieces }
  unfolding front_size
  cut_skip =
      let w = drop at s in
      let c = cut (lines w) in
      rw (← drop-drop (front_size w) at s, run_rest w c.front [] (flat c.pieces) (sym (cut_whole (lines w)))) (cut_flat (lines w))

  pub front_skip : front_size (drop (at + front_size (drop at s)) s) ≡ 0
  unfolding joined
  front_skip = is_front (drop (at + front_size (drop at s)) s) ∙ ap (λ (c : Cut). length (joined c.front)) cut_skip

  pub sections_skip : sections_from s (at + front_size (drop at s)) ≡ sections_from s at
  unfolding sections_from
  sections_skip = rw (front_skip, cut_skip, add-zero)

-- the trailer's lines from a place on

module _ (s : Bytes) (at e : ℕ) (h : at < length s) (q : e ≡ at + line_size (drop at s)) where
  pub trailer_here : begins_end (take (e - at) (drop at s)) ≡ true → from_end (lines (drop at s)) ≡ lines (drop at s)
  unfolding from_end
  trailer_here x = rw (cut_at s at e h q, x)

  pub trailer_more : begins_end (take (e - at) (drop at s)) ≡ false → from_end (lines (drop at s)) ≡ from_end (lines (drop e s))
  unfolding from_end
  trailer_more x = rw (cut_at s at e h q, x)

pub trailer_none : (s : Bytes) (at : ℕ) → length s ≤ at → from_end (lines (drop at s)) ≡ []
unfolding from_end
trailer_none s at h = rw (lines_end s at h)

-- the header's bytes are in front
module _ (s : Bytes) where
  in_front : lines s ≡ [] ++ (header_lines s ++ flat (cut (lines s)).pieces)
  unfolding header_lines
  in_front = sym (cut_whole (lines s))

  pub header_run : lines (take (length (joined (header_lines s))) s) ≡ header_lines s
  unfolding joined
  header_run = run_lines s [] (header_lines s) (flat (cut (lines s)).pieces) in_front

-- a section among a file's lines
pub record Stands (s : Bytes) (x : Section) : Type 0 where
  pub before : List Bytes
  pub after : List Bytes
  pub whole : lines s ≡ before ++ (x.lines ++ after)
  pub place : x.place ≡ length (joined before)

abbrev pub no_section : Section
no_section = record { place = 0; lines = [] }

piece_placed : (s : Bytes) (p : Piece) (ps : List Piece) (at : ℕ) (before : List Bytes) → lines s ≡ before ++ flat (p ∷ ps) → at ≡ length (joined before)
    → (rest : List Section) → ((k : ℕ) → k < length rest → Stands s (get_or rest k no_section))
    → (k : ℕ) → k < length (placed_piece at p rest) → Stands s (get_or (placed_piece at p rest) k no_section)
unfolding flat
piece_placed s (a_table ls) ps at before w q rest r zero h = record { before = before; after = flat ps; whole = w; place = q }
piece_placed s (a_table ls) ps at before w q rest r (suc k) h = r k (omega arith)
piece_placed s (a_trailer ls) ps at before w q rest r k h = r k h

all_placed : (s : Bytes) (ps : List Piece) (at : ℕ) (before : List Bytes) → lines s ≡ before ++ flat ps → at ≡ length (joined before)
    → (k : ℕ) → k < length (placed at ps) → Stands s (get_or (placed at ps) k no_section)
unfolding placed flat
all_placed s [] at before w q k h = absurd (omega arith)
all_placed s (p ∷ ps) at before w q k h =
    piece_placed s p ps at before w q (placed (at + length (joined (piece_lines p))) ps)
    (all_placed s ps (at + length (joined (piece_lines p))) (before ++ piece_lines p) (w ∙ sym (append_assoc before (piece_lines p) (flat ps)))
    (rw q (sym (joined_length before (piece_lines p))))) k h

-- "place is the section's first byte, from 0": the length of what stands before it
pub section_stands : (s : Bytes) (k : ℕ) → k < length (sections s) → Stands s (get_or (sections s) k no_section)
unfolding sections header_lines
section_stands s = all_placed s (cut (lines s)).pieces (length (joined (cut (lines s)).front)) (cut (lines s)).front (sym (cut_whole (lines s))) refl

module _ (s : Bytes) (x : Section) (t : Stands s x) where
  pub section_within : x.place + length (joined x.lines) ≤ length s
  section_within = rw t.place (run_within s t.before x.lines t.after t.whole)

  pub section_bytes : take (length (joined x.lines)) (drop x.place s) ≡ joined x.lines
  section_bytes = rw t.place (run_bytes s t.before x.lines t.after t.whole)
