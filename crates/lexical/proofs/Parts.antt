-- The parts of a file: header, sections and trailer of the cut are the ones that the document names. Assumes nothing.
use mathlib.Core.Path.{◌≡◌, refl, ap, sym, ◌∙◌}
use mathlib.Core.Bool.{Bool, true, false, ◌||◌}
use mathlib.Core.List.Memᴰ
use mathlib.Core.List.{List, [], ◌∷◌, ◌++◌, Memᴰ}
use mathlib.Core.Logic.{◌⊎◌, inl, inr, ◌↔◌}
use Prim.Native.Nat.{ℕ, suc, ◌+◌, ◌<◌}
use native.Mathlib.Nat.{add-zero, zero-add}
use native.Mathlib.Omega.{arith}
use lib.ListN.{length, length-append}
use Rattle.page.specs.Bytes.{Bytes, pick, until}
use Rattle.page.specs.Lines.{lines, joined, content_size, content, command, Tbl, Eof}
use Rattle.page.specs.Cut.{begins_table, begins_end, put, cut, Section, placed, header_lines, sections, from_end, trailer_lines}
use Rattle.page.specs.Rules.{Every, none_left, one_more}
use Rattle.page.specs.Parts.{TableLine, TrailerLine, PartLine, BeginsWith, no_line, this_line, FirstAfter, HeaderOf, TrailerOf}
use Rattle.page.specs.Parts.{SectionOf, InOrder, no_section, before_all, SectionsOf}
use Rattle.page.proofs.LineLaws.{joined_length}
use Rattle.page.proofs.CutLaws.{flat, cut_whole}
use Rattle.laws.proofs.Decides.{Decides, holds, fails, tested, one_of, equal}
use Rattle.lexical.specs.Between.{AfterEof, Outside, ends_before, begins_after}
use Rattle.laws.proofs.Lists.{every_at, every_map}

table_d : (l : Bytes) → Decides (TableLine l) (begins_table l)
unfolding begins_table
table_d l = equal (command (content l)) Tbl

trailer_d : (l : Bytes) → Decides (TrailerLine l) (begins_end l)
unfolding begins_end
trailer_d l = equal (command (content l)) Eof

part_d : (l : Bytes) → Decides (PartLine l) (begins_table l || begins_end l)
part_d l = one_of (table_d l) (trailer_d l)

-- there is one way only to cut lines at the first that is such a line

module _ {P : Bytes → Type 0} where
  first_once : {a b r q : List Bytes} → a ++ r ≡ b ++ q → Every (λ l. ¬ P l) a → BeginsWith P r → Every (λ l. ¬ P l) b → BeginsWith P q → (a ≡ b) × (r ≡ q)
  first_once {a = []} {b = []} e n x m y = (refl, e)
  first_once {a = []} {b = k ∷ b} {r = []} e n x m y = absurd (let z = ap length e in let w : ⊥ = omega arith in w)
  first_once {a = []} {b = k ∷ b} {r = l ∷ r} e n (this_line p) (one_more h m) y = absurd (h (let z : l ≡ k = cc in rw z at p))
  first_once {a = l ∷ a} {b = []} {q = []} e n x m y = absurd (let z = ap length e in let w : ⊥ = omega arith in w)
  first_once {a = l ∷ a} {b = []} {q = k ∷ q} e (one_more h n) x m (this_line p) = absurd (h (let z : k ≡ l = cc in rw z at p))
  first_once {a = l ∷ a} {b = k ∷ b} {r} {q} e (one_more g n) x (one_more h m) y =
      let z : l ≡ k = cc in
      let t : a ++ r ≡ b ++ q = cc in
      let i = first_once {a = a} {b = b} t n x m y in
      let u = i.0 in
      (cc, i.1)

  first_one : {a b r q ls : List Bytes} → FirstAfter P a r ls → FirstAfter P b q ls → (a ≡ b) × (r ≡ q)
  first_one f g = first_once (sym f.whole ∙ g.whole) f.none_before f.begins g.none_before g.begins

-- the header

front_none : (ls : List Bytes) → Every (λ l. ¬ PartLine l) (cut ls).front
unfolding cut put
front_none [] = none_left
front_none (l ∷ ls) = by (begins_table l) (begins_end l) (table_d l) (trailer_d l) (front_none ls)
  where
    by : (t e : Bool) → Decides (TableLine l) t → Decides (TrailerLine l) e →
        Every (λ l. ¬ PartLine l) (cut ls).front → Every (λ l. ¬ PartLine l) (put t e l (cut ls)).front
    by true e p q ih = none_left
    by false true p q ih = none_left
    by false false (fails n) (fails m) ih = one_more (λ (x : PartLine l). elim x [ inl p ↦ n p | inr q ↦ m q ]) ih

pieces_begin : (ls : List Bytes) → BeginsWith PartLine (flat (cut ls).pieces)
unfolding cut put flat
pieces_begin [] = no_line
pieces_begin (l ∷ ls) = by (begins_table l) (begins_end l) (table_d l) (trailer_d l) (pieces_begin ls)
  where
    by : (t e : Bool) → Decides (TableLine l) t → Decides (TrailerLine l) e →
        BeginsWith PartLine (flat (cut ls).pieces) → BeginsWith PartLine (flat (put t e l (cut ls)).pieces)
    by true e (holds p) q ih = this_line (inl p)
    by false true p (holds q) ih = this_line (inr q)
    by false false p q ih = ih

front_first : (ls : List Bytes) → FirstAfter PartLine (cut ls).front (flat (cut ls).pieces) ls
front_first ls = record { whole = sym (cut_whole ls); none_before = front_none ls; begins = pieces_begin ls }

-- the header's lines are exactly those before the first `tbl` or `eof` line
pub header_exactly : (s : Bytes) (header : List Bytes) → header_lines s ≡ header ↔ HeaderOf s header
unfolding header_lines
header_exactly s header =
    (λ e. record { rest = flat (cut (lines s)).pieces; first = rw e at (front_first (lines s)) }, λ h. (first_one (front_first (lines s)) h.first).0)

-- the trailer

end_first : (ls : List Bytes) → (before : List Bytes) × FirstAfter TrailerLine before (from_end ls) ls
unfolding from_end
end_first [] = ([], record { whole = refl; none_before = none_left; begins = no_line })
end_first (l ∷ ls) = by (begins_end l) (trailer_d l) (end_first ls)
  where
    by : (b : Bool) → Decides (TrailerLine l) b → (before : List Bytes) × FirstAfter TrailerLine before (from_end ls) ls →
        (before : List Bytes) × FirstAfter TrailerLine before (pick b (l ∷ ls) (from_end ls)) (l ∷ ls)
    by true (holds p) ih = ([], record { whole = refl; none_before = none_left; begins = this_line p })
    by false (fails n) ih =
        let f = ih.1 in
        (l ∷ ih.0, record { whole = ap (λ (x : List Bytes). l ∷ x) f.whole; none_before = one_more n f.none_before; begins = f.begins })

-- the trailer's lines are exactly the first `eof` line and all after it
pub trailer_exactly : (s : Bytes) (trailer : List Bytes) → trailer_lines s ≡ trailer ↔ TrailerOf s trailer
unfolding trailer_lines
trailer_exactly s trailer =
    let x = end_first (lines s) in
    (λ e. record { before = x.0; first = rw e at x.1 }, λ t. (first_one x.1 t.first).1)

-- the sections among lines that begin at a place

among : ℕ → List Bytes → List Section
among at ls = placed (at + length (joined (cut ls).front)) (cut ls).pieces

-- the one that begins at the first line, if it is a `tbl` line, and those after it
abbrev from_line : Bool → ℕ → Bytes → List Bytes → List Section
from_line b at l ls = pick b (record { place = at; lines = l ∷ (cut ls).front } ∷ among (at + length l) ls) (among (at + length l) ls)

among_step : (at : ℕ) (l : Bytes) (ls : List Bytes) → among at (l ∷ ls) ≡ from_line (begins_table l) at l ls
unfolding among cut put placed joined
among_step at l ls = by (begins_table l) (begins_end l)
  where
    f : List Bytes
    f = (cut ls).front

    further : at + length (l ++ joined f) ≡ at + length l + length (joined f)
    further = omega (arith, length-append l (joined f))

    by : (t e : Bool) →
        placed (at + length (joined (put t e l (cut ls)).front)) (put t e l (cut ls)).pieces ≡ from_line t at l ls
    by true e = rw (add-zero at, further)
    by false true = rw (add-zero at, further)
    by false false = rw further

-- a section among such lines
record Within (at : ℕ) (ls : List Bytes) (x : Section) : Type 0 where
  pub before : List Bytes
  pub first : Bytes
  pub others : List Bytes
  pub after : List Bytes
  pub rest : List Bytes
  pub whole : ls ≡ before ++ (first ∷ after)
  pub begins : TableLine first
  pub runs : FirstAfter PartLine others rest after
  pub lines : x.lines ≡ first ∷ others
  pub place : x.place ≡ at + length (joined before)

within_later : (at : ℕ) (l : Bytes) {ls : List Bytes} (x : Section) → Within (at + length l) ls x → Within at (l ∷ ls) x
unfolding joined
within_later at l x w =
    record {
      before = l ∷ w.before;
      first = w.first;
      others = w.others;
      after = w.after;
      rest = w.rest;
      whole = ap (λ (z : List Bytes). l ∷ z) w.whole;
      begins = w.begins;
      runs = w.runs;
      lines = w.lines;
      place = let p = w.place in omega (arith, length-append l (joined w.before));
    }

among_each : (at : ℕ) (ls : List Bytes) → Every (Within at ls) (among at ls)
unfolding among cut placed joined
among_each at [] = none_left
among_each at (l ∷ ls) = rw (among_step at l ls) (by (begins_table l) (table_d l) (every_map (within_later at l) (among_each (at + length l) ls)))
  where
    here : TableLine l → Within at (l ∷ ls) (record { place = at; lines = l ∷ (cut ls).front })
    here p =
        record {
          before = [];
          first = l;
          others = (cut ls).front;
          after = ls;
          rest = flat (cut ls).pieces;
          whole = refl;
          begins = p;
          runs = front_first ls;
          lines = refl;
          place = sym (add-zero at);
        }

    by : (b : Bool) → Decides (TableLine l) b → Every (Within at (l ∷ ls)) (among (at + length l) ls) →
        Every (Within at (l ∷ ls)) (from_line b at l ls)
    by true (holds p) ih = one_more (here p) ih
    by false n ih = ih

section_is : (x : Section) {at : ℕ} {ls : List Bytes} → x.place ≡ at → x.lines ≡ ls → x ≡ record { place = at; lines = ls }
section_is x p l = rw (← p, ← l)

among_all : (at : ℕ) (ls before : List Bytes) {first : Bytes} {others rest after : List Bytes} (x : Section) → ls ≡ before ++ (first ∷ after) → TableLine first →
    FirstAfter PartLine others rest after → x.lines ≡ first ∷ others → x.place ≡ at + length (joined before) → Memᴰ x (among at ls)
unfolding joined
among_all at [] before {first} {after} x w b r l p =
    absurd (let z : 0 ≡ length before + suc (length after) = ap length w ∙ length-append before (first ∷ after) in let y : ⊥ = omega arith in y)
among_all at (k ∷ ls) [] {first} {others} {after} x w b r l p =
    let e : k ≡ first = cc in
    let t : ls ≡ after = cc in
    let f : others ≡ (cut ls).front = rw t (first_one r (front_first after)).0 in
    let i : x.lines ≡ k ∷ (cut ls).front = rw (e, ← f) l in
    rw (among_step at k ls, tested (table_d k) (rw e b)) (Memᴰ.head (section_is x (p ∙ add-zero at) i))
among_all at (k ∷ ls) (c ∷ before) {first} {others} {after} x w b r l p =
    let e : k ≡ c = cc in
    let t : ls ≡ before ++ (first ∷ after) = cc in
    let g = ap length e in
    rw (among_step at k ls) (by (begins_table k) (among_all (at + length k) ls before x t b r l (omega (arith, length-append c (joined before)))))
  where
    by : (b : Bool) → Memᴰ x (among (at + length k) ls) → Memᴰ x (from_line b at k ls)
    by true m = Memᴰ.tail m
    by false m = m

-- a `tbl` line has bytes
table_some : (l : Bytes) → TableLine l → 0 < length l
unfolding command content content_size until
table_some [] p = absurd (let z : ⊥ = omega arith in z)
table_some (b ∷ l) p = omega arith

among_order : (at : ℕ) (ls : List Bytes) → InOrder (among at ls)
unfolding among cut placed
among_order at [] = no_section
among_order at (l ∷ ls) = rw (among_step at l ls) (by (begins_table l) (table_d l) (among_order (at + length l) ls))
  where
    later : TableLine l → (x : Section) → Within (at + length l) ls x → at < x.place
    later p x w = let e = w.place in omega (arith, table_some l p)

    by : (b : Bool) → Decides (TableLine l) b → InOrder (among (at + length l) ls) → InOrder (from_line b at l ls)
    by true (holds p) ih = before_all (every_map (later p) (among_each (at + length l) ls)) ih
    by false n ih = ih

-- sections in order are the same if each of the one stands among the other

in_order_same : (xs ys : List Section) → InOrder xs → InOrder ys →
    ((x : Section) → Memᴰ x xs → Memᴰ x ys) → ((y : Section) → Memᴰ y ys → Memᴰ y xs) → xs ≡ ys
in_order_same [] [] i j f g = refl
in_order_same [] (y ∷ ys) i j f g = absurd (Memᴰ.not-nil (g y (Memᴰ.head refl)))
in_order_same (x ∷ xs) [] i j f g = absurd (Memᴰ.not-nil (f x (Memᴰ.head refl)))
in_order_same (x ∷ xs) (y ∷ ys) (before_all a i) (before_all b j) f g =
    let t = in_order_same xs ys i j (λ z m. on m (Memᴰ.cases_cons (f z (Memᴰ.tail m)))) (λ z m. back m (Memᴰ.cases_cons (g z (Memᴰ.tail m)))) in
    let h = heads in
    cc
  where
    heads : x ≡ y
    heads = by (Memᴰ.cases_cons (f x (Memᴰ.head refl))) (Memᴰ.cases_cons (g y (Memᴰ.head refl)))
      where
        by : (x ≡ y) ⊎ Memᴰ x ys → (y ≡ x) ⊎ Memᴰ y xs → x ≡ y
        by (inl e) q = e
        by (inr m) (inl e) = sym e
        by (inr m) (inr k) = absurd (let u = every_at ys b m in let v = every_at xs a k in let z : ⊥ = omega arith in z)

    on : {z : Section} → Memᴰ z xs → (z ≡ y) ⊎ Memᴰ z ys → Memᴰ z ys
    on m (inl e) = absurd (let u = every_at xs a m in let v = ap (λ (w : Section). w.place) (e ∙ sym heads) in let z : ⊥ = omega arith in z)
    on m (inr k) = k

    back : {z : Section} → Memᴰ z ys → (z ≡ x) ⊎ Memᴰ z xs → Memᴰ z xs
    back m (inl e) = absurd (let u = every_at ys b m in let v = ap (λ (w : Section). w.place) (e ∙ heads) in let z : ⊥ = omega arith in z)
    back m (inr k) = k

-- the sections of a file

section_said : (s : Bytes) (x : Section) → Within 0 (lines s) x → SectionOf s x
section_said s x w =
    record {
      before = w.before;
      first = w.first;
      others = w.others;
      after = w.after;
      rest = w.rest;
      whole = w.whole;
      begins = w.begins;
      runs = w.runs;
      lines = w.lines;
      place = w.place ∙ zero-add (length (joined w.before));
    }

all_sections : (s : Bytes) → SectionsOf s (sections s)
unfolding sections header_lines among
all_sections s =
    rw (← zero-add (length (joined (cut (lines s)).front)))
    record {
      each = every_map (section_said s) (among_each 0 (lines s));
      all = λ x w. among_all 0 (lines s) w.before x w.whole w.begins w.runs w.lines (w.place ∙ sym (zero-add (length (joined w.before))));
      order = among_order 0 (lines s);
    }

-- the sections of a file are exactly those that begin at its `tbl` lines, in order
pub sections_exactly : (s : Bytes) (xs : List Section) → sections s ≡ xs ↔ SectionsOf s xs
sections_exactly s xs =
    let a = all_sections s in (
      λ e. rw e at a,
      λ b. in_order_same (sections s) xs a.order b.order
          (λ x m. b.all x (every_at (sections s) a.each m)) (λ x m. a.all x (every_at xs b.each m)),
    )

-- lines between an `eof` line and the next `tbl` line

-- where none of a is such a line, and one follows b, b goes on at least as far as a
prefix_of : {P : Bytes → Type 0} {p : Bytes} (a b r q : List Bytes) → a ++ r ≡ b ++ (p ∷ q) → Every (λ l. ¬ P l) a → P p → (c : List Bytes) × (b ≡ a ++ c)
prefix_of [] b r q e n h = (b, refl)
prefix_of {P} {p} (l ∷ a) [] r q e (one_more k n) h = absurd (k (let z : p ≡ l = cc in rw z at h))
prefix_of {p} (l ∷ a) (k ∷ b) r q e (one_more g n) h =
    let z : l ≡ k = cc in
    let t : a ++ r ≡ b ++ (p ∷ q) = cc in
    let i = prefix_of a b r q t n h in
    let y = i.1 in
    (i.0, cc)

-- a section's lines stand before such lines or behind them
module _ (eof first : Bytes) (between others rest r : List Bytes) (ends : TrailerLine eof) (no_table : Every (λ l. ¬ TableLine l) between)
    (begins : TableLine first) (runs : Every (λ l. ¬ PartLine l) others) where
  apart : (before b : List Bytes) → before ++ (eof ∷ (between ++ rest)) ≡ b ++ (first ∷ (others ++ r)) →
      ((c : List Bytes) × (before ≡ b ++ ((first ∷ others) ++ c))) ⊎ ((c : List Bytes) × (b ≡ before ++ ((eof ∷ between) ++ c)))
  apart [] [] e =
      let y : eof ≡ first = cc in
      let z = ap (λ (l : Bytes). command (content l)) y in
      absurd (let x : ⊥ = omega arith in x)
  apart [] (k ∷ b) e =
      let t : between ++ rest ≡ b ++ (first ∷ (others ++ r)) = cc in
      let i = prefix_of {P = TableLine} between b rest (others ++ r) t no_table begins in
      let y = i.1 in
      inr (i.0, cc)
  apart (k ∷ before) [] e =
      let t : others ++ r ≡ before ++ (eof ∷ (between ++ rest)) = cc in
      let i = prefix_of {P = PartLine} others before r (between ++ rest) t runs (inr ends) in
      let y = i.1 in
      inl (i.0, cc)
  apart (k ∷ before) (m ∷ b) e =
      let z : k ≡ m = cc in
      let t : before ++ (eof ∷ (between ++ rest)) ≡ b ++ (first ∷ (others ++ r)) = cc in
      by z (apart before b t)
    where
      by : k ≡ m → ((c : List Bytes) × (before ≡ b ++ ((first ∷ others) ++ c))) ⊎ ((c : List Bytes) × (b ≡ before ++ ((eof ∷ between) ++ c))) →
          ((c : List Bytes) × (k ∷ before ≡ m ∷ b ++ ((first ∷ others) ++ c))) ⊎ ((c : List Bytes) × (m ∷ b ≡ k ∷ before ++ ((eof ∷ between) ++ c)))
      by z (inl x) = let y = x.1 in inl (x.0, cc)
      by z (inr x) = let y = x.1 in inr (x.0, cc)

-- "Lines after an `eof` and before a further `tbl` belong to no section."
pub after_eof_outside : (s : Bytes) (before : List Bytes) (eof : Bytes) (between : List Bytes) → AfterEof s before eof between →
    Every (Outside (length (joined before)) (length (joined (before ++ (eof ∷ between))))) (sections s)
after_eof_outside s before eof between a = every_map outside (all_sections s).each
  where
    size : List Bytes → ℕ
    size ls = length (joined ls)

    outside : (x : Section) → SectionOf s x → Outside (length (joined before)) (length (joined (before ++ (eof ∷ between)))) x
    outside x w =
        by (apart eof w.first between w.others a.rest w.rest a.begins a.no_table w.begins w.runs.none_before before w.before
        (sym a.whole ∙ (w.whole ∙ ap (λ (z : List Bytes). w.before ++ (w.first ∷ z)) w.runs.whole)))
      where
        by : ((c : List Bytes) × (before ≡ w.before ++ ((w.first ∷ w.others) ++ c))) ⊎ ((c : List Bytes) × (w.before ≡ before ++ ((eof ∷ between) ++ c))) →
            Outside (length (joined before)) (length (joined (before ++ (eof ∷ between)))) x
        by (inl y) =
            let own = w.first ∷ w.others in
            let p = w.place in
            let l = ap size w.lines in
            let b = ap size y.1 in
            ends_before (omega (arith, joined_length w.before (own ++ y.0), joined_length own y.0))
        by (inr y) =
            let these = eof ∷ between in
            let p = w.place in
            let b = ap size y.1 in
            begins_after (omega (arith, joined_length before these, joined_length before (these ++ y.0), joined_length these y.0))
