-- Demand 3, after the run: a table that begins there is a table of both files, as much further on as the run is longer, and the calls answer the
-- same of it but for its place. Assumes nothing.
use Rattle.std.specs.Prelude.{Err, Ok}
use mathlib.Core.Path.{◌≡◌, refl, ap, sym, ◌∙◌}
use mathlib.Core.Bool.{Bool, true, false, false≢true}
use mathlib.Core.List.{List, ◌++◌}
use Prim.Native.Nat.{ℕ, suc, ◌+◌, ◌-◌, ◌<◌}
use native.Mathlib.Omega.{arith}
use lib.Dec.{eqb}
use lib.ListN.{length, get_or, drop}
use Rattle.page.specs.Bytes.{Bytes, pick}
use Rattle.page.specs.Cut.{Section, sections}
use Rattle.page.specs.Lines.{Rec}
use Rattle.page.specs.Records.{table_index, order_in}
use Rattle.page.specs.Rules.{times}
use Rattle.page.specs.Answers.{answered}
use Rattle.page.specs.Head.{latin_of}
use Rattle.page.specs.File.{row_of, row_given}
use Rattle.page.specs.Reading.{no_section, section_at, row_at, find_refusal, section_of, verdict_of, value_refusal, record_of, value_at, value_of}
use Rattle.page.specs.Handing.{text_refusal, place_of, own_text, text_owner, copied, text_out, text_after, cells_of, table_refusal, cells_refusal, table_of, cells_after}
use Rattle.page.specs.Writing.{put_refusal, put_after}
use Rattle.page.specs.declared.Refusal.{Refusal}
use Rattle.round.specs.Local.{closed, later, reached, SaysSame}
use Rattle.demands.specs.Damage.{file, Replaced, After, Shifted, Moved, SameRow, SameValue, SameCells, SameRefusal, SameListed, SameGot, SameHanded, SameTable, a_table, no_table}
use Rattle.round.proofs.Local.{local_latin, later_at, says_same}
use Rattle.round.proofs.LocalPlaces.{local_counted, beyond_exactly, place_once}
use Rattle.grammar.proofs.Own.{row_count}
use Rattle.calls.proofs.CallNumbers.{value_given}
use Rattle.demands.proofs.DamageBefore.{inside, same_header}
use Rattle.demands.proofs.DamageSame.{one_number, same_earlier, same_if, same_heading, same_verdict, same_listed, same_got, same_handed, same_value_in, same_record, same_size, same_cells_in, SaysAlike, record_says}

-- the one file in place of the other
pub replaced_back : {a m n b : Bytes} → Replaced a m n b → Replaced a n m b
replaced_back d = record { whole = d.whole; begun = d.begun; old = d.new; new = d.old; limit = sym d.limit }

pub moved_back : {a m n b : Bytes} {i j : ℕ} → Moved a m n b i j → Moved a n m b j i
moved_back h = record { one = h.other; other = h.one; place = sym h.place }

-- one section of the other file, by its place
pub moved_once : {a m n b : Bytes} {i j k : ℕ} → Moved a m n b i j → Moved a m n b i k → j ≡ k
unfolding row_at row_of row_given section_at
moved_once {a} {m} {n} {b} {i} {j} {k} h g =
    let e : j - 1 ≡ k - 1 =
    place_once (file a n b) (j - 1) (k - 1) (omega (arith, h.other.there)) (omega (arith, g.other.there)) (omega (arith, h.place, g.place)) in
    omega (arith, h.other.there, g.other.there)

-- a section after the run is one of b's, as far on as a and the run are long
record OfRest (a m b : Bytes) (i : ℕ) : Type 0 where
  pub which : ℕ
  pub there : which < length (sections b)
  pub section : section_at (file a m b) i ≡ later (length a + length m) (get_or (sections b) which no_section)

module _ (a m n b : Bytes) (d : Replaced a m n b) where
  of_rest : (i : ℕ) → After a m (file a m b) i → OfRest a m b i
  unfolding row_at row_of row_given
  of_rest i h =
      let e = (beyond_exactly a m b d.whole d.begun d.old i h.there.0 h.there.1).1 h.begins in
      let k : ℕ = i - suc (length (closed a) + length (reached a m b)) in
      let z : i ≡ length (closed a) + length (reached a m b) + suc k = omega arith in
      let l : k < length (sections b) = omega (arith, h.there, local_counted a m b d.whole d.begun d.old) in
      record { which = k; there = l; section = ap (section_at (file a m b)) z ∙ later_at a m b d.whole d.begun d.old k l }

module _ (a m n b : Bytes) (d : Replaced a m n b) where
  -- each section after the run is there in the other file
  pub after_there : (i : ℕ) → After a m (file a m b) i → (j : ℕ) × Moved a m n b i j
  unfolding row_at row_of row_given later
  after_there i h =
      let o = of_rest a m n b d i h in
      let j : ℕ = length (closed a) + length (reached a n b) + suc o.which in
      let c = local_counted a n b d.whole d.begun d.new in
      let p : (section_at (file a n b) j).place ≡ length a + length n + (get_or (sections b) o.which no_section).place =
      ap (λ (x : Section). x.place) (later_at a n b d.whole d.begun d.new o.which o.there) in
      let q : (section_at (file a m b) i).place ≡ length a + length m + (get_or (sections b) o.which no_section).place =
      ap (λ (x : Section). x.place) o.section in
      (j, record { one = h; other = record { there = (omega arith, omega (arith, c, o.there)); begins = omega (arith, p) }; place = omega (arith, p, q) })

  module _ (i j : ℕ) (h : Moved a m n b i j) where
    abbrev x : Section
    x = section_at (file a m b) i

    abbrev y : Section
    y = section_at (file a n b) j

    one : OfRest a m b i
    one = of_rest a m n b d i h.one

    other : OfRest a n b j
    other = of_rest a n m b (replaced_back d) j h.other

    same_which : one.which ≡ other.which
    unfolding row_at row_of row_given later
    same_which =
        let p : x.place ≡ length a + length m + (get_or (sections b) one.which no_section).place = ap (λ (z : Section). z.place) one.section in
        let q : y.place ≡ length a + length n + (get_or (sections b) other.which no_section).place = ap (λ (z : Section). z.place) other.section in
        place_once b one.which other.which one.there other.there (omega (arith, p, q, h.place))

    same_lines : x.lines ≡ y.lines
    unfolding later
    same_lines =
        ap (λ (z : Section). z.lines) one.section
        ∙ (ap (λ (k : ℕ). (get_or (sections b) k no_section).lines) same_which ∙ sym (ap (λ (z : Section). z.lines) other.section))

    -- over demand 2's readings: the same lines, outcome and records
    pub after_says : SaysSame (file a m b) (section_at (file a m b) i) (file a n b) (section_at (file a n b) j)
    after_says = says_same a m n b d.whole d.begun d.old d.new x y same_lines

    same_place : Shifted (length m) (length n) x.place y.place
    unfolding row_at row_of row_given
    same_place = h.place

    same_latin : latin_of (file a m b) ≡ latin_of (file a n b)
    same_latin = local_latin a m b d.whole d.begun d.old ∙ sym (local_latin a n b d.whole d.begun d.new)

    same_row : SameRow (length m) (length n) (row_at (file a m b) i) (row_at (file a n b) j)
    unfolding row_at row_of row_given
    same_row =
        record {
          place = same_place;
          table = rw (same_latin, same_lines);
          length = rw same_lines;
          records = rw (same_latin, same_lines);
          verdict = rw (same_latin, same_lines);
          line = rw (same_latin, same_lines);
        }

    same_find : SameRefusal i j (find_refusal (file a m b) i) (find_refusal (file a n b) j)
    unfolding find_refusal
    same_find =
        rw (same_header a m n b d)
        (same_earlier i j (same_heading i j (file a n b)) (same_if i j 24 (inside (file a m b) i h.one.there ∙ sym (inside (file a n b) j h.other.there))))

    pub after_section : SameListed (length m) (length n) i j (section_of (file a m b) i) (section_of (file a n b) j)
    unfolding section_of
    after_section = same_listed i j same_find same_row

    same_sound : SameRefusal i j (verdict_of i (row_at (file a m b) i)) (verdict_of j (row_at (file a n b) j))
    same_sound = same_verdict i j (row_at (file a m b) i) (row_at (file a n b) j) same_row.verdict same_row.line

    same_value : (r f : ℕ) → SameRefusal i j (value_refusal (file a m b) i r f) (value_refusal (file a n b) j r f)
    unfolding value_refusal
    same_value r f = same_earlier i j same_find (same_earlier i j same_sound (same_if i j 24 (rw (same_row.records, same_lines))))

    pub after_value : (r f : ℕ) → SameGot (length m) (length n) i j (value_of (file a m b) i r f) (value_of (file a n b) j r f)
    unfolding value_of value_at record_of row_at
    after_value r f = same_got i j (same_value r f) values
      where
        ls : List Bytes
        ls = y.lines

        values : (value_refusal (file a m b) i r f).number ≡ 0 →
            SameValue (length m) (length n) (value_at x r f) (value_at y r f)
        values e =
            let g = (value_given (file a m b) i r f).0 e in
            let c : (row_at (file a m b) i).records ≡ times Rec ls =
            row_count (latin_of (file a m b)) x g.sound ∙ ap (times Rec) same_lines in
            rw same_lines
            (same_value_in (length m) (length n) (table_index ls) (order_in ls) f
            (same_record (length m) (length n) (r - 1) 0 x.place y.place ls same_place
            (omega (arith, c, g.record_there))))

    module _ (r f : ℕ) where
      same_text : SameRefusal i j (text_refusal (file a m b) i r f) (text_refusal (file a n b) j r f)
      unfolding text_refusal
      same_text = same_earlier i j (same_value r f) (same_if i j 11 (rw same_lines))

      says : SaysAlike (record_of x r) (record_of y r)
      unfolding record_of
      says = rw same_lines (record_says (r - 1) 0 x.place y.place y.lines)

      same_own : own_text (file a m b) i r f ≡ own_text (file a n b) j r f
      unfolding own_text place_of
      same_own = rw (says.0, same_lines)

      same_owner : text_owner (file a m b) i r f ≡ text_owner (file a n b) j r f
      unfolding text_owner place_of
      same_owner = rw (says.1, same_lines)

      same_put : (room : ℕ) →
          SameRefusal i j (put_refusal (text_refusal (file a m b) i r f) (own_text (file a m b) i r f) room)
          (put_refusal (text_refusal (file a n b) j r f) (own_text (file a n b) j r f) room)
      unfolding put_refusal
      same_put room = same_earlier i j same_text (same_if i j 21 (rw same_own))

      pub after_text : (out : Bytes) →
          SameHanded i j (text_out (file a m b) i r f (length out)) (text_out (file a n b) j r f (length out))
          × (text_after (file a m b) i r f out ≡ text_after (file a n b) j r f out)
      unfolding text_out text_after put_after
      after_text out =
          let c : copied (own_text (file a m b) i r f) (text_owner (file a m b) i r f) ≡ copied (own_text (file a n b) j r f) (text_owner (file a n b) j r f) =
          rw (same_own, same_owner) in
          (same_handed i j (same_put (length out)) c, rw (one_number i j (same_put (length out)), same_own))

    same_cells : SameCells (length m) (length n) (cells_of x) (cells_of y)
    unfolding cells_of
    same_cells =
        let ls : List Bytes = y.lines in
        rw same_lines
        (same_cells_in (length m) (length n) (table_index ls) (order_in ls) 0 x.place y.place ls same_place)

    many : length (cells_of x) ≡ length (cells_of y)
    many = same_size (length m) (length n) same_cells

    same_room : (room : ℕ) → SameRefusal i j (cells_refusal (file a m b) i room) (cells_refusal (file a n b) j room)
    unfolding cells_refusal table_refusal
    same_room room = same_earlier i j (same_earlier i j same_find same_sound) (same_if i j 21 (rw many))

    pub after_table : (lent : List ℕ) → SameTable (length m) (length n) i j lent
        (table_of (file a m b) i (length lent)) (cells_after (file a m b) i lent)
        (table_of (file a n b) j (length lent)) (cells_after (file a n b) j lent)
    unfolding table_of cells_after answered
    after_table lent = by (eqb v.number 0) (eqb w.number 0) (ap (λ (k : ℕ). eqb k 0) (one_number i j (same_room (length lent))))
      where
        v : Refusal
        v = cells_refusal (file a m b) i (length lent)

        w : Refusal
        w = cells_refusal (file a n b) j (length lent)

        xs : List ℕ
        xs = cells_of x

        ys : List ℕ
        ys = cells_of y

        by : (p q : Bool) → p ≡ q →
            SameTable (length m) (length n) i j lent (pick p (Ok (length xs)) (Err v)) (pick p (xs ++ drop (length xs) lent) lent)
            (pick q (Ok (length ys)) (Err w)) (pick q (ys ++ drop (length ys) lent) lent)
        by true true e = rw (← many) (a_table refl (sym many) same_cells)
        by true false e = absurd (false≢true (sym e))
        by false true e = absurd (false≢true e)
        by false false e = no_table (same_room (length lent))
