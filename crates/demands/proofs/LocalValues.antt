-- Demand 3 for what is handed out: a value of a section after the run is the same, with its text as much further on as the run is longer;
-- one of a section closed before it is the same altogether. Assumes nothing.
use mathlib.Core.Path.{◌≡◌, refl, ap}
use mathlib.Core.Bool.{Bool, true, false}
use mathlib.Core.List.{List, [], ◌∷◌, ◌++◌, map}
use Prim.Native.Nat.{ℕ, zero, suc, ◌+◌, ◌-◌, ◌<◌, ◌≤◌}
use native.Mathlib.Omega.{arith}
use borrow.Author.Tests.{ne_eqb, le-ltb}
use lib.Dec.{eqb}
use lib.ListN.{length, get_or, length-append, length-map}
use Rattle.page.specs.Bytes.{Bytes, pick, until}
use Rattle.page.specs.Lines.{lines, content, command, semicolon, Rec}
use Rattle.page.specs.Cut.{Section, cut, sections}
use Rattle.page.specs.Tables.{column_at}
use Rattle.page.specs.Order.{Order, place}
use Rattle.page.specs.Head.{latin_of}
use Rattle.page.specs.Marks.{owner_of}
use Rattle.page.specs.Section.{outcome}
use Rattle.page.specs.Records as Records
use Rattle.page.specs.Records.{entries, entries_of, records_of, waits, table_index, order_in}
use Rattle.page.specs.Places.{Standing, stands, record_at, this_or}
use Rattle.page.specs.File.{too_long, header_refusal}
use Rattle.page.specs.Reading.{header_of, no_section, outside, section_at, find_refusal, section_of, value_refusal, later_field, field_at, valued, value_in, record_of, value_at, value_of}
use Rattle.page.specs.declared.Field.{Field}
use Rattle.page.specs.declared.Field.TheVariants as F
use Rattle.page.specs.declared.Owner.{Owner}
use Rattle.page.specs.declared.Value.TheVariants as Va
use Rattle.page.proofs.LineLaws.{Whole}
use Rattle.round.specs.Local.{Run, closed, later, reached, later_value}
use Rattle.round.proofs.Local.{local_header, local_sections, closed_same, closed_row, later_at}

-- a record's line k bytes further on
abbrev later_standing : ℕ → Standing → Standing
later_standing k x = record { at = k + x.at; rest = x.rest; mark = x.mark }

stands_later : (k at : ℕ) (l : Bytes) (m : ℕ) → stands (k + at) l m ≡ later_standing k (stands at l m)
unfolding stands
stands_later k at l m = let z : k + at + until semicolon (content l) + 1 ≡ k + (at + until semicolon (content l) + 1) = omega arith in rw z

-- t, o, n: the table, order and line of the entries, on which their number does not depend
record_later : (k t : ℕ) (o : Order) (n r m at : ℕ) (ls : List Bytes) → r < length (entries t o m n ls) → record_at r m (k + at) ls ≡ later_standing k (record_at r m at ls)
unfolding record_at entries
record_later k t o n r m at [] h = absurd (omega arith)
record_later k t o n r m at (l ∷ ls) h =
    by (λ q i. record_later k t o (suc n) q i (at + length l) ls) (eqb (command (content l)) Rec) r h
  where
    shift : k + at + length l ≡ k + (at + length l)
    shift = omega arith

    by : ((q i : ℕ) → q < length (entries t o i (suc n) ls) → record_at q i (k + (at + length l)) ls ≡ later_standing k (record_at q i (at + length l) ls)) →
        (b : Bool) (r : ℕ) →
        r < length (pick b (record { line = suc n; values = Records.record_in t o m (content l) } ∷ entries t o 0 (suc n) ls) (entries t o (waits m (content l)) (suc n) ls)) →
        pick b (this_or r (stands (k + at) l m) (λ q. record_at q 0 (k + at + length l) ls)) (record_at r (waits m (content l)) (k + at + length l) ls)
        ≡ later_standing k (pick b (this_or r (stands at l m) (λ q. record_at q 0 (at + length l) ls)) (record_at r (waits m (content l)) (at + length l) ls))
    by ih true zero h = stands_later k at l m
    by ih true (suc q) h = rw shift (ih q 0 (omega arith))
    by ih false r h = rw shift (ih r (waits m (content l)) h)

add_three : (k a y : ℕ) → k + a + y ≡ k + (a + y)
add_three k a y = omega arith

field_later : (k at : ℕ) (w : Owner) (x : Field) → valued w (later_field (k + at) x) ≡ later_value k (valued w (later_field at x))
unfolding later_value
field_later k at w (F.Text sp) = ap Va.Words (rw (add_three k at sp.from, add_three k at sp.to))
field_later k at w (F.Number n) = refl
field_later k at w F.Missing = refl
field_later k at w (F.Refused v) = refl

value_later : (k t : ℕ) (o : Order) (x : Standing) (f : ℕ) → value_in t o (later_standing k x) f ≡ later_value k (value_in t o x f)
unfolding value_in
value_later k t o x f =
    field_later k x.at (owner_of x.mark (suc (place (f - 1) o))) (field_at (column_at t (f - 1)) x.rest (place (f - 1) o))

-- a record that the section hands out
within : (latin : Bool) (ls : List Bytes) (r : ℕ) → r < length (records_of latin ls) → r < length (entries (table_index ls) (order_in ls) 0 0 ls)
unfolding records_of entries_of
within latin ls r h = by (eqb (outcome latin ls).verdict 0) (rw length-map at h)
  where
    by : (b : Bool) → r < length (pick b (entries (table_index ls) (order_in ls) 0 0 ls) []) → r < length (entries (table_index ls) (order_in ls) 0 0 ls)
    by true h = h
    by false h = absurd (omega arith)

pub later_value_at : (latin : Bool) (k : ℕ) (x : Section) (r f : ℕ) → 0 < r → r ≤ length (records_of latin x.lines) →
    value_at (later k x) r f ≡ later_value k (value_at x r f)
unfolding value_at record_of later
later_value_at latin k x r f p h =
    rw (record_later k (table_index x.lines) (order_in x.lines) 0 (r - 1) 0 x.place x.lines (within latin x.lines (r - 1) (omega arith)))
    (value_later k (table_index x.lines) (order_in x.lines) (record_at (r - 1) 0 x.place x.lines) f)

module _ (a m n b : Bytes) (wa : Whole a) (ha : 0 < length (cut (lines a)).pieces) (r : Run m b) (q : Run n b) where
  -- a value of a section of b, in either file
  pub later_values : (i j f : ℕ) → i < length (sections b) → 0 < j → j ≤ length (records_of (latin_of a) (get_or (sections b) i no_section).lines) →
      (value_at (section_at (a ++ (m ++ b)) (length (closed a) + length (reached a m b) + suc i)) j f
      ≡ later_value (length a + length m) (value_at (get_or (sections b) i no_section) j f))
      × (value_at (section_at (a ++ (n ++ b)) (length (closed a) + length (reached a n b) + suc i)) j f
      ≡ later_value (length a + length n) (value_at (get_or (sections b) i no_section) j f))
  later_values i j f h p l = (
    rw (later_at a m b wa ha r i h) (later_value_at (latin_of a) (length a + length m) (get_or (sections b) i no_section) j f p l),
    rw (later_at a n b wa ha q i h) (later_value_at (latin_of a) (length a + length n) (get_or (sections b) i no_section) j f p l),
  )

  module _ (short : too_long (a ++ (m ++ b)) ≡ too_long (a ++ (n ++ b))) where
    pub same_header : header_refusal (a ++ (m ++ b)) ≡ header_refusal (a ++ (n ++ b))
    unfolding header_refusal
    same_header = rw (short, local_header a m b wa ha r, local_header a n b wa ha q)

    pub same_header_of : header_of (a ++ (m ++ b)) ≡ header_of (a ++ (n ++ b))
    unfolding header_of
    same_header_of = rw (same_header, local_header a m b wa ha r, local_header a n b wa ha q)

    -- a section closed before the run: the calls that read it answer the same
    module _ (i : ℕ) (p : 0 < i) (h : i ≤ length (closed a)) where
      inside : (c : Bytes) → Run c b → outside i (length (sections (a ++ (c ++ b)))) ≡ false
      unfolding outside
      inside c w =
          let z : i ≤ length (sections (a ++ (c ++ b))) =
          rw (local_sections a c b wa ha w) (omega (arith, length-append (closed a) (reached a c b ++ map (later (length a + length c)) (sections b)))) in
          rw (ne_eqb i 0 (λ (e : i ≡ 0). omega arith), le-ltb (length (sections (a ++ (c ++ b)))) i z)

      same_find : find_refusal (a ++ (m ++ b)) i ≡ find_refusal (a ++ (n ++ b)) i
      unfolding find_refusal
      same_find = rw (same_header, inside m r, inside n q)

      pub same_section_of : section_of (a ++ (m ++ b)) i ≡ section_of (a ++ (n ++ b)) i
      unfolding section_of
      same_section_of = rw (same_find, closed_row a m n b wa ha r q i p h)

      pub same_value_of : (j f : ℕ) → value_of (a ++ (m ++ b)) i j f ≡ value_of (a ++ (n ++ b)) i j f
      unfolding value_of value_refusal
      same_value_of j f = rw (same_find, closed_row a m n b wa ha r q i p h, closed_same a m n b wa ha r q i p h)
