-- Sections passed in which no key repeats, and the lines passed of one whose keys rise. Assumes nothing.
use mathlib.Core.Path.{◌≡◌, refl, sym, ◌∙◌}
use mathlib.Core.Bool.{Bool, true, false}
use mathlib.Core.List.{List, []}
use Prim.Native.Nat.{ℕ, ◌+◌, ◌-◌, ◌<◌, ◌≤◌}
use native.Mathlib.Omega.{arith}
use borrow.Author.Count.{below_more}
use borrow.Author.Tests.{ne_eqb}
use lib.ListN.{length, take, drop}
use Rattle.page.specs.Bytes.{Bytes}
use Rattle.page.specs.Lines.{lines}
use Rattle.std.specs.Prelude.{Ok, Err}
use Rattle.page.specs.Answers.{refusal, answered}
use Rattle.page.specs.File.{repeats, first_record, filed_of}
use Rattle.page.proofs.LineLaws.{line_size}
use Rattle.choices.specs.declared.Choice.{Choice}
use Rattle.tables.specs.Keys.{by_key}
use Rattle.scans.specs.Scan.{again, rises, raised, Topped, first_line}
use Rattle.scans.proofs.ScanLaws.{passed_lines}
use Rattle.scans.proofs.TopLaws.{topped_none, rise_new, rise_topped}
use Rattle.seats.specs.declared.seating.Seat.{Seat}
use Rattle.seats.specs.declared.seating.Seats.{Seats}
use Rattle.arrangement.specs.Orders.{held}
use Rattle.choices.specs.Choices.{key_choice}
use Rattle.seats.specs.Seating.{seat_at, Ready}
use Rattle.seats.specs.Faults.{repeat_number, seat_key, scan_end, repeat_line}
use Rattle.seats.proofs.RepeatLaws.{number_some, key_is, repeat_is, repeats_none, repeats_at}
use Rattle.rounds.specs.Rounds.{again_at}
use Rattle.rounds.proofs.NumberLaws.{Stands, stands_first, stands_next, stands_end, again_here}
use Rattle.repeats.specs.Parts.{scan_part}
use Rattle.repeats.proofs.FirstLaws.{repeat_none}

-- no key repeats in the first n sections
pub record Clean (s : Bytes) (r : Seats) (second : Bool) (n : ℕ) : Type 0 where
  pub none : (m : ℕ) → m < n → repeat_line s (seat_at r m) (seat_key s second (seat_at r m)) ≡ 0

pub clean_first : (s : Bytes) (r : Seats) (second : Bool) → Clean s r second 0
clean_first s r second = record { none = λ m h. absurd (omega arith) }

module _ (s : Bytes) (r : Seats) (z : Ready s r) (second : Bool) (i : ℕ) (d : Clean s r second i) where
  pub clean_all : r.count ≤ i → answered (first_record (repeat_number second) (repeats (by_key second)) [] (filed_of s)) (tt {0}) ≡ Ok (tt {0})
  unfolding answered
  clean_all h = rw (repeats_none s r z second (λ m l. d.none m (omega arith)))

  module _ (h : i < r.count) (a : Seat) (e : a ≡ seat_at r i) (q : Choice) (x : q ≡ key_choice (by_key second) a.table (held a.table a.order)) (w : Bytes) (y : w ≡ scan_part s a q) where
    part_line : (n : ℕ) → first_line (again q) [] 0 (lines w) ≡ n → repeat_line s (seat_at r i) (seat_key s second (seat_at r i)) ≡ n
    unfolding scan_part
    part_line n f = repeat_is s r z i h a e second q (scan_end a q) n (key_is s r z i h a e second q x) refl (rw y at f)

    pub clean_more : first_line (again q) [] 0 (lines w) ≡ 0 → Clean s r second (i + 1)
    clean_more f = record { none = below_more _ _ d.none (part_line 0 f) }

    pub repeats_here : (n : ℕ) → 0 < n → first_line (again q) [] 0 (lines w) ≡ n
        → answered (first_record (repeat_number second) (repeats (by_key second)) [] (filed_of s)) (tt {0}) ≡ Err (refusal (repeat_number second) (i + 1) n)
    unfolding answered
    repeats_here n g f =
        let k : n ≡ n - 1 + 1 = omega arith in
        let o : first_record (repeat_number second) (repeats (by_key second)) [] (filed_of s) ≡ refusal (repeat_number second) (i + 1) n =
        rw k (repeats_at s r z second i (n - 1) h d.none (part_line (n - 1 + 1) (f ∙ k))) in
        rw (o, ne_eqb (repeat_number second) 0 (number_some second))

-- lines passed of which none is a record whose key stands before it
pub record Fresh (q : Choice) (w : Bytes) (at : ℕ) : Type 0 where
  pub count : ℕ
  pub stands : Stands w at count
  pub new : (m : ℕ) → m < count → again_at q (lines w) m ≡ false

fresh_first : (q : Choice) (w : Bytes) → Fresh q w 0
fresh_first q w = record { count = 0; stands = stands_first w; new = λ m h. absurd (omega arith) }

fresh_next : (q : Choice) (w : Bytes) (at e : ℕ) → Fresh q w at → at < length w → e ≡ at + line_size (drop at w) → again q (lines (take at w)) (take (e - at) (drop at w)) ≡ false → Fresh q w e
fresh_next q w at e f h x y =
    record {
      count = f.count + 1;
      stands = stands_next w at f.count e f.stands h x;
      new = below_more _ _ f.new (again_here w at f.count e f.stands h x q false (sym y));
    }

fresh_end : (q : Choice) (w : Bytes) (at : ℕ) → Fresh q w at → length w ≤ at → first_line (again q) [] 0 (lines w) ≡ 0
fresh_end q w at f h = repeat_none q (lines w) (λ m k. f.new m (omega (arith, stands_end w at f.count f.stands h)))

-- the lines before a place rise up to the key k
pub record Rising (q : Choice) (w : Bytes) (k : List ℕ) (at : ℕ) : Type 0 where
  pub fresh : Fresh q w at
  pub topped : Topped q k (lines (take at w))

pub rising_first : (q : Choice) (w : Bytes) (k : List ℕ) → Rising q w k 0
unfolding lines
rising_first q w k = record { fresh = fresh_first q w; topped = topped_none q k }

module _ (q : Choice) (w : Bytes) (k : List ℕ) (at : ℕ) (p : Rising q w k at) where
  pub rising_next : (e : ℕ) → at < length w → e ≡ at + line_size (drop at w) → (top : List ℕ)
      → (rises q k (take (e - at) (drop at w)) ≡ true) × (top ≡ raised q k (take (e - at) (drop at w))) → Rising q w top e
  rising_next e h x top g =
      record {
        fresh = fresh_next q w at e p.fresh h x (rise_new q k _ _ p.topped g.0);
        topped = rw (passed_lines w at e h x p.fresh.stands.starts, g.1) (rise_topped q k _ _ p.topped g.0);
      }

  pub rising_end : length w ≤ at → first_line (again q) [] 0 (lines w) ≡ 0
  rising_end h = fresh_end q w at p.fresh h
