-- What a call that hands out a table answers, and what it leaves in the lent numbers. Assumes nothing.
use Rattle.std.specs.Prelude.{Err, Ok}
use mathlib.Core.Path.{◌≡◌, refl, ap, sym, ◌∙◌}
use mathlib.Core.Bool.{Bool, true, false}
use mathlib.Core.List.{List, [], ◌∷◌}
use Prim.Native.Nat.{ℕ, suc, ◌+◌, ◌-◌, ◌*◌, ◌≤◌}
use native.Mathlib.Nat.{mul-le-mul}
use native.Mathlib.Omega.{arith}
use borrow.Author.Tests.{ne_eqb}
use lib.Dec.{eqb, ltb}
use lib.ListN.{length, take, drop, length-append}
use Rattle.page.specs.Bytes.{Bytes, pick, until}
use Rattle.page.specs.Lines.{lines, joined, content_size, content, command, Rec}
use Rattle.page.specs.Fields.{fields}
use Rattle.page.specs.Tables.{WIDEST, width}
use Rattle.page.specs.Records.{table_index, atr_in}
use Rattle.page.specs.Rules.{times}
use Rattle.page.specs.Answers.{refusal, sound, earlier, refuse_if, answered}
use Rattle.page.specs.File.{limit, row_given, row_of}
use Rattle.page.specs.Head.{latin_of}
use Rattle.page.specs.Reading.{section_at, row_at, find_refusal, verdict_of}
use Rattle.page.specs.Handing.{cells_in, cells_of, table_refusal, cells_refusal, table_of, cells_after}
use Rattle.page.specs.declared.Row.{Row}
use Rattle.page.specs.declared.Refusal.{Refusal}
use Rattle.arrangement.specs.Orders.{held}
use Rattle.names.specs.Told.{Told}
use Rattle.grammar.proofs.Own.{row_count}
use Rattle.calls.proofs.HandedCells.{cells_count}
use Rattle.cut.specs.Walk.{section_from}
use Rattle.sections.specs.Located.{Begins}
use Rattle.lookups.specs.Lookups.{row_from}
use Rattle.lookups.proofs.LookupLaws.{prefix_lines, order_from}
use Rattle.output.specs.Put.{Put}
use Rattle.output.proofs.WriteLaws.{put_front}

-- refused, or given

module _ (s : Bytes) (i : ℕ) (cells : List ℕ) where
  pub table_refused : (q : Refusal) → cells_refusal s i (length cells) ≡ q → (q.number ≡ 0 → ⊥)
      → (Err q ≡ table_of s i (length cells)) × (cells ≡ cells_after s i cells)
  unfolding table_of cells_after answered
  table_refused q e n = (rw (e, ne_eqb q.number 0 n), rw (e, ne_eqb q.number 0 n))

  pub table_missing : (x : Refusal) → (x.number ≡ 0 → ⊥) → x ≡ find_refusal s i
      → (Err x ≡ table_of s i (length cells)) × (cells ≡ cells_after s i cells)
  unfolding cells_refusal table_refusal earlier
  table_missing x n e = table_refused x (rw (sym e, ne_eqb x.number 0 n, ne_eqb x.number 0 n)) n

  pub table_given : cells_refusal s i (length cells) ≡ sound → length (cells_of (section_at s i)) ≤ length cells
      → (m : List ℕ) (k : ℕ) → Put cells 0 (cells_of (section_at s i)) m k → (Ok k ≡ table_of s i (length cells)) × (m ≡ cells_after s i cells)
  unfolding table_of cells_after answered
  table_given e h m k p =
      let z : k ≡ length (cells_of (section_at s i)) = omega (arith, p.next) in
      (rw (e, z), rw e (put_front cells p (omega arith)))

-- the `rec` lines of a section are no more than its bytes

some_bytes : (l : Bytes) → pick (eqb (command (content l)) Rec) 1 0 ≤ length l
unfolding command content content_size until
some_bytes [] = omega arith
some_bytes (b ∷ l) = by (eqb (command (content (b ∷ l))) Rec)
  where
    by : (x : Bool) → pick x 1 0 ≤ suc (length l)
    by true = omega arith
    by false = omega arith

few_records : (ls : List Bytes) → times Rec ls ≤ length (joined ls)
unfolding times joined
few_records [] = omega arith
few_records (l ∷ ls) = omega (arith, some_bytes l, few_records ls, length-append l (joined ls))

-- the section that stands at a place, with its row
module _ (s : Bytes) (i at : ℕ) (b : Begins s i at) (x : Row) (q : x ≡ row_from s at) where
  row_here : row_at s i ≡ x
  unfolding row_at row_from
  row_here = rw b.is (sym q)

  pub table_unsound : (room : ℕ) → (x.verdict ≡ 0 → ⊥) → cells_refusal s i room ≡ refusal x.verdict i x.line
  unfolding cells_refusal table_refusal verdict_of earlier
  table_unsound room n = rw (b.found, row_here, ne_eqb x.verdict 0 n, ne_eqb x.verdict 0 n)

  module _ (v : x.verdict ≡ 0) where
    verdict_at : (row_at s i).verdict ≡ 0
    verdict_at = rw row_here v

    verdict_from : (row_from s at).verdict ≡ 0
    verdict_from = rw q at v

    pub table_sound : (room : ℕ) → cells_refusal s i room ≡ refuse_if (ltb room (length (cells_of (section_at s i)))) 21
    unfolding cells_refusal table_refusal verdict_of earlier
    table_sound room = rw (b.found, row_here, v)

    record_count : x.records ≡ times Rec (section_from s at).lines
    unfolding row_from
    record_count = rw q (row_count (latin_of s) (section_from s at) verdict_from)

    records_few : x.records ≤ limit
    unfolding row_from row_of row_given
    records_few =
        let n = few_records (section_from s at).lines in
        let p = prefix_lines s at b.inside (at + (row_from s at).length) refl in
        omega (arith, record_count, b.short, p.0)

    pub cells_few : (n : ℕ) → n ≤ WIDEST * 3 → x.records * n ≤ limit * (WIDEST * 3)
    cells_few n h = mul-le-mul records_few h

    module _ (t e : ℕ) (g : t ≡ table_index (section_from s at).lines) (k : e ≡ at + x.length) where
      pub end_within : (e ≤ length s) × (at ≤ e) × (lines (drop at (take e s)) ≡ (section_from s at).lines)
      end_within = prefix_lines s at b.inside e (k ∙ ap (λ (y : Row). at + y.length) q)

      pub cells_counted : (n : ℕ) → n ≡ width t * 3 → length (cells_of (section_at s i)) ≡ x.records * n
      cells_counted n h = cells_count s i verdict_at ∙ rw (row_here, b.is, h, g)

      pub cells_all : (a : List ℕ) → Told t (fields (atr_in (lines (take (e - at) (drop at s))))) a
          → cells_in t (held t a) 0 at (lines (drop at (take e s))) ≡ cells_of (section_at s i)
      unfolding cells_of section_from
      cells_all a o = rw (order_from s at b.inside b.settled x q v t e g k a o, b.is, end_within.2, g)
