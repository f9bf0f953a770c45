-- A written section is read back: sound, with its records, their values and owners. Assumes nothing.
use mathlib.Core.Path.{◌≡◌, refl, sym, ◌∙◌}
use mathlib.Core.Bool.{Bool, true, false}
use mathlib.Core.List.{List, [], ◌∷◌, ◌++◌, map, append-nil, append_assoc}
use Prim.Native.Nat.{ℕ, suc, ◌+◌, ◌-◌, ◌<◌, ◌≤◌, ◌^◌}
use native.Mathlib.Omega.{arith}
use lib.ListN.{length, get_or}
use borrow.Author.Tests.{le-leb}
use Rattle.page.specs.Bytes.{Bytes, unpadded}
use Rattle.page.specs.Lines.{joined, content, rest}
use Rattle.page.specs.Tables.{no_column, number_at, table_at, columns, TABLES}
use Rattle.page.specs.Order.{listed_order}
use Rattle.page.specs.Marks.{may_mark}
use Rattle.page.specs.Section.{empty_marked, order_after, finish, continue, run, outcome}
use Rattle.page.specs.Records.{Datum, number, missing, words, Record, Entry, waits, record_in, entries, table_index, atr_in, order_in, entries_of, records_of}
use Rattle.page.specs.Model.{Content}
use Rattle.page.specs.Form.{line, decimal, quoted, datum_text, mark_line, mark_of, marks, record_form, records_form, table_head, content_form}
use Rattle.page.specs.Rules.{Every, none_left, one_more}
use Rattle.page.specs.declared.LineEnd.{LineEnd}
use Rattle.page.specs.declared.Owner.TheVariants as O
use Rattle.page.specs.declared.Phase.TheVariants as P
use Rattle.page.proofs.LineLaws.{joined_append}
use Rattle.round.specs.Round.{SoundRecord, SoundContent}
use Rattle.round.proofs.RoundRecords.{tame, Owned, values_back, width_back}
use Rattle.round.proofs.RoundSteps.{mark_lines_of, mark_lines, Marked, unmarked, marked, marks_back, mark_seen, mark_reads, mark_step_back, end_seen, end_step_back, rec_seen, fields_back, rec_step_back}
use Rattle.round.proofs.RoundHeads.{Heads, heads, tbl_line, atr_line, frm_line}
use Rattle.page.proofs.OrderLaws.{listed_standing, listed_mark}
use Rattle.page.proofs.TextLaws.{quoted_own}

-- the written lines

unfoldable pub record_lines : LineEnd → Record → List Bytes
record_lines ends vs = mark_lines ends 1 vs ++ (line ends "rec" (map datum_text vs) ∷ [])

unfoldable pub body_lines : LineEnd → ℕ → List Record → List Bytes
body_lines ends c [] = line ends "end" (decimal c ∷ []) ∷ []
body_lines ends c (r ∷ rs) = record_lines ends r ++ body_lines ends c rs

unfoldable pub after_tbl : LineEnd → Content → List Bytes
after_tbl ends c = atr_line ends (table_at c.table) ∷ frm_line ends (table_at c.table) ∷ body_lines ends (length c.records) c.records

unfoldable pub content_lines : LineEnd → Content → List Bytes
content_lines ends c = tbl_line ends (table_at c.table) ∷ after_tbl ends c

-- put together they are the form

joined_marks : (ends : LineEnd) (i : ℕ) (vs : Record) → joined (mark_lines ends i vs) ≡ marks ends i vs
unfolding mark_lines mark_lines_of joined marks mark_of
joined_marks ends i [] = refl
joined_marks ends i (number n ∷ vs) = joined_marks ends (suc i) vs
joined_marks ends i (missing ∷ vs) = joined_marks ends (suc i) vs
joined_marks ends i (words O.Operator t ∷ vs) = joined_marks ends (suc i) vs
joined_marks ends i (words O.Suggestion t ∷ vs) = rw (joined_marks ends (suc i) vs)

joined_record : (ends : LineEnd) (vs : Record) → joined (record_lines ends vs) ≡ record_form ends vs
unfolding record_lines record_form joined
joined_record ends vs = joined_append (mark_lines ends 1 vs) (line ends "rec" (map datum_text vs) ∷ []) ∙ rw (joined_marks ends 1 vs, append-nil (line ends "rec" (map datum_text vs)))

joined_body : (ends : LineEnd) (c : ℕ) (rs : List Record) → joined (body_lines ends c rs) ≡ records_form ends rs ++ line ends "end" (decimal c ∷ [])
unfolding body_lines records_form joined
joined_body ends c [] = append-nil (line ends "end" (decimal c ∷ []))
joined_body ends c (r ∷ rs) = joined_append (record_lines ends r) (body_lines ends c rs) ∙ rw (joined_record ends r, joined_body ends c rs) (sym (append_assoc (record_form ends r) (records_form ends rs) (line ends "end" (decimal c ∷ []))))

pub joined_content : (ends : LineEnd) (c : Content) → joined (content_lines ends c) ≡ content_form ends c
unfolding content_lines after_tbl joined content_form table_head
joined_content ends c = rw (joined_body ends (length c.records) c.records) (simp append_assoc)

-- a mark of a column that may be marked, whose text is some
may_of : (t j : ℕ) → (get_or (columns t) j no_column).column.fillable ≡ true → may_mark t (listed_order t) (1 + j) ≡ true
unfolding may_mark
may_of t j f =
    let less : 1 + j - 1 ≡ j = omega arith in
    rw (le-leb 1 (1 + j) (omega arith), less, listed_standing t) f

full_of : (j b : ℕ) (u : Bytes) (fs : List Bytes) → get_or fs j [] ≡ quoted (b ∷ u) → unpadded (b ∷ u) ≡ b ∷ u → empty_marked (1 + j) fs ≡ false
unfolding empty_marked
full_of j b u fs q d =
    let less : 1 + j - 1 ≡ j = omega arith in
    rw (le-leb 1 (1 + j) (omega arith), less, q, quoted_own (b ∷ u) d)

-- the machine over a record's lines, and the record

module _ (ends : LineEnd) (latin : Bool) (t : ℕ) (known : t < TABLES) where
  -- what the lines of a record lead to, and the line where it stands
  record Read (vs : Record) (k n : ℕ) (ls : List Bytes) : Type 0 where
    at : ℕ
    runs : run latin (P.Rows t 0 k) (listed_order t) n (record_lines ends vs ++ ls) ≡ run latin (P.Rows t 0 (k + 1)) (listed_order t) at ls
    reads : entries t (listed_order t) 0 n (record_lines ends vs ++ ls) ≡ record { line = at; values = vs } ∷ entries t (listed_order t) 0 at ls

  module _ (v : Datum) (vs : Record) (r : SoundRecord latin t (v ∷ vs)) (k n : ℕ) (ls : List Bytes) where
    -- the `rec` line, where a mark of field m waits
    rec_runs : (m : ℕ) → empty_marked m (map datum_text (v ∷ vs)) ≡ false →
        run latin (P.Rows t m k) (listed_order t) n (line ends "rec" (map datum_text (v ∷ vs)) ∷ ls) ≡ run latin (P.Rows t 0 (k + 1)) (listed_order t) (suc n) ls
    unfolding run continue order_after
    rec_runs m e = rw (rec_step_back ends latin t v vs r m k e)

    rec_reads : (m : ℕ) → Owned m 1 (v ∷ vs) →
        entries t (listed_order t) m n (line ends "rec" (map datum_text (v ∷ vs)) ∷ ls) ≡ record { line = suc n; values = v ∷ vs } ∷ entries t (listed_order t) 0 (suc n) ls
    unfolding entries record_in
    rec_reads m o =
        rw ((rec_seen ends latin t v vs r).named, (rec_seen ends latin t v vs r).split, fields_back ends latin t v vs r, listed_mark t m, values_back latin m 1 r.fit (tame t).small o)

    -- a mark before it
    mark_runs : (i : ℕ) → 1 ≤ i → i < 10 ^ 18 → may_mark t (listed_order t) i ≡ true → (more : List Bytes) →
        run latin (P.Rows t 0 k) (listed_order t) n (mark_line ends i ∷ more) ≡ run latin (P.Rows t i k) (listed_order t) (suc n) more
    unfolding run continue order_after
    mark_runs i l h m more = rw (mark_step_back ends latin t i k l h m)

    mark_entries : (i : ℕ) → 1 ≤ i → i < 10 ^ 18 → (more : List Bytes) → entries t (listed_order t) 0 n (mark_line ends i ∷ more) ≡ entries t (listed_order t) i (suc n) more
    unfolding entries waits
    mark_entries i l h more = rw ((mark_seen ends latin t i).named, mark_reads ends latin t i l h)

  pub some_columns : 0 < length (columns t)
  unfolding columns
  some_columns = (heads ends latin t known).some

  record_back : (vs : Record) → SoundRecord latin t vs → (k n : ℕ) (ls : List Bytes) → Read vs k n ls
  unfolding record_lines empty_marked
  record_back [] r k n ls = absurd (let z : ⊥ = omega (arith, width_back latin r.fit, some_columns) in z)
  record_back (v ∷ vs) r k n ls = by (marks_back ends latin 1 (omega arith) r.fit (tame t).lone)
    where
      by : (m : ℕ) × Marked ends 1 (columns t) (v ∷ vs) m → Read (v ∷ vs) k n ls
      by (m, unmarked e o) =
          record { at = suc n; runs = rw e (rec_runs v vs r k n ls 0 refl); reads = rw e (rec_reads v vs r k n ls 0 o) }
      by (m, marked j b u h f q d e o) =
          record {
            at = suc (suc n);
            runs = rw e (mark_runs v vs r k n ls (1 + j) (omega arith) (omega (arith, (tame t).narrow)) may more ∙ rec_runs v vs r k (suc n) ls (1 + j) full);
            reads = rw e (mark_entries v vs r k n ls (1 + j) (omega arith) (omega (arith, (tame t).narrow)) more ∙ rec_reads v vs r k (suc n) ls (1 + j) o);
          }
        where
          more : List Bytes
          more = line ends "rec" (map datum_text (v ∷ vs)) ∷ ls

          may : may_mark t (listed_order t) (1 + j) ≡ true
          may = may_of t j f

          full : empty_marked (1 + j) (map datum_text (v ∷ vs)) ≡ false
          full = full_of j b u (map datum_text (v ∷ vs)) q d

  pub rows_back : {rs : List Record} → Every (SoundRecord latin t) rs → (k n c : ℕ) → k + length rs ≡ c → c < 10 ^ 18 →
      run latin (P.Rows t 0 k) (listed_order t) n (body_lines ends c rs) ≡ record { table = number_at t; records = c; verdict = 0; line = 0 }
  unfolding body_lines run continue finish
  rows_back none_left k n c e h =
      let z : k ≡ c = omega arith in
      rw (z, end_step_back ends latin t (listed_order t) c h)
  rows_back (one_more {x} {xs} r rs) k n c e h =
      let q = record_back x r k n (body_lines ends c xs) in
      q.runs ∙ rows_back rs (k + 1) q.at c (omega arith) h

  pub entries_back : {rs : List Record} → Every (SoundRecord latin t) rs → (n c : ℕ) → c < 10 ^ 18 →
      map (λ (e : Entry). e.values) (entries t (listed_order t) 0 n (body_lines ends c rs)) ≡ rs
  unfolding body_lines entries
  entries_back none_left n c h = rw (end_seen ends latin t c).named
  entries_back (one_more {x} {xs} r rs) n c h =
      let q = record_back x r 0 n (body_lines ends c xs) in
      rw (q.reads, entries_back rs q.at c h)

module _ (ends : LineEnd) (latin : Bool) (c : Content) (s : SoundContent latin c) (few : length c.records < 10 ^ 18) where
  the_heads : Heads ends latin c.table (table_at c.table)
  the_heads = heads ends latin c.table s.known

  -- a written section is sound, with its table and as many records as it has
  pub outcome_back : outcome latin (content_lines ends c) ≡ record { table = number_at c.table; records = length c.records; verdict = 0; line = 0 }
  unfolding outcome content_lines after_tbl run continue order_after
  outcome_back =
      rw (the_heads.tbl [], the_heads.atr [], the_heads.atr_named, the_heads.order, the_heads.frm)
      (rows_back ends latin c.table s.known s.records 0 3 (length c.records) (omega arith) few)

  pub table_back : table_index (content_lines ends c) ≡ c.table
  unfolding table_index content_lines
  table_back = the_heads.table

  -- in document 01's order
  atr_back : atr_in (content_lines ends c) ≡ rest (content (atr_line ends (table_at c.table)))
  unfolding atr_in content_lines after_tbl
  atr_back = rw (the_heads.tbl_named, the_heads.atr_named)

  order_back : order_in (content_lines ends c) ≡ listed_order c.table
  unfolding order_in
  order_back = rw (table_back, atr_back) the_heads.order

  all_entries : map (λ (e : Entry). e.values) (entries c.table (listed_order c.table) 0 0 (content_lines ends c)) ≡ c.records
  unfolding entries content_lines after_tbl waits
  all_entries =
      rw (the_heads.tbl_named, the_heads.atr_named, the_heads.frm_named) (entries_back ends latin c.table s.known s.records 3 (length c.records) few)

  -- and its records are the ones that were written, whose texts are whose they were
  pub records_back : records_of latin (content_lines ends c) ≡ c.records
  unfolding records_of entries_of
  records_back = rw (outcome_back, table_back, order_back) all_entries
