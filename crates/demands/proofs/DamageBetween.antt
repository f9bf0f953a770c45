-- Demand 3, what lies between: whatever the run has done to a section, it is handed out only if its own bytes denote a table, and then what is handed
-- out is that table's. It holds of every section of the file with n. Assumes nothing.
use Rattle.std.specs.Prelude.{Err, Ok}
use mathlib.Core.Path.{◌≡◌, refl, ap, ◌∙◌}
use mathlib.Core.Bool.{Bool, true, false, false≢true}
use mathlib.Core.List.{List, ◌++◌, append_assoc}
use mathlib.Core.Logic.{◌⊎◌, inl, inr}
use Prim.Native.Nat.{ℕ, ◌+◌, ◌-◌, ◌*◌}
use native.Mathlib.Omega.{arith}
use borrow.Author.Tests.{eqb-true, ltb-true, ltb-false}
use lib.Dec.{eqb, ltb}
use lib.ListN.{length, drop, take}
use Rattle.page.specs.Bytes.{Bytes, pick}
use Rattle.page.specs.Lines.{lines}
use Rattle.page.specs.Tables.{width}
use Rattle.page.specs.Cut.{Section, sections}
use Rattle.page.specs.Head.{latin_of}
use Rattle.page.specs.Records.{Datum, words, Record, records_of, table_index}
use Rattle.page.specs.Model.{model_of, datum_at}
use Rattle.page.specs.Answers.{answered}
use Rattle.page.specs.File.{row_of, row_given}
use Rattle.page.specs.Reading.{section_at, row_at, find_refusal, section_of, verdict_of, value_refusal, value_at, value_of}
use Rattle.page.specs.Handing.{text_refusal, text_out, text_after, own_text, cells_of, table_refusal, table_of, cells_after}
use Rattle.page.specs.declared.Outcome.{Outcome}
use Rattle.page.specs.declared.Row.{Row}
use Rattle.page.specs.declared.Value.{Value}
use Rattle.page.specs.declared.Copied.{Copied}
use Rattle.calls.specs.Turns.{Within}
use Rattle.calls.specs.Handed.{StandsFor, CellAt}
use Rattle.demands.specs.Damage.{file, Replaced, Before, After, Between, OwnTable, OwnDatum, HoldsTable}
use Rattle.page.proofs.LineLaws.{run_lines}
use Rattle.page.proofs.CutLaws.{section_stands}
use Rattle.grammar.proofs.Accepts.{denotes_accepted}
use Rattle.grammar.proofs.Readings.{handed_denoted}
use Rattle.grammar.proofs.Counts.{count_handed}
use Rattle.round.proofs.Local.{local_latin}
use Rattle.calls.proofs.CallNumbers.{Given, find_open, verdict_open, none_exactly, value_given}
use Rattle.calls.proofs.PromisesHanding.{text_done, table_done}
use Rattle.calls.proofs.Handed.{section_begins, datum_is, value_says, value_handed, text_handed}
use Rattle.calls.proofs.HandedCells.{cells_count, cell_stands}

module _ (s : Bytes) (i : ℕ) where
  abbrev here : Section
  here = section_at s i

  -- a section's lines are those of its own bytes
  own_lines : Within i (length (sections s)) → lines (take (row_at s i).length (drop (row_at s i).place s)) ≡ here.lines
  unfolding row_at row_of row_given section_at
  own_lines w =
      let t = section_stands s (i - 1) (omega (arith, w)) in
      rw t.place (run_lines s t.before here.lines t.after t.whole)

  own : (find_refusal s i).number ≡ 0 → (row_at s i).verdict ≡ 0 → OwnTable (latin_of s) s i (table_index here.lines) (records_of (latin_of s) here.lines)
  unfolding section_of answered row_at row_of row_given
  own e v =
      let w = ((find_open s i).0 e).1 in
      let t = handed_denoted (latin_of s) here.lines (section_begins s i w.0 w.1) v in
      record {
        row = row_at s i;
        listed = rw e;
        denotes = rw (own_lines w) t;
        table = ap (λ (o : Outcome). o.table) (denotes_accepted (latin_of s) here.lines (table_index here.lines) (records_of (latin_of s) here.lines) t);
        records = count_handed (latin_of s) here.lines;
      }

listed_is : (s : Bytes) (i : ℕ) (w : Row) → section_of s i ≡ Ok w → ((find_refusal s i).number ≡ 0) × (row_at s i ≡ w)
unfolding section_of answered
listed_is s i w e = by (eqb (find_refusal s i).number 0) refl e
  where
    by : (q : Bool) → eqb (find_refusal s i).number 0 ≡ q → pick q (Ok (row_at s i)) (Err (find_refusal s i)) ≡ Ok w →
        ((find_refusal s i).number ≡ 0) × (row_at s i ≡ w)
    by true h e = (eqb-true (find_refusal s i).number 0 h, cc)
    by false h e = absurd (false≢true (cc))

got_is : (s : Bytes) (i r f : ℕ) (v : Value) → value_of s i r f ≡ Ok v → (value_refusal s i r f).number ≡ 0
unfolding value_of answered
got_is s i r f v e = by (eqb (value_refusal s i r f).number 0) refl e
  where
    by : (q : Bool) → eqb (value_refusal s i r f).number 0 ≡ q →
        pick q (Ok (value_at (section_at s i) r f)) (Err (value_refusal s i r f)) ≡ Ok v → (value_refusal s i r f).number ≡ 0
    by true h e = eqb-true (value_refusal s i r f).number 0 h
    by false h e = absurd (false≢true (cc))

cell_more : {xs : List ℕ} {p : ℕ} {v : Value} (ys : List ℕ) → CellAt xs p v → CellAt (xs ++ ys) p v
cell_more ys c = record { before = c.before; after = c.after ++ ys; split = rw c.split (simp append_assoc); placed = c.placed }

module _ (a m n b : Bytes) (d : Replaced a m n b) where
  latin : latin_of (file a n b) ≡ latin_of a
  latin = local_latin a n b d.whole d.begun d.new

  -- by where it stands, each section is before the run, after it or between
  pub each_section : (i : ℕ) → Within i (length (sections (file a n b))) →
      Before a (file a n b) i ⊎ (Between a n (file a n b) i ⊎ After a n (file a n b) i)
  each_section i w = by (ltb (x.place + x.length) (length a)) (ltb x.place (length a + length n)) refl refl
    where
      x : Row
      x = row_at (file a n b) i

      by : (p q : Bool) → ltb (x.place + x.length) (length a) ≡ p → ltb x.place (length a + length n) ≡ q →
          Before a (file a n b) i ⊎ (Between a n (file a n b) i ⊎ After a n (file a n b) i)
      by true q e h = inl (record { there = w; ends = omega (arith, ltb-true (x.place + x.length) (length a) e) })
      by false true e h =
          inr (inl (record { there = w; ends = ltb-false (x.place + x.length) (length a) e; begins = ltb-true x.place (length a + length n) h }))
      by false false e h = inr (inr (record { there = w; begins = ltb-false x.place (length a + length n) h }))

  module _ (i : ℕ) where
    abbrev ls : List Bytes
    ls = (section_at (file a n b) i).lines

    own_table : (find_refusal (file a n b) i).number ≡ 0 → (row_at (file a n b) i).verdict ≡ 0 →
        OwnTable (latin_of a) (file a n b) i (table_index ls) (records_of (latin_of a) ls)
    own_table e v = rw latin at (own (file a n b) i e v)

    count : (row_at (file a n b) i).records ≡ length (records_of (latin_of a) ls)
    unfolding row_at row_of row_given
    count = rw latin (count_handed (latin_of a) ls)

    -- `section`: a row of verdict 0
    pub between_section : (w : Row) → section_of (file a n b) i ≡ Ok w → w.verdict ≡ 0 →
        (t : ℕ) × (rs : List Record) × OwnTable (latin_of a) (file a n b) i t rs
    between_section w e v =
        let x = listed_is (file a n b) i w e in
        (table_index ls, records_of (latin_of a) ls, own_table x.0 (rw x.1 v))

    own_datum : (r f : ℕ) → Given (file a n b) i r f → OwnDatum (latin_of a) (file a n b) i r f (datum_at i r f (model_of (file a n b)))
    own_datum r f g =
        record {
          table = table_index ls;
          records = records_of (latin_of a) ls;
          own = own_table ((find_open (file a n b) i).1 (g.opens, g.section)) g.sound;
          record_there = rw count at g.record_there;
          field_there = g.field_there;
          datum = rw (datum_is (file a n b) i r f g, latin);
        }

    -- `value`
    pub between_value : (r f : ℕ) (v : Value) → value_of (file a n b) i r f ≡ Ok v →
        (x : Datum) × OwnDatum (latin_of a) (file a n b) i r f x × StandsFor (file a n b) v x
    between_value r f v e =
        let g = (value_given (file a n b) i r f).0 (got_is (file a n b) i r f v e) in
        (datum_at i r f (model_of (file a n b)), own_datum r f g, value_handed (file a n b) i r f v e)

    -- `text`
    pub between_text : (r f : ℕ) (out : Bytes) (x : Copied) → text_out (file a n b) i r f (length out) ≡ Ok x →
        (w : Bytes) × OwnDatum (latin_of a) (file a n b) i r f (words x.owner w) × (x.length ≡ length w)
        × (text_after (file a n b) i r f out ≡ w ++ drop (length w) out)
    unfolding text_refusal text_after
    between_text r f out x e =
        let o = text_done (file a n b) i r f out x e in
        let g = (value_given (file a n b) i r f).0 ((none_exactly (value_refusal (file a n b) i r f) _).0 o.accepted).0 in
        (own_text (file a n b) i r f, rw (text_handed (file a n b) i r f (length out) x e) at (own_datum r f g), o.given, o.holds)

    holds_table : (find_refusal (file a n b) i).number ≡ 0 → (row_at (file a n b) i).verdict ≡ 0 → (more : List ℕ) →
        HoldsTable (file a n b) (table_index ls) (records_of (latin_of a) ls) (cells_of (section_at (file a n b) i) ++ more)
    holds_table e v more =
        record {
          value = value_at (section_at (file a n b) i);
          says = λ r f p q. rw (datum_is (file a n b) i r f (given r f p q), latin) at (value_says (file a n b) i r f (given r f p q));
          stands = λ r f p q. cell_more more (cell_stands (file a n b) i r f (given r f p q));
        }
      where
        given : (r f : ℕ) → Within r (length (records_of (latin_of a) ls)) → Within f (width (table_index ls)) → Given (file a n b) i r f
        given r f p q =
            let o = (find_open (file a n b) i).0 e in
            record { opens = o.0; section = o.1; sound = v; record_there = rw count p; field_there = q }

    -- `table`
    pub between_table : (lent : List ℕ) (c : ℕ) → table_of (file a n b) i (length lent) ≡ Ok c →
        (t : ℕ) × (rs : List Record) × OwnTable (latin_of a) (file a n b) i t rs × (c ≡ length rs * (width t * 3))
        × HoldsTable (file a n b) t rs (cells_after (file a n b) i lent)
    unfolding table_refusal
    between_table lent c e =
        let o = table_done (file a n b) i lent c e in
        let z = (none_exactly (find_refusal (file a n b) i) (verdict_of i (row_at (file a n b) i))).0 o.accepted in
        let v = (verdict_open (file a n b) i).0 z.1 in (
          table_index ls,
          records_of (latin_of a) ls,
          own_table z.0 v,
          o.given ∙ cells_count (file a n b) i v ∙ ap (λ (k : ℕ). k * (width (table_index ls) * 3)) count,
          rw o.holds (holds_table z.0 v (drop (length (cells_of (section_at (file a n b) i))) lent)),
        )
