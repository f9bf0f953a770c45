-- A fill that nothing refuses names a field of an accepted file, and a text of at most 40 bytes. Assumes nothing.
use Rattle.std.specs.Prelude.{Result}
use mathlib.Core.Path.{◌≡◌, refl, ap, sym, ◌∙◌}
use mathlib.Core.Bool.{Bool, true, false, not, ◌||◌}
use Prim.Native.Nat.{ℕ, suc, ◌-◌, ◌<◌, ◌≤◌}
use native.Mathlib.Omega.{arith}
use borrow.Author.Tests.{eqb-false, ltb-false}
use lib.Dec.{eqb, ltb}
use lib.ListN.{length}
use Rattle.page.specs.Bytes.{Bytes, all}
use Rattle.page.specs.Tables.{column_at, width}
use Rattle.page.specs.Lines.{allowed}
use Rattle.page.specs.Cut.{sections}
use Rattle.page.specs.Head.{latin_of}
use Rattle.page.specs.Records.{table_index}
use Rattle.page.specs.Model.{model_of, datum_at}
use Rattle.page.specs.Answers.{earlier, refuse_if}
use Rattle.page.specs.Reading.{outside, section_at, row_at}
use Rattle.page.specs.File.{file_refusal}
use Rattle.page.specs.Form.{form_of}
use Rattle.page.specs.Writing.{put_of, put_after, empty_datum, fill_place, fill_refusal, fill_form}
use Rattle.page.specs.declared.LineEnd.TheVariants as E
use Rattle.page.specs.declared.Refusal.{Refusal}
use Rattle.output.specs.Put.{Wrote}
use Rattle.copies.specs.Changed.{changed_model}
use Rattle.copies.specs.declared.plan.Change.TheVariants as C
use Rattle.copies.specs.declared.plan.Fill.{Fill}
use Rattle.writing.proofs.ModelLaws.{Named}
use Rattle.writing.proofs.FormLaws.{lf_plan, wrote_by}
use Rattle.page.proofs.TestLaws.{neither}
use Rattle.laws.proofs.Earlier.{earlier_none}

unrefused : (b : Bool) (v : ℕ) → (refuse_if b (suc v)).number ≡ 0 → b ≡ false
unfolding refuse_if
unrefused true v e = absurd (omega arith)
unrefused false v e = refl

named : (i n : ℕ) → outside i n ≡ false → 0 < i
unfolding outside
named i n e = let z = eqb-false i 0 (neither (eqb i 0) (ltb n i) e).0 in omega arith

module _ (s : Bytes) (i r f : ℕ) (t : Bytes) where
  abbrev last : Refusal
  last = refuse_if (ltb 40 (length t)) 13

  abbrev clean : Refusal
  clean = earlier (refuse_if (not (all (allowed (latin_of s)) t)) 4) last

  abbrev some : Refusal
  some = earlier (refuse_if (eqb (length t) 0) 11) clean

  abbrev free : Refusal
  free = earlier (refuse_if (not (empty_datum (datum_at i r f (model_of s)))) 22) some

  abbrev suited : Refusal
  suited = earlier (refuse_if (not (column_at (table_index (section_at s i).lines) (f - 1)).fillable) 23) free

  abbrev placed : Refusal
  placed = earlier (refuse_if (fill_place s i r f) 24) suited

  pub record Fillable : Type 0 where
    pub file : (file_refusal s).number ≡ 0
    pub section : 0 < i
    pub entry : 0 < r
    pub field : 0 < f
    pub size : length t ≤ 40

  pub fillable : (fill_refusal s i r f t).number ≡ 0 → Fillable
  unfolding fill_refusal fill_place
  fillable h =
      let a = earlier_none (file_refusal s) placed h in
      let b = earlier_none (refuse_if (fill_place s i r f) 24) suited a.1 in
      let c = earlier_none (refuse_if (not (column_at (table_index (section_at s i).lines) (f - 1)).fillable) 23) free b.1 in
      let d = earlier_none (refuse_if (not (empty_datum (datum_at i r f (model_of s)))) 22) some c.1 in
      let e = earlier_none (refuse_if (eqb (length t) 0) 11) clean d.1 in
      let g = earlier_none (refuse_if (not (all (allowed (latin_of s)) t)) 4) last e.1 in
      let x = outside i (length (sections s)) in
      let y = outside r (row_at s i).records in
      let z = outside f (width (table_index (section_at s i).lines)) in
      let p = unrefused (fill_place s i r f) 23 b.0 in
      record {
        file = a.0;
        section = named i (length (sections s)) (neither x y (neither (x || y) z p).0).0;
        entry = named r (row_at s i).records (neither x y (neither (x || y) z p).0).1;
        field = named f (width (table_index (section_at s i).lines)) (neither (x || y) z p).1;
        size = ltb-false 40 (length t) (unrefused (ltb 40 (length t)) 12 g.1);
      }

module _ (s : Bytes) (x : Fill) (q : Refusal) (e : q ≡ fill_refusal s x.section x.rec x.field x.text.now) where
  ready : q.number ≡ 0 → Fillable s x.section x.rec x.field x.text.now
  ready z = fillable s x.section x.rec x.field x.text.now (sym (ap (λ (y : Refusal). y.number) e) ∙ z)

  pub fill_ready : q.number ≡ 0 → (file_refusal s).number ≡ 0
  fill_ready z = (ready z).file

  filled : q.number ≡ 0 → Named (C.Fill x)
  filled z = let k = ready z in (k.section, k.entry, k.field)

  pub fill_done : (before after : Bytes) (w : Result ℕ Refusal) → Wrote q (form_of E.Lf (changed_model (lf_plan (C.Fill x)) (model_of s))) before after w
      → (w ≡ put_of (fill_refusal s x.section x.rec x.field x.text.now) (fill_form s x.section x.rec x.field x.text.now) (length before))
      × (after ≡ put_after (fill_refusal s x.section x.rec x.field x.text.now) (fill_form s x.section x.rec x.field x.text.now) before)
  unfolding fill_form
  fill_done before after w y =
      let z = wrote_by s (lf_plan (C.Fill x)) filled y in
      (rw (sym e) z.answer, rw (sym e) z.left)
