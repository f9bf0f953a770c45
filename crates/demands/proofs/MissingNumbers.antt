-- A missing number is written as an empty field, and read back it is missing, never 0. Assumes nothing.
use mathlib.Core.Path.{◌≡◌, refl, ap, sym, ◌∙◌}
use mathlib.Core.Bool.{Bool, false≢true}
use mathlib.Core.List.Memᴰ
use mathlib.Core.List.{List, [], ◌∷◌, map, Memᴰ}
use Prim.Native.Nat.{ℕ, zero, suc, ◌-◌, ◌<◌, ◌≤◌}
use native.Mathlib.Omega.{arith}
use lib.ListN.{length, get_or, length-map}
use Rattle.page.specs.Bytes.{Bytes}
use Rattle.page.specs.Lines.{lines}
use Rattle.page.specs.Records.{number, missing, Record}
use Rattle.page.specs.Model.{Content, Model, model_of, changed, kept, datum_at}
use Rattle.page.specs.File.{limit, file_refusal}
use Rattle.page.specs.Form.{datum_text, form_of}
use Rattle.page.specs.Writing.{form_by, write_form}
use Rattle.page.specs.Grammar.{fields_of}
use Rattle.page.specs.declared.LineEnd.{LineEnd}
use Rattle.page.specs.declared.LineEnd.TheVariants as E
use Rattle.round.specs.Round.{SoundRecord, SoundContent, SoundModel}
use Rattle.round.proofs.RoundSteps.{mark_lines, rec_seen}
use Rattle.round.proofs.RoundSections.{record_lines, body_lines, after_tbl, content_lines}
use Rattle.round.proofs.RoundHeader.{head_lines}
use Rattle.round.proofs.RoundCut.{tables_lines, form_lines, lines_form}
use Rattle.round.proofs.RoundForm.{form_model}
use Rattle.round.proofs.Round.{accepted_model}
use Rattle.demands.specs.WrittenMarks.{rec_line, record_at}
use Rattle.demands.proofs.Fill.{no_content}
use Rattle.demands.proofs.FillBack.{every_at}

-- what is no default stands in the list
there : {A : Type 0} (d : A) (xs : List A) (k : ℕ) → ¬ (get_or xs k d ≡ d) → k < length xs
there d [] k n = absurd (n refl)
there d (x ∷ xs) zero n = omega arith
there d (x ∷ xs) (suc k) n = let z = there d xs k n in omega arith

no_zero : ¬ (number 0 ≡ missing)
no_zero e = false≢true (cc)

empty_text : (vs : Record) (k : ℕ) → get_or vs k (number 0) ≡ missing → get_or (map datum_text vs) k [] ≡ []
unfolding datum_text
empty_text [] k e = refl
empty_text (v ∷ vs) zero e = rw e
empty_text (v ∷ vs) (suc k) e = empty_text vs k e

-- a record's line is one of the written lines

module _ (ends : LineEnd) where
  body_has : (n : ℕ) (rs : List Record) (k : ℕ) → k < length rs → Memᴰ (rec_line ends (get_or rs k [])) (body_lines ends n rs)
  unfolding body_lines record_lines
  body_has n [] k h = absurd (omega arith)
  body_has n (r ∷ rs) zero h = Memᴰ.append_left (body_lines ends n rs) (Memᴰ.append_right (mark_lines ends 1 r) (Memᴰ.head refl))
  body_has n (r ∷ rs) (suc k) h = Memᴰ.append_right (record_lines ends r) (body_has n rs k (omega arith))

  content_has : (c : Content) (k : ℕ) → k < length c.records → Memᴰ (rec_line ends (get_or c.records k [])) (content_lines ends c)
  unfolding content_lines after_tbl
  content_has c k h = Memᴰ.tail (Memᴰ.tail (Memᴰ.tail (body_has (length c.records) c.records k h)))

  tables_have : (cs : List Content) (i k : ℕ) → i < length cs → k < length (get_or cs i no_content).records →
      Memᴰ (rec_line ends (get_or (get_or cs i no_content).records k [])) (tables_lines ends cs)
  unfolding tables_lines
  tables_have [] i k h l = absurd (omega arith)
  tables_have (c ∷ cs) zero k h l = Memᴰ.append_left (tables_lines ends cs) (content_has c k l)
  tables_have (c ∷ cs) (suc i) k h l = Memᴰ.append_right (content_lines ends c) (tables_have cs i k (omega arith) l)

-- the fields of the line are the record's values, written
line_fields : (ends : LineEnd) (latin : Bool) (t : ℕ) (vs : Record) → SoundRecord latin t vs → 0 < length vs → fields_of (rec_line ends vs) ≡ map datum_text vs
line_fields ends latin t [] r h = absurd (omega arith)
line_fields ends latin t (v ∷ vs) r h = (rec_seen ends latin t v vs r).split

-- field f of record r of table i of what is written, all from 1: the record's line stands in the form, its field f is there and empty, and
-- read back it is missing, and no number
pub record MissingWritten (form : Bytes) (ends : LineEnd) (m : Model) (i r f : ℕ) : Type 0 where
  pub stands : Memᴰ (rec_line ends (record_at i r m)) (lines form)
  pub within : f - 1 < length (fields_of (rec_line ends (record_at i r m)))
  pub empty : get_or (fields_of (rec_line ends (record_at i r m))) (f - 1) [] ≡ []
  pub again : datum_at i r f (model_of form) ≡ missing
  pub no_number : (n : ℕ) → ¬ (datum_at i r f (model_of form) ≡ number n)

-- however the lines end
module _ (ends : LineEnd) (m : Model) (s : SoundModel m) (short : length (form_of ends m) ≤ limit) (i r f : ℕ) (e : datum_at i r f m ≡ missing) where
  abbrev the_content : Content
  the_content = get_or m.tables (i - 1) no_content

  abbrev the_record : Record
  the_record = record_at i r m

  field_there : f - 1 < length the_record
  unfolding datum_at
  field_there = there (number 0) the_record (f - 1) (λ (d : get_or the_record (f - 1) (number 0) ≡ number 0). no_zero (sym d ∙ e))

  record_there : r - 1 < length the_content.records
  unfolding datum_at
  record_there = there [] the_content.records (r - 1) (λ (d : the_record ≡ []). no_zero (ap (λ (vs : Record). get_or vs (f - 1) (number 0)) (sym d) ∙ e))

  table_there : i - 1 < length m.tables
  unfolding datum_at
  table_there =
      there no_content m.tables (i - 1) (λ (d : the_content ≡ no_content). no_zero (ap (λ (c : Content). get_or (get_or c.records (r - 1) []) (f - 1) (number 0)) (sym d) ∙ e))

  content_sound : SoundContent m.head.latin the_content
  content_sound = every_at s.tables (i - 1) no_content table_there

  fields_are : fields_of (rec_line ends the_record) ≡ map datum_text the_record
  fields_are =
      line_fields ends m.head.latin the_content.table the_record (every_at content_sound.records (r - 1) [] record_there) (let h = field_there in omega arith)

  read_again : datum_at i r f (model_of (form_of ends m)) ≡ missing
  read_again = rw (form_model ends m s short) e

  pub form_missing : MissingWritten (form_of ends m) ends m i r f
  unfolding datum_at form_lines
  form_missing =
      record {
        stands =
            rw (lines_form ends m s) (Memᴰ.append_right (head_lines ends m.head) (Memᴰ.append_left _ (tables_have ends m.tables (i - 1) (r - 1) table_there record_there)));
        within = rw (fields_are, length-map the_record datum_text) field_there;
        empty = rw fields_are (empty_text the_record (f - 1) e);
        again = read_again;
        no_number = λ n d. let z = read_again in false≢true (cc);
      }

-- the written form of an accepted file
pub missing_written : (s : Bytes) → (file_refusal s).number ≡ 0 → length (write_form s) ≤ limit → (i r f : ℕ) → datum_at i r f (model_of s) ≡ missing →
    MissingWritten (write_form s) E.Lf (model_of s) i r f
unfolding write_form form_by changed kept
missing_written s ok short i r f e = form_missing E.Lf (model_of s) (accepted_model s ok) short i r f e
