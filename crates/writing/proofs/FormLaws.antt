-- The form of an accepted file, changed: its header as it stands, its sections, its trailer. Assumes nothing.
use Rattle.std.specs.Prelude.{Result}
use mathlib.Core.Path.{◌≡◌, refl, ap, sym, ◌∙◌}
use mathlib.Core.Bool.{Bool, true, false}
use mathlib.Core.List.{List, [], ◌∷◌, ◌++◌, map}
use Prim.Native.Nat.{ℕ, suc, ◌-◌, ◌≤◌}
use native.Mathlib.Omega.{arith}
use borrow.Author.Tests.{eqb-true}
use lib.Dec.{eqb}
use lib.ListN.{length}
use Rattle.page.specs.Bytes.{Bytes, bytes}
use Rattle.page.specs.Cut.{Section, sections, header_lines}
use Rattle.page.specs.Head.{head_values, header_values}
use Rattle.page.specs.Model.{model_of, changed, kept}
use Rattle.page.specs.Answers.{earlier, answered}
use Rattle.page.specs.File.{limit, header_refusal, file_refusal, section_refusal, found}
use Rattle.page.specs.Trailer.{trailer_of}
use Rattle.page.specs.Form.{decimal, head_form, form_of}
use Rattle.page.specs.Writing.{put_refusal, put_of, put_after, form_by, write_form, write_of, write_after, strip_form, strip_of, strip_after}
use Rattle.page.specs.declared.Header.{Header}
use Rattle.page.specs.declared.LineEnd.TheVariants as E
use Rattle.page.specs.declared.Refusal.{Refusal}
use Rattle.page.specs.declared.Stays.TheVariants as St
use Rattle.verdicts.proofs.Files.{accepted_says}
use Rattle.output.specs.Put.{Wrote}
use Rattle.frames.specs.Lines.{line_with}
use Rattle.frames.specs.Heads.{head_raw}
use Rattle.frames.proofs.LineLaws.{line_with_is, head_same}
use Rattle.copies.specs.declared.plan.Change.{Change}
use Rattle.copies.specs.declared.plan.Change.TheVariants as C
use Rattle.copies.specs.declared.plan.Plan.{Plan}
use Rattle.recording.specs.Said.{said_in}
use Rattle.copies.specs.Changed.{strips, section_of, record_of, field_of, text_of, kept_tables, changed_tables, changed_model}
use Rattle.copies.specs.Planned.{tables_by}
use Rattle.copies.proofs.KeptLaws.{kept_count}
use Rattle.recording.proofs.SectionLaws.{changed_tables_count}
use Rattle.writing.proofs.SoundLaws.{accepted_said}
use Rattle.page.proofs.LimitLaws.{header_short}
use Rattle.laws.proofs.Earlier.{earlier_none}
use Rattle.writing.proofs.HeadLaws.{head_placed}
use Rattle.writing.proofs.HeaderLaws.{header_texts}
use Rattle.writing.proofs.ModelLaws.{said, Named, planned}

said_length : (xs : List Section) → length (map said_in xs) ≡ length xs
said_length [] = refl
said_length (x ∷ xs) = ap suc (said_length xs)

pub accepted_short : (s : Bytes) → (file_refusal s).number ≡ 0 → length s ≤ limit
unfolding file_refusal
accepted_short s h = header_short s (earlier_none (header_refusal s) (earlier (found (trailer_of s)) (section_refusal s)) h).0

module _ (s : Bytes) (h : (file_refusal s).number ≡ 0) (p : Plan) where
  head_is : head_raw p.ends s (header_values (header_lines s)) ≡ head_form p.ends (head_values (header_lines s))
  head_is =
      head_same p.ends s (header_values (header_lines s)) (head_values (header_lines s)) (head_placed s (header_texts (header_lines s) (accepted_says s h).header))

  tables_count : length (changed_tables (strips p.change) (section_of p.change) (record_of p.change) (field_of p.change) (text_of p.change) (kept_tables p.stays (map said_in (sections s)))) ≡ length (sections s)
  tables_count =
      changed_tables_count (strips p.change) (section_of p.change) (record_of p.change) (field_of p.change) (text_of p.change) (kept_tables p.stays (map said_in (sections s)))
      ∙ kept_count p.stays (map said_in (sections s)) ∙ said_length (sections s)

  pub form_is : (y : Header) (n : ℕ) → y ≡ header_values (header_lines s) → n ≡ length (sections s)
      → head_raw p.ends s y ++ (tables_by p 0 (map said_in (sections s)) ++ line_with p.ends (bytes "eof") (decimal n ∷ []))
      ≡ form_of p.ends (changed_model p (model_of s))
  unfolding form_of changed_model model_of tables_by
  form_is y n e d =
      let z : section_of p.change - 0 ≡ section_of p.change = omega arith in
      rw (accepted_said s h, tables_count, e, head_is, d, z, line_with_is p.ends "eof" (decimal (length (sections s)) ∷ []))

-- what is refused is refused whatever the form

refused_answer : (r : Refusal) (a b : Bytes) (n : ℕ) → eqb r.number 0 ≡ false → put_of r a n ≡ put_of r b n
unfolding put_of put_refusal earlier answered
refused_answer r a b n e = simp e

refused_after : (r : Refusal) (a b before : Bytes) → eqb r.number 0 ≡ false → put_after r a before ≡ put_after r b before
unfolding put_after put_refusal earlier
refused_after r a b before e = simp e

-- the same form by another name, where it is put
pub wrote_as : {r : Refusal} {a b before after : Bytes} {w : Result ℕ Refusal} → (r.number ≡ 0 → a ≡ b) → Wrote r a before after w → Wrote r b before after w
wrote_as {r} {a} {b} {before} {after} {w} f x = by (eqb r.number 0) refl
  where
    by : (q : Bool) → eqb r.number 0 ≡ q → Wrote r b before after w
    by true e = rw (sym (f (eqb-true r.number 0 e))) x
    by false e =
        record { answer = x.answer ∙ refused_answer r a b (length before) e; left = x.left ∙ refused_after r a b before e }

-- what the definitions write by a plan
pub wrote_by : {r : Refusal} {before after : Bytes} {w : Result ℕ Refusal} (s : Bytes) (p : Plan) → (r.number ≡ 0 → Named p.change)
    → Wrote r (form_of p.ends (changed_model p (model_of s))) before after w
    → Wrote r (form_by (record { ends = p.ends; changes = said p.change; stays = p.stays }) s) before after w
unfolding form_by
wrote_by s p b y = wrote_as {b = form_of p.ends (changed (said p.change) (kept p.stays (model_of s)))} (λ z. ap (form_of p.ends) (planned p (model_of s) (b z))) y

-- "Each line ends in LF."
abbrev pub lf_plan : Change → Plan
lf_plan c = record { ends = E.Lf; stays = St.All; change = c }

-- writing and stripping, by the refusal of the file

module _ (s before after : Bytes) (r : Refusal) (w : Result ℕ Refusal) (q : r ≡ file_refusal s) where
  pub write_done : Wrote r (form_of E.Lf (changed_model (lf_plan C.Nothing) (model_of s))) before after w
      → (w ≡ write_of s (length before)) × (after ≡ write_after s before)
  unfolding write_of write_after write_form
  write_done x =
      let y = wrote_by s (lf_plan C.Nothing) (λ z. tt) x in
      (rw (sym q) y.answer, rw (sym q) y.left)

  pub strip_done : Wrote r (form_of E.Lf (changed_model (lf_plan C.Strip) (model_of s))) before after w
      → (w ≡ strip_of s (length before)) × (after ≡ strip_after s before)
  unfolding strip_of strip_after strip_form
  strip_done x =
      let y = wrote_by s (lf_plan C.Strip) (λ z. tt) x in
      (rw (sym q) y.answer, rw (sym q) y.left)
