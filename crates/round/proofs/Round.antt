-- Demand: what is written is read back. For every accepted file whose written form is not too long, the form is accepted, says the same, and
-- is its own written form. Assumes nothing.
use mathlib.Core.Path.{◌≡◌, refl, ap}
use mathlib.Core.Bool.{Bool, true, false}
use mathlib.Core.List.{List, [], ◌∷◌, map}
use mathlib.Core.Logic.{◌⊎◌, inl, inr}
use Prim.Native.Nat.{ℕ, suc, ◌≤◌}
use native.Mathlib.Omega.{arith}
use lib.Dec.{eqb}
use lib.ListN.{length}
use borrow.Author.Tests.{eqb-true, eqb-false}
use Rattle.page.specs.Bytes.{Bytes, pick}
use Rattle.page.specs.Cut.{Section, sections, header_lines}
use Rattle.page.specs.Header.{head_of}
use Rattle.page.specs.Head.{head_values, latin_of}
use Rattle.page.specs.Section.{outcome}
use Rattle.page.specs.Records.{records_of, table_index}
use Rattle.page.specs.Trailer.{trailer_of}
use Rattle.page.specs.Model.{content_of, model_of, changed, kept}
use Rattle.page.specs.Answers.{refusal, sound, earlier, refuse_if}
use Rattle.page.specs.File.{limit, too_long, found, header_refusal, row_given, row_of, rows_of, first_unsound, first_again, filed_of, record_refusal, section_refusal, file_refusal}
use Rattle.page.specs.Form.{form_of}
use Rattle.page.specs.Writing.{form_by, write_form}
use Rattle.page.specs.Rules.{Every, none_left, one_more, SoundHeader}
use Rattle.page.specs.declared.LineEnd.{LineEnd}
use Rattle.page.specs.declared.LineEnd.TheVariants as E
use Rattle.page.specs.declared.Row.{Row}
use Rattle.page.specs.declared.Finding.{Finding}
use Rattle.page.specs.declared.Outcome.{Outcome}
use Rattle.laws.specs.Begins.{begins}
use Rattle.round.specs.Round.{SoundContent, SoundModel}
use Rattle.round.specs.RoundKeys.{KeysHold}
use Rattle.grammar.proofs.Accepts.{denotes_accepted}
use Rattle.grammar.proofs.Readings.{denoted_known, handed_denoted}
use Rattle.laws.proofs.Sections.{sections_begin}
use Rattle.verdicts.proofs.Headers.{header_exactly, header_settled}
use Rattle.round.proofs.RoundKeys.{SoundSection, sound_keys}
use Rattle.round.proofs.RoundForm.{form_model, form_sound}
use Rattle.round.proofs.RoundReads.{denoted_sound}
use Rattle.round.proofs.RoundHeaderReads.{header_said}
use Rattle.laws.proofs.Earlier.{earlier_none}

-- no row is unsound
rows_sound : (i : ℕ) (rs : List Row) → (first_unsound i rs).number ≡ 0 → Every (λ r. r.verdict ≡ 0) rs
unfolding first_unsound
rows_sound i [] h = none_left
rows_sound i (r ∷ rs) h = by (rows_sound (suc i) rs) (eqb r.verdict 0) refl h
  where
    by : ((first_unsound (suc i) rs).number ≡ 0 → Every (λ (q : Row). q.verdict ≡ 0) rs) → (b : Bool) → eqb r.verdict 0 ≡ b →
        (pick b (first_unsound (suc i) rs) (refusal r.verdict i r.line)).number ≡ 0 → Every (λ (q : Row). q.verdict ≡ 0) (r ∷ rs)
    by ih true e h = one_more (eqb-true r.verdict 0 e) (ih h)
    by ih false e h = absurd (eqb-false r.verdict 0 e h)

module _ (latin : Bool) where
  section_sound : (x : Section) → begins x.lines ≡ true → (outcome latin x.lines).verdict ≡ 0 → SoundSection latin x
  section_sound x b e =
      let d = handed_denoted latin x.lines b e in
      record { verdict = e; table = ap (λ (o : Outcome). o.table) (denotes_accepted latin x.lines (table_index x.lines) (records_of latin x.lines) d) }

  content_sound : (x : Section) → begins x.lines ≡ true → (outcome latin x.lines).verdict ≡ 0 → SoundContent latin (content_of latin x)
  unfolding content_of
  content_sound x b e =
      let d = handed_denoted latin x.lines b e in
      record {
        known = denoted_known (table_index x.lines) (records_of latin x.lines) d;
        records = denoted_sound latin (table_index x.lines) (records_of latin x.lines) d;
      }

  sections_sound : {xs : List Section} → Every (λ x. begins x.lines ≡ true) xs → Every (λ r. r.verdict ≡ 0) (map (row_of latin) xs) → Every (SoundSection latin) xs
  unfolding row_of row_given
  sections_sound none_left r = none_left
  sections_sound (one_more {x} b bs) (one_more r rs) = one_more (section_sound x b r) (sections_sound bs rs)

  contents_sound : {xs : List Section} → Every (λ x. begins x.lines ≡ true) xs → Every (λ r. r.verdict ≡ 0) (map (row_of latin) xs) →
      Every (SoundContent latin) (map (content_of latin) xs)
  unfolding row_of row_given
  contents_sound none_left r = none_left
  contents_sound (one_more {x} b bs) (one_more r rs) = one_more (content_sound x b r) (contents_sound bs rs)

-- an accepted file
module _ (s : Bytes) (h : (file_refusal s).number ≡ 0) where
  the_parts : ((header_refusal s).number ≡ 0) × ((section_refusal s).number ≡ 0)
  unfolding file_refusal
  the_parts =
      let a = earlier_none (header_refusal s) (earlier (found (trailer_of s)) (section_refusal s)) h in
      (a.0, (earlier_none (found (trailer_of s)) (section_refusal s) a.1).1)

  head_zero : (head_of (header_lines s)).verdict ≡ 0
  unfolding header_refusal
  head_zero = (earlier_none (refuse_if (too_long s) 1) (found (head_of (header_lines s))) the_parts.0).1

  head_sound : SoundHeader (header_lines s)
  head_sound = by (header_settled (header_lines s))
    where
      by : (head_of (header_lines s) ≡ record { verdict = 0; line = 0 }) ⊎ ((n : ℕ) × (head_of (header_lines s) ≡ record { verdict = 2; line = n })) → SoundHeader (header_lines s)
      by (inl e) = (header_exactly (header_lines s)).0 e
      by (inr e) = absurd (let z : ⊥ = omega (arith, head_zero, ap (λ (f : Finding). f.verdict) e.1) in z)

  rows_zero : Every (λ r. r.verdict ≡ 0) (map (row_of (latin_of s)) (sections s))
  unfolding section_refusal rows_of
  rows_zero =
      rows_sound 1 (map (row_of (latin_of s)) (sections s))
      (earlier_none (first_unsound 1 (rows_of s)) (earlier (first_again [] 1 (rows_of s)) (record_refusal (filed_of s))) the_parts.1).0

  pub accepted_sections : Every (SoundSection (latin_of s)) (sections s)
  accepted_sections = sections_sound (latin_of s) (sections_begin s) rows_zero

  -- says what may be said, and its keys and references hold
  pub accepted_model : SoundModel (model_of s)
  unfolding model_of head_values latin_of
  accepted_model = record { head = header_said (header_lines s) head_sound; tables = contents_sound (latin_of s) (sections_begin s) rows_zero }

  pub accepted_keys : KeysHold (model_of s).tables
  accepted_keys = sound_keys s accepted_sections the_parts.1

  -- written, however its lines end, it is read back; and written once more, however they end then, it is what it would have been at once
  module _ (ends : LineEnd) (short : length (form_of ends (model_of s)) ≤ limit) where
    pub any_accepted : file_refusal (form_of ends (model_of s)) ≡ sound
    any_accepted = form_sound ends (model_of s) accepted_model short accepted_keys

    pub any_model : model_of (form_of ends (model_of s)) ≡ model_of s
    any_model = form_model ends (model_of s) accepted_model short

    pub any_form : (other : LineEnd) → form_of other (model_of (form_of ends (model_of s))) ≡ form_of other (model_of s)
    any_form other = ap (form_of other) any_model

  -- the round trip
  module _ (short : length (write_form s) ≤ limit) where
    pub round_accepted : file_refusal (write_form s) ≡ sound
    unfolding write_form form_by changed kept
    round_accepted = any_accepted E.Lf short

    pub round_model : model_of (write_form s) ≡ model_of s
    unfolding write_form form_by changed kept
    round_model = any_model E.Lf short

    pub round_form : write_form (write_form s) ≡ write_form s
    unfolding write_form form_by changed kept
    round_form = any_form E.Lf short E.Lf
