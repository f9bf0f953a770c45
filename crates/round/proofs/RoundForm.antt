-- The written form of what may be said is an accepted file that says it. Assumes nothing.
use mathlib.Core.Path.{◌≡◌, refl, ap, sym, ◌∙◌}
use mathlib.Core.Bool.{Bool}
use mathlib.Core.List.{List, [], ◌∷◌, ◌++◌, map}
use Prim.Native.Nat.{◌<◌, ◌≤◌, ◌^◌}
use Prim.Native.String.{String}
use native.Mathlib.Omega.{arith}
use lib.ListN.{length, length-append, length-map}
use borrow.Author.Tests.{eq-eqb, le-ltb}
use Rattle.page.specs.Bytes.{Bytes, bytes}
use Rattle.page.specs.Tables as Tables
use Rattle.page.specs.Cut.{Section, sections}
use Rattle.page.specs.Head.{latin_of}
use Rattle.page.specs.Records.{Record, records_of, table_index}
use Rattle.page.specs.Model.{Content, Model, content_of, model_of}
use Rattle.page.specs.Trailer.{eof_ok, all_blank, trailer_finding, trailer_of}
use Rattle.page.specs.Answers.{sound, earlier, refuse_if}
use Rattle.page.specs.File.{limit, too_long, header_refusal, file_refusal}
use Rattle.page.specs.Form.{line, line_end, separated, datum_text, decimal, marks, record_form, records_form, table_head, content_form, tables_form, head_form, form_of}
use Rattle.page.specs.Rules.{Every, none_left, one_more}
use Rattle.page.specs.declared.LineEnd.{LineEnd}
use Rattle.page.proofs.LineEndLaws.{line_end_some}
use Rattle.round.specs.Round.{SoundContent, SoundModel}
use Rattle.round.specs.RoundKeys.{KeysHold}
use Rattle.round.proofs.WrittenNumbers.{number_decimal}
use Rattle.round.proofs.RoundSections.{content_lines, outcome_back, table_back, records_back}
use Rattle.round.proofs.RoundHeader.{header_back}
use Rattle.round.proofs.RoundHeaderValues.{latin_back, values_back}
use Rattle.round.proofs.RoundCut.{eof_seen, header_form, section_lines, trailer_form}
use Rattle.round.proofs.RoundKeys.{SoundSection, keys_sound}

-- a form has at least as many bytes as records

line_some : (ends : LineEnd) (c : String) (fs : List Bytes) → 0 < length (line ends c fs)
unfolding line
line_some ends c fs = omega (arith, length-append (bytes c) (separated fs ++ line_end ends), length-append (separated fs) (line_end ends), line_end_some ends)

records_size : (ends : LineEnd) (rs : List Record) → length rs ≤ length (records_form ends rs)
unfolding records_form record_form
records_size ends [] = omega arith
records_size ends (r ∷ rs) =
    omega (arith, records_size ends rs, length-append (record_form ends r) (records_form ends rs), length-append (marks ends 1 r) (line ends "rec" (map datum_text r)), line_some ends "rec" (map datum_text r))

content_size : (ends : LineEnd) (c : Content) → length c.records ≤ length (content_form ends c)
unfolding content_form
content_size ends c =
    omega (
      arith,
      records_size ends c.records,
      length-append (table_head ends (Tables.table_at c.table)) (records_form ends c.records ++ line ends "end" (decimal (length c.records) ∷ [])),
      length-append (records_form ends c.records) (line ends "end" (decimal (length c.records) ∷ [])),
    )

content_some : (ends : LineEnd) (c : Content) → 0 < length (content_form ends c)
unfolding content_form
content_some ends c =
    omega (
      arith,
      line_some ends "end" (decimal (length c.records) ∷ []),
      length-append (table_head ends (Tables.table_at c.table)) (records_form ends c.records ++ line ends "end" (decimal (length c.records) ∷ [])),
      length-append (records_form ends c.records) (line ends "end" (decimal (length c.records) ∷ [])),
    )

tables_size : (ends : LineEnd) (cs : List Content) → length cs ≤ length (tables_form ends cs)
unfolding tables_form
tables_size ends [] = omega arith
tables_size ends (c ∷ cs) = omega (arith, tables_size ends cs, content_some ends c, length-append (content_form ends c) (tables_form ends cs))

-- a section that may be said, of few enough records to be counted
record Readable (latin : Bool) (c : Content) : Type 0 where
  good : SoundContent latin c
  few : length c.records < 10 ^ 18

readable : (ends : LineEnd) (latin : Bool) {cs : List Content} → Every (SoundContent latin) cs → length (tables_form ends cs) ≤ limit → Every (Readable latin) cs
unfolding tables_form
readable ends latin none_left h = none_left
readable ends latin (one_more {x} {xs} s ss) h =
    one_more (record { good = s; few = omega (arith, content_size ends x, length-append (content_form ends x) (tables_form ends xs)) })
    (readable ends latin ss (omega (arith, length-append (content_form ends x) (tables_form ends xs))))

-- what a section says is its lines' to say
said : Bool → List Bytes → Content
said latin ls = record { table = table_index ls; records = records_of latin ls }

said_lines : (latin : Bool) (xs : List Section) → map (content_of latin) xs ≡ map (said latin) (map (λ (x : Section). x.lines) xs)
unfolding content_of said
said_lines latin [] = refl
said_lines latin (x ∷ xs) = rw (said_lines latin xs)

said_back : (ends : LineEnd) (latin : Bool) {cs : List Content} → Every (Readable latin) cs → map (said latin) (map (content_lines ends) cs) ≡ cs
unfolding said
said_back ends latin none_left = refl
said_back ends latin (one_more {x} r rs) = rw (table_back ends latin x r.good r.few, records_back ends latin x r.good r.few, said_back ends latin rs)

sound_lines : (ends : LineEnd) (latin : Bool) (xs : List Section) {cs : List Content} → map (λ (x : Section). x.lines) xs ≡ map (content_lines ends) cs → Every (Readable latin) cs →
    Every (SoundSection latin) xs
sound_lines ends latin [] e none_left = none_left
sound_lines ends latin [] e (one_more r rs) = absurd (let z : ⊥ = omega (arith, ap length e) in z)
sound_lines ends latin (x ∷ xs) e none_left = absurd (let z : ⊥ = omega (arith, ap length e) in z)
sound_lines ends latin (x ∷ xs) e (one_more {x = c} {xs = cs} r rs) =
    let h : x.lines ≡ content_lines ends c = cc in
    let t : map (λ (y : Section). y.lines) xs ≡ map (content_lines ends) cs = cc in
    one_more {x = x}
    (record { verdict = rw (h, outcome_back ends latin c r.good r.few); table = rw (h, outcome_back ends latin c r.good r.few, table_back ends latin c r.good r.few) })
    (sound_lines ends latin xs t rs)

module _ (ends : LineEnd) (m : Model) (s : SoundModel m) (short : length (form_of ends m) ≤ limit) where
  tables_short : length (tables_form ends m.tables) ≤ limit
  unfolding form_of
  tables_short =
      omega (
        arith,
        length-append (head_form ends m.head) (tables_form ends m.tables ++ line ends "eof" (decimal (length m.tables) ∷ [])),
        length-append (tables_form ends m.tables) (line ends "eof" (decimal (length m.tables) ∷ [])),
      )

  all_readable : Every (Readable m.head.latin) m.tables
  all_readable = readable ends m.head.latin s.tables tables_short

  pub latin_form : latin_of (form_of ends m) ≡ m.head.latin
  unfolding latin_of
  latin_form = rw (header_form ends m s) (latin_back ends m.head s.head)

  -- the written form says what was written
  pub form_model : model_of (form_of ends m) ≡ m
  unfolding model_of
  form_model =
      rw (header_form ends m s, values_back ends m.head s.head, latin_form, said_lines m.head.latin (sections (form_of ends m)), section_lines ends m s, said_back ends m.head.latin all_readable)

  pub form_sections : Every (SoundSection (latin_of (form_of ends m))) (sections (form_of ends m))
  form_sections = rw latin_form (sound_lines ends m.head.latin (sections (form_of ends m)) (section_lines ends m s) all_readable)

  count_back : length (sections (form_of ends m)) ≡ length m.tables
  count_back =
      sym (length-map (sections (form_of ends m)) (λ (x : Section). x.lines)) ∙ ap length (section_lines ends m s) ∙ length-map m.tables (content_lines ends)

  pub trailer_back : trailer_of (form_of ends m) ≡ record { verdict = 0; line = 0 }
  unfolding trailer_of trailer_finding eof_ok all_blank
  trailer_back =
      let e = eof_seen ends (length m.tables) in
      let n : length m.tables < 10 ^ 18 = omega (arith, tables_size ends m.tables, tables_short) in
      rw (trailer_form ends m s, e.clean, e.split, number_decimal (length m.tables) n, count_back, eq-eqb (length m.tables) (length m.tables) refl)

  header_sound : header_refusal (form_of ends m) ≡ sound
  unfolding header_refusal too_long earlier refuse_if
  header_sound = rw (le-ltb limit (length (form_of ends m)) short, header_form ends m s, header_back ends m.head s.head)

  -- and is accepted
  pub form_sound : KeysHold m.tables → file_refusal (form_of ends m) ≡ sound
  unfolding file_refusal earlier
  form_sound k = rw (header_sound, trailer_back) (keys_sound (form_of ends m) form_sections (rw form_model k))
