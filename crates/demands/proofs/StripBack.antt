-- A stripped file is an accepted file that says the same with the suggestions emptied. Assumes nothing.
use mathlib.Core.Path.{◌≡◌, refl, ap, ◌∙◌}
use mathlib.Core.Bool.{Bool}
use mathlib.Core.List.{List, map}
use Prim.Native.Nat.{ℕ, ◌≤◌}
use native.Mathlib.Omega.{arith}
use lib.ListN.{length}
use Rattle.page.specs.Bytes.{Bytes, all, keep, unpadded}
use Rattle.page.specs.Tables.{Named, columns}
use Rattle.page.specs.Records.{Record}
use Rattle.page.specs.Model.{Content, Model, model_of, strip_datum, strip_content, strip_model, changed, kept}
use Rattle.page.specs.Answers.{sound}
use Rattle.page.specs.File.{limit, file_refusal}
use Rattle.page.specs.Form.{form_of}
use Rattle.page.specs.Writing.{form_by, write_form, strip_form}
use Rattle.page.specs.Rules.{Every, none_left, one_more}
use Rattle.page.specs.declared.LineEnd.{LineEnd}
use Rattle.page.specs.declared.LineEnd.TheVariants as E
use Rattle.round.specs.Round.{a_number, no_number, a_text, a_suggestion, FitAll, no_value, a_value, SoundRecord, SoundContent, SoundModel}
use Rattle.round.specs.RoundKeys.{KeysHold}
use Rattle.demands.specs.RoundAlike.{Pairs, no_pair, a_pair, Alike, alike_none, alike_same, alike_text, AlikeContent}
use Rattle.round.proofs.RoundForm.{form_model, form_sound}
use Rattle.demands.proofs.RoundAlike.{keys_alike, sound_alike}
use Rattle.round.proofs.Round.{accepted_model, accepted_keys}
use Rattle.demands.proofs.Strip.{strip_twice}

module _ (latin : Bool) where
  strip_fit : {cs : List Named} {vs : Record} → FitAll latin cs vs → FitAll latin cs (map strip_datum vs)
  unfolding strip_datum all keep unpadded
  strip_fit no_value = no_value
  strip_fit (a_value (a_number k l h d) g) = a_value (a_number k l h d) (strip_fit g)
  strip_fit (a_value (no_number k o) g) = a_value (no_number k o) (strip_fit g)
  strip_fit (a_value (a_text k l a e) g) = a_value (a_text k l a e) (strip_fit g)
  strip_fit (a_value {c} (a_suggestion k f p l a e) g) = a_value (a_text k (let z : 0 ≤ c.column.hi = omega arith in z) refl refl) (strip_fit g)

  strip_alike : {cs : List Named} {vs : Record} → FitAll latin cs vs → Alike cs vs (map strip_datum vs)
  unfolding strip_datum
  strip_alike no_value = alike_none
  strip_alike (a_value (a_number k l h d) g) = alike_same (strip_alike g)
  strip_alike (a_value (no_number k o) g) = alike_same (strip_alike g)
  strip_alike (a_value (a_text k l a e) g) = alike_same (strip_alike g)
  strip_alike (a_value (a_suggestion k f p l a e) g) = alike_text f (strip_alike g)

  records_sound : (t : ℕ) {rs : List Record} → Every (SoundRecord latin t) rs → Every (SoundRecord latin t) (map (map strip_datum) rs)
  records_sound t none_left = none_left
  records_sound t (one_more r rs) = one_more (sound_alike latin t r (strip_fit r.fit) (strip_alike r.fit)) (records_sound t rs)

  records_alike : (t : ℕ) {rs : List Record} → Every (SoundRecord latin t) rs → Pairs (Alike (columns t)) rs (map (map strip_datum) rs)
  records_alike t none_left = no_pair
  records_alike t (one_more r rs) = a_pair (strip_alike r.fit) (records_alike t rs)

  tables_sound : {cs : List Content} → Every (SoundContent latin) cs → Every (SoundContent latin) (map strip_content cs)
  unfolding strip_content
  tables_sound none_left = none_left
  tables_sound (one_more {x} c cs) = one_more (record { known = c.known; records = records_sound x.table c.records }) (tables_sound cs)

  tables_alike : {cs : List Content} → Every (SoundContent latin) cs → Pairs AlikeContent cs (map strip_content cs)
  unfolding strip_content
  tables_alike none_left = no_pair
  tables_alike (one_more {x} c cs) = a_pair (record { table = refl; records = records_alike x.table c.records }) (tables_alike cs)

pub strip_sound : (m : Model) → SoundModel m → SoundModel (strip_model m)
unfolding strip_model
strip_sound m s = record { head = s.head; tables = tables_sound m.head.latin s.tables }

pub strip_keys : (m : Model) → SoundModel m → KeysHold m.tables → KeysHold (strip_model m).tables
unfolding strip_model
strip_keys m s k = keys_alike (tables_alike m.head.latin s.tables) k

-- "Stripping gives the written form with marked texts empty and no marks.": however the lines end
module _ (s : Bytes) (h : (file_refusal s).number ≡ 0) where
  module _ (ends : LineEnd) (short : length (form_of ends (strip_model (model_of s))) ≤ limit) where
    pub any_strip_accepted : file_refusal (form_of ends (strip_model (model_of s))) ≡ sound
    any_strip_accepted =
        form_sound ends (strip_model (model_of s)) (strip_sound (model_of s) (accepted_model s h)) short (strip_keys (model_of s) (accepted_model s h) (accepted_keys s h))

    pub any_strip_model : model_of (form_of ends (strip_model (model_of s))) ≡ strip_model (model_of s)
    any_strip_model = form_model ends (strip_model (model_of s)) (strip_sound (model_of s) (accepted_model s h)) short

  module _ (short : length (strip_form s) ≤ limit) where
    pub strip_accepted : file_refusal (strip_form s) ≡ sound
    unfolding strip_form form_by changed kept
    strip_accepted = any_strip_accepted E.Lf short

    pub strip_model_back : model_of (strip_form s) ≡ strip_model (model_of s)
    unfolding strip_form form_by changed kept
    strip_model_back = any_strip_model E.Lf short

    -- stripped again, or written again, it is the same
    pub strip_form_again : strip_form (strip_form s) ≡ strip_form s
    unfolding strip_form form_by changed kept
    strip_form_again = ap (λ (m : Model). form_of E.Lf (strip_model m)) strip_model_back ∙ ap (form_of E.Lf) (strip_twice (model_of s))

    pub strip_written : write_form (strip_form s) ≡ strip_form s
    unfolding strip_form write_form form_by changed kept
    strip_written = ap (form_of E.Lf) strip_model_back
