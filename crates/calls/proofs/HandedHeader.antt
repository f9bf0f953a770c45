-- The header that is handed out is the file's: its date, time and character set, and at each span the bytes of its text. Assumes nothing.
use Rattle.std.specs.Prelude.{Err, None, Ok, Some, Option}
use mathlib.Core.Path.{◌≡◌, refl, ap}
use mathlib.Core.Bool.{Bool, true, false, false≢true}
use mathlib.Core.List.{List, [], ◌∷◌}
use mathlib.Core.Logic.{◌⊎◌, inl, inr}
use Prim.Native.Nat.{ℕ, ◌<◌}
use native.Mathlib.Omega.{arith}
use lib.Dec.{eqb}
use lib.ListN.{length, get_or}
use borrow.Author.Tests.{eqb-true}
use Rattle.page.specs.Bytes.{Bytes, pick, part}
use Rattle.page.specs.Lines.{Mod, Src, Chs, Ver, Ifv, Dve, Fft, Com, Missing}
use Rattle.page.specs.Fields.{fields, text_of}
use Rattle.page.specs.Cut.{header_lines}
use Rattle.page.specs.Header.{is_text, text_ok, holds, head_of}
use Rattle.page.specs.Head.{field_in, text_in, text_if, stands_in, text_span, span_if, head_values, header_values}
use Rattle.page.specs.Records.{own_bytes}
use Rattle.page.specs.Places.{line_of}
use Rattle.page.specs.Model.{model_of}
use Rattle.page.specs.Form.{doubled}
use Rattle.page.specs.Rules.{times, SoundHeader}
use Rattle.page.specs.Answers.{refuse_if, answered}
use Rattle.page.specs.File.{too_long, found, header_refusal}
use Rattle.page.specs.Reading.{header_of}
use Rattle.page.specs.declared.Finding.{Finding}
use Rattle.page.specs.declared.Header.{Header}
use Rattle.page.proofs.TestLaws.{and_right}
use Rattle.verdicts.proofs.Headers.{header_exactly, header_settled}
use Rattle.laws.proofs.Earlier.{earlier_none}
use Rattle.round.proofs.RoundHeaderReads.{held_said, once_said, the_once, source_parts}
use Rattle.calls.specs.HandedHeader.{StatedFor, absent, stated, HeaderStandsFor}
use Rattle.calls.proofs.HeaderLies.{header_lies, between_quotes}

-- the field of a text is there

some_field : (fs : List Bytes) → is_text (text_of (get_or fs 0 [])) ≡ true → 0 < length fs
unfolding text_of
some_field [] e = absurd (false≢true e)
some_field (f ∷ fs) e = omega arith

some_text : (o : Option Bytes) → is_text o ≡ true → o ≡ Some (own_bytes o)
some_text None e = absurd (false≢true e)
some_text (Some u) e = refl

module _ (s : Bytes) (h : SoundHeader (header_lines s)) where
  abbrev ls : List Bytes
  ls = header_lines s

  text_placed : (k : ℕ) → is_text (text_of (field_in k 0 ls)) ≡ true → part (text_span k ls) s ≡ doubled (text_in k ls)
  unfolding text_span text_in field_in
  text_placed k t =
      let fs : List Bytes = fields (line_of k 0 ls).rest in
      between_quotes s (line_of k 0 ls) (header_lies s k) 0 (some_field fs t) (own_bytes (text_of (get_or fs 0 []))) (some_text (text_of (get_or fs 0 [])) t)

  module _ (k : ℕ) (nc : ¬ (k ≡ Com)) (nm : ¬ (k ≡ Missing)) (no : eqb Mod k ≡ false) (a : eqb k Src ≡ false) (b : eqb k Chs ≡ false) where
    text_held : stands_in k ls ≡ true → is_text (text_of (field_in k 0 ls)) ≡ true
    unfolding field_in holds text_ok
    text_held e =
        let fs : List Bytes = fields (line_of k 0 ls).rest in
        let x : text_ok fs ≡ true = rw (a, b) at (held_said ls h k nc nm no e) in
        and_right (eqb (length fs) 1) (is_text (text_of (get_or fs 0 []))) x

    once_placed : times k h.others ≡ 1 → part (text_span k ls) s ≡ doubled (text_in k ls)
    once_placed e = text_placed k (text_held (once_said ls h k nc nm no e))

    stated_placed : StatedFor s (span_if k ls) (text_if k ls)
    unfolding span_if text_if
    stated_placed = by (stands_in k ls) refl
      where
        by : (q : Bool) → stands_in k ls ≡ q → StatedFor s (pick q (Some (text_span k ls)) None) (pick q (Some (text_in k ls)) None)
        by true e = stated (text_placed k (text_held e))
        by false e = absent

  pub header_stands : HeaderStandsFor s (header_values ls) (head_values ls)
  unfolding header_values head_values field_in
  header_stands =
      record {
        source = text_placed Src (source_parts ls h).0;
        date = refl;
        time = refl;
        latin = refl;
        ver = once_placed Ver (λ (e : Ver ≡ Com). omega arith) (λ (e : Ver ≡ Missing). omega arith) refl refl refl (the_once ls h).2;
        ifv = once_placed Ifv (λ (e : Ifv ≡ Com). omega arith) (λ (e : Ifv ≡ Missing). omega arith) refl refl refl (the_once ls h).3;
        dve = stated_placed Dve (λ (e : Dve ≡ Com). omega arith) (λ (e : Dve ≡ Missing). omega arith) refl refl refl;
        fft = stated_placed Fft (λ (e : Fft ≡ Com). omega arith) (λ (e : Fft ≡ Missing). omega arith) refl refl refl;
      }

-- a header that nothing refuses keeps the rules
header_open : (s : Bytes) → (header_refusal s).number ≡ 0 → SoundHeader (header_lines s)
unfolding header_refusal
header_open s h = by (header_settled (header_lines s))
  where
    no_verdict : (head_of (header_lines s)).verdict ≡ 0
    no_verdict = (earlier_none (refuse_if (too_long s) 1) (found (head_of (header_lines s))) h).1

    by : (head_of (header_lines s) ≡ record { verdict = 0; line = 0 }) ⊎ ((n : ℕ) × (head_of (header_lines s) ≡ record { verdict = 2; line = n })) → SoundHeader (header_lines s)
    by (inl e) = (header_exactly (header_lines s)).0 e
    by (inr e) = absurd (let z : ⊥ = omega (arith, no_verdict, ap (λ (f : Finding). f.verdict) e.1) in z)

-- `header`: "Header values are the texts, date, time and character set"; what is handed out stands for the model's
pub header_handed : (s : Bytes) (x : Header) → header_of s ≡ Ok x → HeaderStandsFor s x (model_of s).head
unfolding header_of answered model_of
header_handed s x e = by (eqb (header_refusal s).number 0) refl e
  where
    by : (b : Bool) → eqb (header_refusal s).number 0 ≡ b → pick b (Ok (header_values (header_lines s))) (Err (header_refusal s)) ≡ Ok x →
        HeaderStandsFor s x (head_values (header_lines s))
    by true h e =
        let z : header_values (header_lines s) ≡ x = cc in
        rw z at (header_stands s (header_open s (eqb-true (header_refusal s).number 0 h)))
    by false h e = absurd (false≢true (cc))
