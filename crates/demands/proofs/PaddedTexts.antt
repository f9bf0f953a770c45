-- A record's text is exactly what stands before the spaces at its end, and none of an accepted file, so none that is written of it, ends in
-- one. Assumes nothing.
use Rattle.std.specs.Prelude.{Some}
use mathlib.Core.Path.{◌≡◌, refl, ap, sym, ◌∙◌}
use mathlib.Core.Bool.{Bool, true, false}
use mathlib.Core.List.{List, [], ◌∷◌, ◌++◌, append_assoc, append-nil}
use mathlib.Core.Logic.{◌↔◌}
use Prim.Native.Nat.{ℕ, zero, suc, ◌-◌}
use native.Mathlib.Omega.{arith}
use borrow.Author.Tests.{eq-eqb, ne_eqb, eqb-true}
use lib.Dec.{eqb}
use lib.ListN.{length, get_or, take}
use lib.Seq.{take_all, take-append_seam, length-take-le}
use Rattle.page.specs.Bytes.{Bytes, keep, kept_after, space, unpadded}
use Rattle.page.specs.Tables.{Named}
use Rattle.page.specs.Section.{record_text}
use Rattle.page.specs.Records.{Datum, number, missing, words, Record}
use Rattle.page.specs.File.{file_refusal}
use Rattle.page.specs.Model.{Content, model_of, datum_at}
use Rattle.page.specs.Form.{quoted}
use Rattle.page.specs.Rules.{Every, none_left, one_more}
use Rattle.page.specs.declared.Column.{Column}
use Rattle.page.specs.declared.Owner.{Owner}
use Rattle.page.proofs.ScanLaws.{keep_le, keep_on, keep_snoc, keep_stop, unpadded_length}
use Rattle.page.proofs.TextLaws.{text_quoted, quoted_text, record_text_is, padded_of, record_trimmed}
use Rattle.round.specs.Round.{Fits, a_number, no_number, a_text, a_suggestion, FitAll, no_value, a_value, SoundRecord, SoundContent}
use Rattle.round.proofs.Round.{accepted_model}
use Rattle.demands.specs.Lexical.{blanks, PaddedText}

-- what is left of a text, and its spaces
unpadded_blanks : (w : Bytes) → w ≡ unpadded w ++ blanks (length w - keep space w)
unfolding unpadded keep blanks
unpadded_blanks [] = refl
unpadded_blanks (b ∷ w) = by (eqb b 32) refl (keep space w) (unpadded_blanks w)
  where
    by : (d : Bool) → eqb b 32 ≡ d → (n : ℕ) → w ≡ take n w ++ blanks (length w - n) → b ∷ w ≡ take (kept_after d n) (b ∷ w) ++ blanks (suc (length w) - kept_after d n)
    by true e zero h =
        let z : suc (length w) - 0 ≡ suc (length w) = omega arith in
        let y : length w - 0 ≡ length w = omega arith in
        let x : w ≡ blanks (length w) = rw y at h in
        rw (z, eqb-true b 32 e) (ap (λ (l : Bytes). 32 ∷ l) x)
    by true e (suc n) h =
        let z : suc (length w) - suc (suc n) ≡ length w - suc n = omega arith in
        rw z (ap (λ (l : Bytes). b ∷ l) h)
    by false e n h =
        let z : suc (length w) - suc n ≡ length w - n = omega arith in
        rw z (ap (λ (l : Bytes). b ∷ l) h)

-- spaces behind a text are not kept
keep_blanks : (t : Bytes) (n : ℕ) → keep space (t ++ blanks n) ≡ keep space t
unfolding blanks
keep_blanks t zero = ap (keep space) (append-nil t)
keep_blanks t (suc n) = ap (keep space) (sym (append_assoc t (32 ∷ []) (blanks n))) ∙ (keep_blanks (t ++ 32 ∷ []) n ∙ keep_snoc space t 32)

abbrev Bare : Bytes → Type 0
Bare t = ¬ (get_or t (length t - 1) 0 ≡ 32)

bare_kept : (t : Bytes) → Bare t → keep space t ≡ length t
unfolding keep
bare_kept [] n = refl
bare_kept (b ∷ t) n =
    let l : Bytes = b ∷ t in
    ap (keep space) (sym (take_all (length l) l (omega arith)))
    ∙ keep_stop space l (length l) (omega arith) (omega arith) (ne_eqb (get_or l (length l - 1) 0) 32 n)

kept_bare : (t : Bytes) → unpadded t ≡ t → Bare t
kept_bare [] e q = omega arith
kept_bare (b ∷ t) e q =
    let l : Bytes = b ∷ t in
    let k : keep space (take (length l) l) ≡ keep space (take (length l - 1) l) =
    keep_on space l (length l) (omega arith) (omega arith) (eq-eqb (get_or l (length l - 1) 0) 32 q) in
    let w : take (length l) l ≡ l = take_all (length l) l (omega arith) in
    omega (arith, ap (keep space) w, unpadded_length l, ap length e, keep_le space (take (length l - 1) l), length-take-le (length l - 1) l (omega arith))

pub padded_exactly : (f t : Bytes) → record_text f ≡ Some t ↔ PaddedText f t
unfolding unpadded
padded_exactly f t = (there, back)
  where
    there : record_text f ≡ Some t → PaddedText f t
    there e =
        let x = padded_of f t e in
        record {
          spaces = length x.whole - keep space x.whole;
          whole = text_quoted f x.whole x.is ∙ ap quoted (unpadded_blanks x.whole ∙ ap (λ (u : Bytes). u ++ blanks (length x.whole - keep space x.whole)) (sym x.own));
          bare = kept_bare t (record_trimmed f t e);
        }

    back : PaddedText f t → record_text f ≡ Some t
    back p =
        let k : keep space (t ++ blanks p.spaces) ≡ length t = keep_blanks t p.spaces ∙ bare_kept t p.bare in
        rw (p.whole, record_text_is (quoted (t ++ blanks p.spaces)), quoted_text (t ++ blanks p.spaces), k, take-append_seam t (blanks p.spaces))

-- a value that may be said
abbrev Trimmed : Datum → Type 0
Trimmed (number n) = Unit
Trimmed missing = Unit
Trimmed (words o t) = unpadded t ≡ t

fits_trimmed : {latin : Bool} {c : Column} {v : Datum} → Fits latin c v → Trimmed v
fits_trimmed (a_number x l h d) = tt
fits_trimmed (no_number x o) = tt
fits_trimmed (a_text x l a e) = e
fits_trimmed (a_suggestion x m p l a e) = e

values_trimmed : {latin : Bool} {cs : List Named} {vs : Record} → FitAll latin cs vs → (k : ℕ) → Trimmed (get_or vs k (number 0))
values_trimmed no_value k = tt
values_trimmed (a_value x xs) zero = fits_trimmed x
values_trimmed (a_value x xs) (suc k) = values_trimmed xs k

records_trimmed : {latin : Bool} {t : ℕ} {rs : List Record} → Every (SoundRecord latin t) rs → (r k : ℕ) → Trimmed (get_or (get_or rs r []) k (number 0))
records_trimmed none_left r k = tt
records_trimmed (one_more x xs) zero k = values_trimmed x.fit k
records_trimmed (one_more x xs) (suc r) k = records_trimmed xs r k

tables_trimmed : {latin : Bool} {cs : List Content} → Every (SoundContent latin) cs → (i r k : ℕ) →
    Trimmed (get_or (get_or (get_or cs i (record { table = 0; records = [] })).records r []) k (number 0))
tables_trimmed none_left i r k = tt
tables_trimmed (one_more x xs) zero r k = records_trimmed x.records r k
tables_trimmed (one_more x xs) (suc i) r k = tables_trimmed xs i r k

pub model_trimmed : (s : Bytes) → (file_refusal s).number ≡ 0 → (i r f : ℕ) (o : Owner) (t : Bytes) → datum_at i r f (model_of s) ≡ words o t → unpadded t ≡ t
unfolding datum_at
model_trimmed s a i r f o t e = rw e at (tables_trimmed (accepted_model s a).tables (i - 1) (r - 1) (f - 1))
