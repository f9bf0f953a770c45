-- What a field is read as, and where the text of a field stands in it. Assumes nothing.
use Rattle.std.specs.Prelude.{None, Option, Some}
use mathlib.Core.Path.{◌≡◌, refl}
use mathlib.Core.Bool.{Bool, true, false}
use Prim.Native.Nat.{ℕ, ◌≤◌}
use native.Mathlib.Omega.{arith}
use lib.Dec.{leb}
use lib.ListN.{length}
use Rattle.page.specs.Bytes.{Bytes, pick}
use Rattle.page.specs.Fields.{number_of}
use Rattle.page.specs.Section.{Wording, words_of, text_field, number_field, left_out, field_of}
use Rattle.page.specs.declared.Column.{Column}
use Rattle.page.specs.declared.Field.{Field}
use Rattle.page.specs.declared.Field.TheVariants as F
use Rattle.page.proofs.TextLaws.{words_there}
use Rattle.page.proofs.NumberFieldLaws.{NumberRead, as_number, as_refusal, number_read_so}

-- of a text column a text, with the place that its wording says; of another a number, or that it is missing; or a refusal
pub data Read (c : Column) (f : Bytes) : Field → Type 0 where
  a_text : (x : Wording) → c.text ≡ true → words_of f ≡ Some x → Read c f (F.Text x.span)
  a_number : (n : ℕ) → c.text ≡ false → Read c f (F.Number n)
  no_number : c.text ≡ false → Read c f F.Missing
  no_value : (v : ℕ) → (v ≡ 0 → ⊥) → Read c f (F.Refused v)

pub read_of : (c : Column) (f : Bytes) → Read c f (field_of c f)
unfolding field_of text_field
read_of c f = by c.text (left_out c.optional f) refl
  where
    words : (o : Option Wording) → words_of f ≡ o → c.text ≡ true → Read c f (text_field c.hi o)
    words None q t = no_value 11 (λ (e : ◌≡◌ {A = ℕ} 11 0). omega arith)
    words (Some x) q t = sized (leb (length x.own) c.hi)
      where
        sized : (b : Bool) → Read c f (pick b (F.Text x.span) (F.Refused 13))
        sized true = a_text x t q
        sized false = no_value 13 (λ (e : ◌≡◌ {A = ℕ} 13 0). omega arith)

    number : {r : Field} → NumberRead (number_of f) r → c.text ≡ false → Read c f r
    number (as_number n e) t = a_number n t
    number (as_refusal v n) t = no_value v n

    by : (b d : Bool) → c.text ≡ b → Read c f (pick b (text_field c.hi (words_of f)) (pick d F.Missing (number_field c.day c.lo c.hi (number_of f))))
    by true d t = words (words_of f) refl t
    by false true t = no_number t
    by false false t = number (number_read_so c.day c.lo c.hi (number_of f)) t

-- the text of a field lies within it
pub wording_in : (f : Bytes) (x : Wording) → words_of f ≡ Some x → (x.span.from ≤ x.span.to) × (x.span.to ≤ length f)
wording_in f x e = let a = words_there f x e in (omega (arith, a.begins, a.ends), omega (arith, a.within))
