-- Which law a line breaks first, where its number is one that only a record's fields and rules have. Assumes nothing.
use mathlib.Core.Path.{◌≡◌, refl}
use mathlib.Core.Bool.{Bool, true, false, false≢true}
use mathlib.Core.List.{List, [], ◌∷◌, ◌++◌, Memᴰ}
use mathlib.Core.Logic.{inl, inr}
use Prim.Native.Nat.{ℕ}
use lib.Dec.{eqb}
use lib.ListN.{length}
use borrow.Author.Tests.{eqb-true}
use Rattle.page.specs.Bytes.{Bytes}
use Rattle.page.specs.Lines.{content, blank, command, clean, Rec, Com}
use Rattle.page.specs.Tables.{Rule, rules}
use Rattle.page.specs.Order.{Order, standing}
use Rattle.page.specs.Records.{Record, words}
use Rattle.page.specs.Grammar.{fields_of, Says, Reads, Breaks}
use Rattle.page.specs.Refusals.{Law, law, FirstBroken, either_laws, marks_of, fields_laws, rules_laws, command_laws, laws, gives, OneOf}
use Rattle.page.specs.File.{any}
use Rattle.page.specs.declared.Owner.TheVariants as O
use Rattle.page.specs.declared.Phase.{Phase}
use Rattle.page.specs.declared.Phase.TheVariants as P
use Rattle.laws.proofs.Decides.{Decides, holds, fails, equal}
use Rattle.laws.proofs.Numbers.{other_number}

-- whichever of these laws is broken first, if its number is w then A
pub record Tells (w : ℕ) (A : Type 0) (ls : List Law) : Type 0 where
  pub so : FirstBroken ls w → A

module _ {w : ℕ} {A : Type 0} where
  pub none : Tells w A []
  none = record { so = λ b. absurd b }

  -- a law of another number
  pub other : {v : ℕ} {L : Type 0} {ls : List Law} → ¬ (v ≡ w) → (¬ L → Tells w A ls) → Tells w A (law v L ∷ ls)
  other n k = record { so = λ s. elim s [ inl p ↦ absurd (n p.1) | inr p ↦ (k p.0).so p.1 ] }

  pub this : {L : Type 0} {ls : List Law} → (L → A) → (¬ L → Tells w A ls) → Tells w A (law w L ∷ ls)
  this f k = record { so = λ s. elim s [ inl p ↦ f p.0 | inr p ↦ (k p.0).so p.1 ] }

  either : (b : Bool) {x y : List Law} → (b ≡ true → Tells w A x) → (b ≡ false → Tells w A y) → Tells w A (either_laws b x y)
  either true f g = f refl
  either false f g = g refl

-- what a record's fields and rules are judged by, after 10
abbrev pub record_laws : ℕ → Order → List ℕ → List Bytes → List Law
record_laws t o ms fs =
    fields_laws (standing t o) fs ++
    (rules_laws (λ (r : Rule). (vs : Record) × Reads t o ms fs vs × Breaks vs r) (rules t) ++
    (law 15 ((vs : Record) × Reads t o ms fs vs × Memᴰ (words O.Suggestion []) vs) ∷ []))

-- a record with a field for each column, of which w is told by these
pub data OfRecord (w : ℕ) (latin : Bool) (l : Bytes) : Phase → Order → Type 0 where
  of_record : {t m n : ℕ} {o : Order} → Says latin Rec l → length (fields_of l) ≡ length o → FirstBroken (record_laws t o (marks_of m) (fields_of l)) w →
      OfRecord w latin l (P.Rows t m n) o

-- the numbers of all other laws of a line
abbrev pub other_numbers : List ℕ
other_numbers = 4 ∷ 5 ∷ 6 ∷ 7 ∷ 8 ∷ 9 ∷ 10 ∷ 12 ∷ 15 ∷ 16 ∷ []

module _ (w : ℕ) (apart : gives other_numbers w ≡ false) (latin : Bool) (l : Bytes) where
  beside : (v : ℕ) → OneOf other_numbers v → ¬ (v ≡ w)
  beside v g = other_number other_numbers v w g apart

  command_tell : clean latin (content l) ≡ true → (p : Phase) (o : Order) → Tells w (OfRecord w latin l p o) (command_laws p o (command (content l)) (fields_of l))
  unfolding any
  command_tell ok P.Tbl o = other (beside 10 refl) (λ n. other (beside 7 refl) (λ n. none))
  command_tell ok (P.Atr t) o = other (beside 8 refl) (λ n. none)
  command_tell ok (P.Frm t) o = other (beside 9 refl) (λ n. none)
  command_tell ok (P.Rows t m n) o =
      either (eqb (command (content l)) Rec)
      (λ e. other (beside 10 refl) (λ k. record { so = of_record (record { clean = ok; named = eqb-true (command (content l)) Rec e }) (many (equal (length (fields_of l)) (length o)) k) }))
      (λ e. other (beside 15 refl) (λ k. other (beside 10 refl) (λ k. other (beside 12 refl) (λ k. other (beside 16 refl) (λ k. none)))))
    where
      many : {b : Bool} → Decides (length (fields_of l) ≡ length o) b → ¬ ¬ (length (fields_of l) ≡ length o) → length (fields_of l) ≡ length o
      many (holds e) k = e
      many (fails n) k = absurd (k n)
  command_tell ok (P.Ended t n) o = none

  laws_tell : (p : Phase) (o : Order) → Tells w (OfRecord w latin l p o) (laws latin p o l)
  unfolding laws any
  laws_tell p o =
      other (beside 4 refl) (λ n. either (blank (content l)) (λ e. none) (λ e. other (beside 5 refl) (λ k.
      either (eqb (command (content l)) Com) (λ e. other (beside 15 refl) (λ k. none)) (λ e. other (beside 6 refl) (λ k. command_tell (sure (clean latin (content l)) n) p o)))))
    where
      sure : (b : Bool) → ¬ ¬ (b ≡ true) → b ≡ true
      sure true n = refl
      sure false n = absurd (n false≢true)

  pub told_record : (p : Phase) (o : Order) → FirstBroken (laws latin p o l) w → OfRecord w latin l p o
  told_record p o = (laws_tell p o).so
