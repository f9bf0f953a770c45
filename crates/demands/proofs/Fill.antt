-- Filling puts the given text, a suggestion's, at its place, and changes nothing else. Assumes nothing.
use mathlib.Core.Path.{◌≡◌, refl, ap}
use mathlib.Core.List.{List, [], ◌∷◌}
use Prim.Native.Nat.{ℕ, zero, suc, ◌-◌, ◌≤◌, ◌<◌}
use native.Mathlib.Omega.{arith}
use lib.ListN.{length, get_or}
use Rattle.page.specs.Bytes.{Bytes}
use Rattle.page.specs.Records.{Datum, number, words}
use Rattle.page.specs.Model.{Content, Model, change, fill_record, fill_content, fill_model, datum_at}
use Rattle.page.specs.declared.Owner.TheVariants as O

module _ {A : Type 0} (f : A → A) where
  pub change_here : (xs : List A) (k : ℕ) (d : A) → k < length xs → get_or (change f k xs) k d ≡ f (get_or xs k d)
  unfolding change
  change_here [] k d h = absurd (omega arith)
  change_here (x ∷ xs) zero d h = refl
  change_here (x ∷ xs) (suc k) d h = change_here xs k d (omega arith)

  pub change_there : (xs : List A) (k j : ℕ) (d : A) → ¬ (j ≡ k) → get_or (change f k xs) j d ≡ get_or xs j d
  unfolding change
  change_there [] k j d n = refl
  change_there (x ∷ xs) zero zero d n = absurd (n refl)
  change_there (x ∷ xs) zero (suc j) d n = refl
  change_there (x ∷ xs) (suc k) zero d n = refl
  change_there (x ∷ xs) (suc k) (suc j) d n = change_there xs k j d (λ (e : j ≡ k). n (ap suc e))

  pub change_length : (xs : List A) (k : ℕ) → length (change f k xs) ≡ length xs
  unfolding change
  change_length [] k = refl
  change_length (x ∷ xs) zero = refl
  change_length (x ∷ xs) (suc k) = rw (change_length xs k)

abbrev pub no_content : Content
no_content = record { table = 0; records = [] }

module _ (i r f : ℕ) (t : Bytes) (m : Model) where
  abbrev table_here : Content
  table_here = get_or m.tables (i - 1) no_content

  -- the filled value is the given text, and a suggestion's
  pub fill_here : 0 < i → i ≤ length m.tables → 0 < r → r ≤ length table_here.records → 0 < f → f ≤ length (get_or table_here.records (r - 1) []) →
      datum_at i r f (fill_model i r f t m) ≡ words O.Suggestion t
  unfolding datum_at fill_model fill_content fill_record
  fill_here a b c d e g =
      rw (
        change_here (fill_content r f t) m.tables (i - 1) no_content (omega arith),
        change_here (fill_record f t) table_here.records (r - 1) [] (omega arith),
        change_here (λ (v : Datum). words O.Suggestion t) (get_or table_here.records (r - 1) []) (f - 1) (number 0) (omega arith),
      )

  -- any other value is as it was
  pub fill_other_section : (j q g : ℕ) → 0 < i → 0 < j → ¬ (j ≡ i) → datum_at j q g (fill_model i r f t m) ≡ datum_at j q g m
  unfolding datum_at fill_model
  fill_other_section j q g a b n =
      rw (change_there (fill_content r f t) m.tables (i - 1) (j - 1) no_content (λ (e : j - 1 ≡ i - 1). n (omega arith)))

  pub fill_other_record : (q g : ℕ) → 0 < i → i ≤ length m.tables → 0 < r → 0 < q → ¬ (q ≡ r) → datum_at i q g (fill_model i r f t m) ≡ datum_at i q g m
  unfolding datum_at fill_model fill_content
  fill_other_record q g a b c d n =
      rw (
        change_here (fill_content r f t) m.tables (i - 1) no_content (omega arith),
        change_there (fill_record f t) table_here.records (r - 1) (q - 1) [] (λ (e : q - 1 ≡ r - 1). n (omega arith)),
      )

  pub fill_other_field : (g : ℕ) → 0 < i → i ≤ length m.tables → 0 < r → r ≤ length table_here.records → 0 < f → 0 < g → ¬ (g ≡ f) →
      datum_at i r g (fill_model i r f t m) ≡ datum_at i r g m
  unfolding datum_at fill_model fill_content fill_record
  fill_other_field g a b c d e h n =
      rw (
        change_here (fill_content r f t) m.tables (i - 1) no_content (omega arith),
        change_here (fill_record f t) table_here.records (r - 1) [] (omega arith),
        change_there (λ (v : Datum). words O.Suggestion t) (get_or table_here.records (r - 1) []) (f - 1) (g - 1) (number 0) (λ (z : g - 1 ≡ f - 1). n (omega arith)),
      )

  -- the header, the tables and how many records each has
  pub fill_head : (fill_model i r f t m).head ≡ m.head
  unfolding fill_model
  fill_head = refl

  pub fill_count : length (fill_model i r f t m).tables ≡ length m.tables
  unfolding fill_model
  fill_count = change_length (fill_content r f t) m.tables (i - 1)
