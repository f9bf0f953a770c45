-- A written record, its marks and a written `end` line are taken back by the section's machine. Assumes nothing.
use mathlib.Core.Path.{◌≡◌, refl, ap}
use mathlib.Core.Bool.{Bool, true, false, not, ◌&&◌, ◌||◌}
use mathlib.Core.List.{List, [], ◌∷◌, map}
use Prim.Native.Nat.{ℕ, zero, suc, ◌<◌, ◌≤◌, ◌^◌}
use native.Mathlib.Omega.{arith}
use lib.Dec.{leb, ltb}
use lib.ListN.{length, get_or}
use borrow.Author.Tests.{le-leb, leb-true, ltb-true}
use Rattle.page.specs.Bytes.{Bytes, bytes, all}
use Rattle.page.specs.Lines.{allowed}
use Rattle.page.specs.Fields.{digit}
use Rattle.page.specs.Tables.{Named, Table, all_tables, WIDEST, no_column, columns, width}
use Rattle.page.specs.Marks.{owner_of}
use Rattle.page.specs.Section.{first_wrong}
use Rattle.page.specs.Records.{Datum, number, missing, words, Record, values_of}
use Rattle.page.specs.Grammar as Grammar
use Rattle.page.specs.Grammar.{Holds}
use Rattle.page.specs.Form.{separated, decimal, datum_text}
use Rattle.page.specs.declared.Column.{Column}
use Rattle.page.specs.declared.Owner.{Owner}
use Rattle.page.specs.declared.Owner.TheVariants as O
use Rattle.round.specs.Round.{Fits, a_number, no_number, a_text, a_suggestion, FitAll, no_value, a_value}
use Rattle.laws.proofs.WrittenScans.{all_mono, all_append}
use Rattle.grammar.proofs.Values.{holds_datum, field_right, Held}
use Rattle.round.proofs.WrittenNumbers.{number_decimal, decimal_all}
use Rattle.round.proofs.WrittenTexts.{quoted_all}
use Rattle.round.proofs.WrittenFields.{Field, Fields, no_field, a_field, empty_field, quoted_field, decimal_field}
use Rattle.page.proofs.TestLaws.{and_left, and_right}
use Rattle.page.proofs.TableLaws.{each, table_test, width_le}
use Rattle.page.proofs.TextLaws.{quoted_own}

-- columns of the tables: their bounds are small, and at most one of them may be marked

unfoldable pub small : List Named → Bool
small [] = true
small (c ∷ cs) = ltb c.column.hi 1000000000000000000 && small cs

-- may one of these be marked?
unfoldable pub fillable_in : List Named → Bool
fillable_in [] = false
fillable_in (c ∷ cs) = c.column.fillable || fillable_in cs

unfoldable pub one_fillable : List Named → Bool
one_fillable [] = true
one_fillable (c ∷ cs) = not (c.column.fillable && fillable_in cs) && one_fillable cs

pub record Tame (cs : List Named) : Type 0 where
  pub small : small cs ≡ true
  pub lone : one_fillable cs ≡ true
  pub narrow : length cs ≤ WIDEST

pub tame : (t : ℕ) → Tame (columns t)
unfolding columns width all_tables each small fillable_in one_fillable
tame t =
    record {
      small = table_test (λ (x : Table). small x.columns) refl refl t;
      lone = table_test (λ (x : Table). one_fillable x.columns) refl refl t;
      narrow = width_le t;
    }

-- one value

pub digit_allowed : (wide : Bool) (b : ℕ) → digit b ≡ true → allowed wide b ≡ true
unfolding allowed digit
digit_allowed wide b h =
    rw (le-leb 32 b (omega (arith, leb-true 48 b (and_left (leb 48 b) (leb b 57) h))), le-leb b 126 (omega (arith, leb-true b 57 (and_right (leb 48 b) (leb b 57) h))))

module _ (latin : Bool) (c : Column) where
  -- whose the text is, is the owner's to say
  abbrev Owns : Owner → Datum → Type 0
  Owns o (number n) = Unit
  Owns o missing = Unit
  Owns o (words p t) = p ≡ o

  -- written, a value's field holds it
  holds_back : (o : Owner) (v : Datum) → Fits latin c v → c.hi < 10 ^ 18 → Owns o v → Holds o c (datum_text v) v
  unfolding datum_text
  holds_back o (number n) (a_number k l h d) s w =
      let z : n < 10 ^ 18 = omega arith in
      Grammar.a_number k (number_decimal n z) l h d
  holds_back o missing (no_number k q) s w = Grammar.no_number k q refl
  holds_back o (words O.Operator t) (a_text k h a e) s w = rw (← w) (Grammar.a_text k (quoted_own t e) h)
  holds_back o (words O.Suggestion t) (a_suggestion k f p h a e) s w = rw (← w) (Grammar.a_text k (quoted_own t e) h)

  some_holds : (v : Datum) → Fits latin c v → c.hi < 10 ^ 18 → (o : Owner) × Holds o c (datum_text v) v
  some_holds (number n) f s = (O.Operator, holds_back O.Operator (number n) f s tt)
  some_holds missing f s = (O.Operator, holds_back O.Operator missing f s tt)
  some_holds (words o t) f s = (o, holds_back o (words o t) f s refl)

  datum_allowed : (v : Datum) → Fits latin c v → all (allowed latin) (datum_text v) ≡ true
  unfolding datum_text all allowed
  datum_allowed (number n) (a_number k l h d) = all_mono digit (allowed latin) (digit_allowed latin) (decimal n) (decimal_all n)
  datum_allowed missing (no_number k o) = refl
  datum_allowed (words O.Operator t) (a_text k h a e) = quoted_all (allowed latin) t refl a
  datum_allowed (words O.Suggestion t) (a_suggestion k f p h a e) = quoted_all (allowed latin) t refl a

pub datum_field : (v : Datum) → Field (datum_text v)
unfolding datum_text
datum_field (number n) = decimal_field n
datum_field missing = empty_field
datum_field (words o t) = quoted_field t

-- a record's values

pub data Owned (m : ℕ) : ℕ → Record → Type 0 where
  no_owner : {i : ℕ} → Owned m i []
  of_number : {i n : ℕ} {vs : Record} → Owned m (suc i) vs → Owned m i (number n ∷ vs)
  of_missing : {i : ℕ} {vs : Record} → Owned m (suc i) vs → Owned m i (missing ∷ vs)
  of_words : {i : ℕ} {o : Owner} {t : Bytes} {vs : Record} → o ≡ owner_of m i → Owned m (suc i) vs → Owned m i (words o t ∷ vs)

-- columns with small bounds, the first and the others

small_first : (c : Named) (cs : List Named) → small (c ∷ cs) ≡ true → c.column.hi < 10 ^ 18
unfolding small
small_first c cs s = ltb-true c.column.hi (10 ^ 18) (and_left (ltb c.column.hi (10 ^ 18)) (small cs) s)

small_others : (c : Named) (cs : List Named) → small (c ∷ cs) ≡ true → small cs ≡ true
unfolding small
small_others c cs s = and_right (ltb c.column.hi (10 ^ 18)) (small cs) s

module _ (latin : Bool) where
  pub wrong_back : {cs : List Named} {vs : Record} → FitAll latin cs vs → small cs ≡ true → first_wrong cs (map datum_text vs) ≡ 0
  unfolding first_wrong
  wrong_back no_value s = refl
  wrong_back (a_value {c} {cs} {v} f g) s = rw (field_right (some_holds latin c.column v f (small_first c cs s)).1) (wrong_back g (small_others c cs s))

  pub values_back : (m i : ℕ) {cs : List Named} {vs : Record} → FitAll latin cs vs → small cs ≡ true → Owned m i vs → values_of m i cs (map datum_text vs) ≡ vs
  unfolding values_of
  values_back m i no_value s w = refl
  values_back m i (a_value {c} {cs} {v = number n} f g) s (of_number w) =
      rw (← holds_datum (holds_back latin c.column (owner_of m i) (number n) f (small_first c cs s) tt), values_back m (suc i) g (small_others c cs s) w)
  values_back m i (a_value {c} {cs} {v = missing} f g) s (of_missing w) =
      rw (← holds_datum (holds_back latin c.column (owner_of m i) missing f (small_first c cs s) tt), values_back m (suc i) g (small_others c cs s) w)
  values_back m i (a_value {c} {cs} {v = words o t} f g) s (of_words e w) =
      rw (← holds_datum (holds_back latin c.column (owner_of m i) (words o t) f (small_first c cs s) e), values_back m (suc i) g (small_others c cs s) w)

  pub width_back : {cs : List Named} {vs : Record} → FitAll latin cs vs → length vs ≡ length cs
  width_back no_value = refl
  width_back (a_value f g) = ap suc (width_back g)

  pub fields_stand : (vs : Record) → Fields (map datum_text vs)
  fields_stand [] = no_field
  fields_stand (v ∷ vs) = a_field (datum_field v) (fields_stand vs)

  pub separated_allowed : {cs : List Named} {vs : Record} → FitAll latin cs vs → all (allowed latin) (separated (map datum_text vs)) ≡ true
  unfolding separated all allowed bytes
  separated_allowed no_value = refl
  separated_allowed (a_value {c} {v} {vs} f g) =
      all_append (allowed latin) (datum_text v) (separated (map datum_text vs)) (datum_allowed latin c.column v f) (separated_allowed g)

  -- each column's field holds its value
  held_at : {cs : List Named} {vs : Record} → FitAll latin cs vs → small cs ≡ true → (k : ℕ) → k < length cs →
      (o : Owner) × Holds o (get_or cs k no_column).column (get_or (map datum_text vs) k []) (get_or vs k (number 0))
  held_at no_value s k l = absurd (let z : ⊥ = omega arith in z)
  held_at (a_value {c} {cs} {v} f g) s zero l = some_holds latin c.column v f (small_first c cs s)
  held_at (a_value {c} {cs} f g) s (suc k) l = held_at g (small_others c cs s) k (omega arith)

  pub held_back : {cs : List Named} {vs : Record} → FitAll latin cs vs → small cs ≡ true → Held cs (map datum_text vs) vs
  held_back f s = record { at = held_at f s }
