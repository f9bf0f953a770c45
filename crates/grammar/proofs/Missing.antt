-- "Where a column there allows NULL, an empty field is a missing number": exactly there, and a missing number is no 0. Assumes nothing.
use mathlib.Core.Path.{◌≡◌, refl}
use mathlib.Core.Bool.{Bool, true, not, ◌||◌, false≢true}
use mathlib.Core.List.{List, []}
use mathlib.Core.Logic.{◌↔◌}
use Prim.Native.Nat.{ℕ, zero, suc, ◌≤◌}
use native.Mathlib.Omega.{arith}
use lib.Dec.{leb}
use lib.ListN.{get_or}
use borrow.Author.Tests.{leb-true}
use Rattle.page.specs.Bytes.{Bytes}
use Rattle.page.specs.Tables.{Named, all_tables, no_column, column_at}
use Rattle.page.specs.Order.{Order, by_column}
use Rattle.page.specs.Records.{Datum, number, missing, Record}
use Rattle.page.specs.Grammar.{fields_of, Holds, a_number, no_number, a_text, Values, no_field, a_field, RecLine}
use Rattle.page.specs.declared.Column.{Column}
use Rattle.page.specs.declared.Owner.{Owner}
use Rattle.page.proofs.TableLaws.{each, column_test}
use Rattle.grammar.proofs.Values.{LeftOut, number_some, text_some}

module _ {o : Owner} {c : Column} {f : Bytes} where
  missing_held : {v : Datum} → Holds o c f v → v ≡ missing ↔ LeftOut c.optional f
  missing_held (a_number t e g h d) = (λ q. absurd (false≢true (cc)), λ p. absurd (number_some e p.1))
  missing_held (no_number t p q) = (λ e. (p, q), λ x. refl)
  missing_held (a_text t e g) = (λ q. absurd (false≢true (cc)), λ p. absurd (text_some e p.1))

  above_zero : {v : Datum} → Holds o c f v → 1 ≤ c.lo → ¬ (v ≡ number 0)
  above_zero (a_number {n} t e g h d) l q = let z : n ≡ 0 = cc in omega arith
  above_zero (no_number t p q) l z = false≢true (cc)
  above_zero (a_text t e g) l q = false≢true (cc)

module _ {ms : List ℕ} where
  values_missing : {i : ℕ} {cs : List Named} {fs : List Bytes} {vs : Record} → Values ms i cs fs vs → (k : ℕ) →
      get_or vs k (number 0) ≡ missing ↔ LeftOut (get_or cs k no_column).column.optional (get_or fs k [])
  values_missing no_field k = (λ q. absurd (false≢true (cc)), λ p. absurd (false≢true p.0))
  values_missing (a_field h g) zero = missing_held h
  values_missing (a_field h g) (suc k) = values_missing g k

  values_above : {i : ℕ} {cs : List Named} {fs : List Bytes} {vs : Record} → Values ms i cs fs vs → (k : ℕ) →
      (get_or cs k no_column).column.optional ≡ true → 1 ≤ (get_or cs k no_column).column.lo → ¬ (get_or vs k (number 0) ≡ number 0)
  values_above no_field k p l = absurd (false≢true p)
  values_above (a_field h g) zero p l = above_zero h l
  values_above (a_field h g) (suc k) p l = values_above g k p l

-- no column that allows NULL has 0 in its range
optional_above : (t k : ℕ) → (column_at t k).optional ≡ true → 1 ≤ (column_at t k).lo
unfolding all_tables each
optional_above t k e =
    let a : (not (column_at t k).optional || leb 1 (column_at t k).lo) ≡ true = column_test (λ (c : Column). not c.optional || leb 1 c.lo) refl refl t k in
    leb-true 1 (column_at t k).lo (rw e at a)

-- in a sound section's record
module _ {latin : Bool} {t : ℕ} {o : Order} {ms : List ℕ} {vs : Record} {l : Bytes} (h : RecLine latin t o ms vs l) (k : ℕ) where
  -- column k, from 0, is missing exactly if it allows NULL and nothing stands in its field
  pub missing_exactly : get_or vs k (number 0) ≡ missing ↔ (((column_at t k).optional ≡ true) × (get_or (by_column o (fields_of l)) k [] ≡ []))
  unfolding column_at
  missing_exactly = values_missing h.fields.values k

  -- and is never 0 where it allows NULL
  pub missing_not_zero : (column_at t k).optional ≡ true → ¬ (get_or vs k (number 0) ≡ number 0)
  unfolding column_at
  missing_not_zero e = values_above h.fields.values k e (optional_above t k e)
