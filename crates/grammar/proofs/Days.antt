-- A number is a real day exactly if its value read as YYYYMMDD is a real date. Assumes nothing.
use mathlib.Core.Path.{◌≡◌, refl, ap, sym, ◌∙◌}
use mathlib.Core.Bool.{Bool, true, false, not, ◌&&◌, false≢true}
use mathlib.Core.List.{List, [], ◌∷◌}
use mathlib.Core.Logic.{◌↔◌}
use Prim.Native.Nat.{ℕ, zero, suc, ◌+◌, ◌*◌, ◌/◌, ◌%◌, ◌≤◌, ◌<◌}
use native.Mathlib.Omega.{arith}
use lib.Dec.{eqb, leb}
use lib.ListN.{get_or, get_or-eq_default}
use borrow.Author.Tests.{ne_eqb, leb-true}
use Rattle.page.specs.Bytes.{Bytes, pick, all}
use Rattle.page.specs.Dates.{leap, days_in, real_date, day_of, real_day}
use Rattle.page.specs.Section.{day_field, field_number}
use Rattle.page.specs.Grammar.{Day}
use Rattle.page.specs.declared.Date.{Date}
use Rattle.page.specs.declared.Field.TheVariants as F
use Rattle.page.proofs.TestLaws.{and_left, and_right}
use Rattle.laws.proofs.Decides.{Decides, holds, fails, fact, by_test, both, at_most, tested}

months : Bytes
months = 0 ∷ 31 ∷ 28 ∷ 31 ∷ 30 ∷ 31 ∷ 30 ∷ 31 ∷ 31 ∷ 30 ∷ 31 ∷ 30 ∷ 31 ∷ []

none_over : (h : ℕ) (xs : List ℕ) → all (λ (x : ℕ). leb x h) xs ≡ true → (m : ℕ) → get_or xs m 0 ≤ h
unfolding all
none_over h [] e m = omega arith
none_over h (x ∷ xs) e zero = leb-true x h (and_left (leb x h) (all (λ (x : ℕ). leb x h) xs) e)
none_over h (x ∷ xs) e (suc m) = none_over h xs (and_right (leb x h) (all (λ (x : ℕ). leb x h) xs) e) m

-- no month has more than 31 days
longest : (y m : ℕ) → days_in y m ≤ 31
unfolding days_in months all
longest y m = by (eqb m 2 && leap y)
  where
    by : (b : Bool) → pick b 29 (get_or months m 0) ≤ 31
    by true = omega arith
    by false = none_over 31 months refl m

-- and only the months 1 to 12 have days
no_month : (y m : ℕ) → 12 < m → days_in y m ≡ 0
unfolding days_in months
no_month y m h = rw (ne_eqb m 2 (λ e. omega arith)) (get_or-eq_default months 0 {n = m} (omega arith))

month_zero : (y : ℕ) → days_in y 0 ≡ 0
unfolding days_in
month_zero y = refl

-- what a real date is, test by test
pub record Real (d : Date) : Type 0 where
  pub from_year : 1 ≤ d.year
  pub from_month : 1 ≤ d.month
  pub to_month : d.month ≤ 12
  pub from_day : 1 ≤ d.day
  pub to_day : d.day ≤ 31

pub real_parts : (d : Date) → real_date d ≡ true → Real d
unfolding real_date
real_parts d e = by (fact (both (both (at_most 1 d.year) (at_most 1 d.day)) (at_most d.day (days_in d.year d.month))) e)
  where
    first : (m : ℕ) → 1 ≤ days_in d.year m → 1 ≤ m
    first zero h = absurd (let z = month_zero d.year in let y : ⊥ = omega arith in y)
    first (suc m) h = omega arith

    last : (b : Bool) → Decides (d.month ≤ 12) b → 1 ≤ days_in d.year d.month → d.month ≤ 12
    last true (holds h) l = h
    last false (fails n) l = absurd (let z = no_month d.year d.month (omega arith) in let y : ⊥ = omega arith in y)

    by : ((1 ≤ d.year) × (1 ≤ d.day)) × (d.day ≤ days_in d.year d.month) → Real d
    by x =
        let l : 1 ≤ days_in d.year d.month = omega arith in
        record {
          from_year = x.0.0;
          from_month = first d.month l;
          to_month = last (leb d.month 12) (at_most d.month 12) l;
          from_day = x.0.1;
          to_day = omega (arith, longest d.year d.month);
        }

-- a value is read as the parts that it is made of
read_back : (y m d : ℕ) → m ≤ 12 → d ≤ 31 → day_of (y * 10000 + m * 100 + d) ≡ record { year = y; month = m; day = d }
unfolding day_of
read_back y m d h k =
    let a : (y * 10000 + m * 100 + d) / 10000 ≡ y = omega arith in
    let b : (y * 10000 + m * 100 + d) / 100 % 100 ≡ m = omega arith in
    let c : (y * 10000 + m * 100 + d) % 100 ≡ d = omega arith in
    rw (a, b, c)

made_of : (n : ℕ) → n ≡ n / 10000 * 10000 + n / 100 % 100 * 100 + n % 100
made_of n = omega arith

pub day_d : (n : ℕ) → Decides (Day n) (real_day n)
unfolding real_day day_of
day_d n = by_test (real_day n) (λ e. record { date = day_of n; real = e; read = made_of n }) (λ e d. false≢true (sym e ∙ back d))
  where
    back : Day n → real_day n ≡ true
    back d =
        let r = real_parts d.date d.real in
        ap real_day d.read ∙ ap real_date (read_back d.date.year d.date.month d.date.day r.to_month r.to_day) ∙ d.real

-- a number is a real day exactly if it is YYYYMMDD of a real date
pub day_exactly : (n : ℕ) → real_day n ≡ true ↔ Day n
day_exactly n = (fact (day_d n), tested (day_d n))

-- "Gregorian dates from 00010101 to 99991231": the range of 13 ends in the year 9999
pub day_within : {n : ℕ} → Day n → n ≤ 99999999 → (10101 ≤ n) × (n ≤ 99991231)
day_within d h =
    let r = real_parts d.date d.real in
    let e = d.read in
    (omega arith, omega arith)

-- what is read of a number in its range
pub day_read : (asked : Bool) (n : ℕ) → (asked ≡ true → Day n) → day_field asked n ≡ F.Number n
unfolding day_field
day_read false n f = refl
day_read true n f = by (real_day n) (day_d n)
  where
    by : (b : Bool) → Decides (Day n) b → pick (not b) (F.Refused 26) (F.Number n) ≡ F.Number n
    by true d = refl
    by false (fails k) = absurd (k (f refl))

pub day_right : (asked : Bool) (n : ℕ) → field_number (day_field asked n) ≡ 0 → asked ≡ true → Day n
unfolding day_field field_number
day_right false n z e = absurd (false≢true e)
day_right true n z e = by (real_day n) (day_d n) z
  where
    by : (b : Bool) → Decides (Day n) b → field_number (pick (not b) (F.Refused 26) (F.Number n)) ≡ 0 → Day n
    by true (holds d) z = d
    by false k z = absurd (let y : ⊥ = omega arith in y)
