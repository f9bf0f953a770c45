-- Dates and times: what is read is what stands there. The calendar, and a date or a time as it is written. Assumes nothing.
use mathlib.Core.Path.{◌≡◌, refl}
use mathlib.Core.Bool.{Bool, true, false}
use mathlib.Core.List.{[], ◌∷◌}
use mathlib.Core.Logic.{◌⊎◌, inl, inr, ◌↔◌}
use Prim.Native.Nat.{ℕ, zero, suc, ◌+◌, ◌*◌, ◌-◌, ◌/◌, ◌%◌, ◌≤◌, ◌<◌}
use native.Mathlib.Omega.{arith}
use lib.ListN.{length, get_or}
use borrow.Author.Tests.{le-leb}
use Rattle.page.specs.Bytes.{Bytes, bytes, pick, all}
use Rattle.page.specs.Fields.{digit, value}
use Rattle.page.specs.Dates.{leap, days_in, real_date, real_time, number_in, digits_in, byte_is, quoted_size, date_of, date_shape, date_ok, time_of, time_shape, time_ok}
use Rattle.page.specs.Grammar.{Day}
use Rattle.page.specs.Clauses as C
use Rattle.page.specs.Clauses.{LeapYear, fourth, four_hundredth, DaysIn, RealDate}
use Rattle.page.specs.Clauses.{TwoDigits, two, FourDigits, four, DateForm, day_first, year_first, DateText, dotted, slashed, TimeText, time_text}
use Rattle.page.specs.declared.Date.{Date}
use Rattle.page.specs.declared.Time.{Time}
use Rattle.page.proofs.TestLaws.{and_left}
use Rattle.page.proofs.NumberLaws.{digit_range}
use Rattle.lexical.proofs.Months.{no_month}
use Rattle.lexical.proofs.Members.{members, by_members}
use Rattle.laws.proofs.Tests.{is_d}
use Rattle.laws.proofs.Decides.{Decides, holds, fails, fact, tested, untested, when, denied, both, one_of, equal, at_most}

-- the calendar

leap_d : (y : ℕ) → Decides (LeapYear y) (leap y)
unfolding leap
leap_d y = when into back (one_of (both (equal (y % 4) 0) (denied (equal (y % 100) 0))) (equal (y % 400) 0))
  where
    into : ((y % 4 ≡ 0) × ¬ (y % 100 ≡ 0)) ⊎ (y % 400 ≡ 0) → LeapYear y
    into (inl p) = let e = p.0 in fourth (y / 4) (omega arith) (λ c q. p.1 (omega arith))
    into (inr e) = four_hundredth (y / 400) (omega arith)

    back : LeapYear y → ((y % 4 ≡ 0) × ¬ (y % 100 ≡ 0)) ⊎ (y % 400 ≡ 0)
    back (fourth k e n) = inl (omega arith, λ h. n (y / 100) (omega arith))
    back (four_hundredth k e) = inr (omega arith)

-- a year is read as a leap year exactly if it is one
pub leap_exactly : (y : ℕ) → leap y ≡ true ↔ LeapYear y
leap_exactly y = (fact (leap_d y), tested (leap_d y))

days_back : {y m n : ℕ} → DaysIn y m n → days_in y m ≡ n
unfolding days_in
days_back C.january = refl
days_back {y} (C.february n) = rw (untested (leap_d y) n)
days_back {y} (C.leap_february l) = rw (tested (leap_d y) l)
days_back C.march = refl
days_back C.april = refl
days_back C.may = refl
days_back C.june = refl
days_back C.july = refl
days_back C.august = refl
days_back C.september = refl
days_back C.october = refl
days_back C.november = refl
days_back C.december = refl

days_into : (y m : ℕ) → 1 ≤ days_in y m → DaysIn y m (days_in y m)
unfolding days_in
days_into y zero h = absurd (let z : ⊥ = omega arith in z)
days_into y (suc zero) h = C.january
days_into y (suc (suc zero)) h = by (leap y) (leap_d y)
  where
    by : (b : Bool) → Decides (LeapYear y) b → DaysIn y 2 (pick b 29 28)
    by true (holds l) = C.leap_february l
    by false (fails n) = C.february n
days_into y (suc (suc (suc zero))) h = C.march
days_into y (suc (suc (suc (suc zero)))) h = C.april
days_into y (suc (suc (suc (suc (suc zero))))) h = C.may
days_into y (suc (suc (suc (suc (suc (suc zero)))))) h = C.june
days_into y (suc (suc (suc (suc (suc (suc (suc zero))))))) h = C.july
days_into y (suc (suc (suc (suc (suc (suc (suc (suc zero)))))))) h = C.august
days_into y (suc (suc (suc (suc (suc (suc (suc (suc (suc zero))))))))) h = C.september
days_into y (suc (suc (suc (suc (suc (suc (suc (suc (suc (suc zero)))))))))) h = C.october
days_into y (suc (suc (suc (suc (suc (suc (suc (suc (suc (suc (suc zero))))))))))) h = C.november
days_into y (suc (suc (suc (suc (suc (suc (suc (suc (suc (suc (suc (suc zero)))))))))))) h = C.december
days_into y (suc (suc (suc (suc (suc (suc (suc (suc (suc (suc (suc (suc (suc m))))))))))))) h =
    absurd (let z = no_month y (suc (suc (suc (suc (suc (suc (suc (suc (suc (suc (suc (suc (suc m))))))))))))) (omega arith) in let x : ⊥ = omega arith in x)

-- a month has n days exactly if the calendar gives it n
pub days_exactly : (y m n : ℕ) → 1 ≤ n → days_in y m ≡ n ↔ DaysIn y m n
days_exactly y m n h = (λ e. rw e at (days_into y m (omega arith)), days_back)

real_d : (d : Date) → Decides (RealDate d) (real_date d)
unfolding real_date
real_d d = when into back (both (both (at_most 1 d.year) (at_most 1 d.day)) (at_most d.day (days_in d.year d.month)))
  where
    into : ((1 ≤ d.year) × (1 ≤ d.day)) × (d.day ≤ days_in d.year d.month) → RealDate d
    into h = record { days = days_in d.year d.month; from_year = h.0.0; month = days_into d.year d.month (omega arith); from_day = h.0.1; to_day = h.1 }

    back : RealDate d → ((1 ≤ d.year) × (1 ≤ d.day)) × (d.day ≤ days_in d.year d.month)
    back r = ((r.from_year, r.from_day), rw (days_back r.month) r.to_day)

-- a date is read as a real one exactly if it is one
pub real_exactly : (d : Date) → real_date d ≡ true ↔ RealDate d
real_exactly d = (fact (real_d d), tested (real_d d))

-- and a number is a real day exactly if it is such a date's, read as YYYYMMDD
pub day_exactly : (n : ℕ) → Day n ↔ ((d : Date) × RealDate d × (n ≡ d.year * 10000 + d.month * 100 + d.day))
day_exactly n = (λ x. (x.date, fact (real_d x.date) x.real, x.read), λ x. record { date = x.0; real = tested (real_d x.0) x.1; read = x.2 })

-- digits, and what they are worth

digit_of : (n : ℕ) → n < 10 → digit (48 + n) ≡ true
unfolding digit
digit_of n h = rw (le-leb 48 (48 + n) (omega arith), le-leb (48 + n) 57 (omega arith))

two_into : (a b : ℕ) → all digit (a ∷ b ∷ []) ≡ true → TwoDigits (a ∷ b ∷ []) (value 0 (a ∷ b ∷ []))
unfolding all value
two_into a b h =
    let x = fact (both (is_d (digit a)) (both (is_d (digit b)) (is_d true))) h in
    let i = digit_range a x.0 in
    let j = digit_range b x.1.0 in
    let p : 48 + (a - 48) ≡ a = omega arith in
    let q : 48 + (b - 48) ≡ b = omega arith in
    let w : (a - 48) * 10 + (b - 48) ≡ (0 * 10 + (a - 48)) * 10 + (b - 48) = omega arith in
    rw (p, q, w) at (two {a = a - 48} {b = b - 48} (omega arith) (omega arith))

four_into : (a b c d : ℕ) → all digit (a ∷ b ∷ c ∷ d ∷ []) ≡ true → FourDigits (a ∷ b ∷ c ∷ d ∷ []) (value 0 (a ∷ b ∷ c ∷ d ∷ []))
unfolding all value
four_into a b c d h =
    let x = fact (both (is_d (digit a)) (both (is_d (digit b)) (both (is_d (digit c)) (both (is_d (digit d)) (is_d true))))) h in
    let i = digit_range a x.0 in
    let j = digit_range b x.1.0 in
    let k = digit_range c x.1.1.0 in
    let l = digit_range d x.1.1.1.0 in
    let p : 48 + (a - 48) ≡ a = omega arith in
    let q : 48 + (b - 48) ≡ b = omega arith in
    let r : 48 + (c - 48) ≡ c = omega arith in
    let s : 48 + (d - 48) ≡ d = omega arith in
    let w : (a - 48) * 1000 + (b - 48) * 100 + (c - 48) * 10 + (d - 48) ≡ (((0 * 10 + (a - 48)) * 10 + (b - 48)) * 10 + (c - 48)) * 10 + (d - 48) = omega arith in
    rw (p, q, r, s, w) at (four {a = a - 48} {b = b - 48} {c = c - 48} {d = d - 48} (omega arith) (omega arith) (omega arith) (omega arith))

two_digits : {a b : ℕ} → a < 10 → b < 10 → all digit ((48 + a) ∷ (48 + b) ∷ []) ≡ true
unfolding all
two_digits {a} {b} h k = rw (digit_of a h, digit_of b k)

two_worth : (a b : ℕ) → value 0 ((48 + a) ∷ (48 + b) ∷ []) ≡ a * 10 + b
unfolding value
two_worth a b = omega arith

four_digits : {a b c d : ℕ} → a < 10 → b < 10 → c < 10 → d < 10 → all digit ((48 + a) ∷ (48 + b) ∷ (48 + c) ∷ (48 + d) ∷ []) ≡ true
unfolding all
four_digits {a} {b} {c} {d} h k l m = rw (digit_of a h, digit_of b k, digit_of c l, digit_of d m)

four_worth : (a b c d : ℕ) → value 0 ((48 + a) ∷ (48 + b) ∷ (48 + c) ∷ (48 + d) ∷ []) ≡ a * 1000 + b * 100 + c * 10 + d
unfolding value
four_worth a b c d = omega arith

-- a date in the form DD.MM.YYYY

module _ (q a b p c d r e g h i z : ℕ) where
  abbrev dotted_bytes : Bytes
  dotted_bytes = q ∷ a ∷ b ∷ p ∷ c ∷ d ∷ r ∷ e ∷ g ∷ h ∷ i ∷ z ∷ []

  dotted_into : date_shape 1 dotted_bytes ≡ true → DateText 1 dotted_bytes (date_of 1 dotted_bytes)
  unfolding date_shape quoted_size digits_in byte_is date_of number_in bytes
  dotted_into s =
      let x = fact (both (both (equal q 34) (equal z 34))
      (both (both (both (both (is_d (all digit (a ∷ b ∷ []))) (equal p 46)) (is_d (all digit (c ∷ d ∷ [])))) (equal r 46)) (is_d (all digit (e ∷ g ∷ h ∷ i ∷ []))))) s in
      rw (x.0.0, x.0.1, x.1.0.0.0.1, x.1.0.1)
      (dotted (two_into a b x.1.0.0.0.0) (two_into c d x.1.0.0.1) (four_into e g h i x.1.1))

-- and in the form YYYY/MM/DD

module _ (q e g h i p c d r a b z : ℕ) where
  abbrev slashed_bytes : Bytes
  slashed_bytes = q ∷ e ∷ g ∷ h ∷ i ∷ p ∷ c ∷ d ∷ r ∷ a ∷ b ∷ z ∷ []

  slashed_into : date_shape 2 slashed_bytes ≡ true → DateText 2 slashed_bytes (date_of 2 slashed_bytes)
  unfolding date_shape quoted_size digits_in byte_is date_of number_in bytes
  slashed_into s =
      let x = fact (both (both (equal q 34) (equal z 34))
      (both (both (both (both (is_d (all digit (e ∷ g ∷ h ∷ i ∷ []))) (equal p 47)) (is_d (all digit (c ∷ d ∷ [])))) (equal r 47)) (is_d (all digit (a ∷ b ∷ []))))) s in
      rw (x.0.0, x.0.1, x.1.0.0.0.1, x.1.0.1)
      (slashed (four_into e g h i x.1.0.0.0.0) (two_into c d x.1.0.0.1) (two_into a b x.1.1))

quoted_length : (n : ℕ) (f : Bytes) → quoted_size n f ≡ true → length f ≡ n + 2
unfolding quoted_size
quoted_length n f h = (fact (both (both (equal (length f) (n + 2)) (is_d (byte_is 0 34 f))) (is_d (byte_is (suc n) 34 f))) h).0.0

date_size : (form : ℕ) (f : Bytes) → date_shape form f ≡ true → length f ≡ 12
unfolding date_shape
date_size form f h = quoted_length 10 f (and_left (quoted_size 10 f) _ h)

date_into : {form : ℕ} {name : Bytes} → DateForm form name → (f : Bytes) → date_shape form f ≡ true → DateText form f (date_of form f)
unfolding members
date_into day_first f h =
    let m = by_members 0 12 f (date_size 1 f h) in
    rw m (dotted_into (get_or f 0 0) (get_or f 1 0) (get_or f 2 0) (get_or f 3 0) (get_or f 4 0) (get_or f 5 0)
    (get_or f 6 0) (get_or f 7 0) (get_or f 8 0) (get_or f 9 0) (get_or f 10 0) (get_or f 11 0) (rw m at h))
date_into year_first f h =
    let m = by_members 0 12 f (date_size 2 f h) in
    rw m (slashed_into (get_or f 0 0) (get_or f 1 0) (get_or f 2 0) (get_or f 3 0) (get_or f 4 0) (get_or f 5 0)
    (get_or f 6 0) (get_or f 7 0) (get_or f 8 0) (get_or f 9 0) (get_or f 10 0) (get_or f 11 0) (rw m at h))

date_back : {form : ℕ} {f : Bytes} {d : Date} → DateText form f d → (date_shape form f ≡ true) × (date_of form f ≡ d)
unfolding date_shape quoted_size digits_in byte_is date_of number_in bytes
date_back (dotted (two {a} {b} h k) (two {a = c} {b = d} l m) (four {a = e} {b = g} {c = i} {d = j} n o p q)) =
    (rw (two_digits h k, two_digits l m, four_digits n o p q), rw (two_worth a b, two_worth c d, four_worth e g i j))
date_back (slashed (four {a = e} {b = g} {c = i} {d = j} n o p q) (two {a = c} {b = d} l m) (two {a} {b} h k)) =
    (rw (two_digits h k, two_digits l m, four_digits n o p q), rw (two_worth a b, two_worth c d, four_worth e g i j))

-- a field is read as this date exactly if it is that date as it is written in the stated form, and a real one
pub date_exactly : {form : ℕ} {name : Bytes} → DateForm form name → (f : Bytes) (d : Date) →
    (date_ok form f ≡ true) × (date_of form f ≡ d) ↔ DateText form f d × RealDate d
unfolding date_ok
date_exactly {form} w f d = (into, back)
  where
    into : (date_ok form f ≡ true) × (date_of form f ≡ d) → DateText form f d × RealDate d
    into h =
        let x = fact (both (is_d (date_shape form f)) (real_d (date_of form f))) h.0 in
        (rw h.1 at (date_into w f x.0), rw h.1 at x.1)

    back : DateText form f d × RealDate d → (date_ok form f ≡ true) × (date_of form f ≡ d)
    back h = let x = date_back h.0 in (rw (x.0, x.1) (tested (real_d d) h.1), x.1)

-- a time

module _ (q a b p c d r e g z : ℕ) where
  abbrev time_bytes : Bytes
  time_bytes = q ∷ a ∷ b ∷ p ∷ c ∷ d ∷ r ∷ e ∷ g ∷ z ∷ []

  time_into_bytes : time_ok time_bytes ≡ true → TimeText time_bytes (time_of time_bytes)
  unfolding time_ok time_shape real_time quoted_size digits_in byte_is time_of number_in bytes
  time_into_bytes s =
      let x = fact (both (both (both (both (both (both (both (equal q 34) (equal z 34)) (is_d (all digit (a ∷ b ∷ [])))) (equal p 58))
      (is_d (all digit (c ∷ d ∷ [])))) (equal r 58)) (is_d (all digit (e ∷ g ∷ []))))
      (both (both (at_most (value 0 (a ∷ b ∷ [])) 23) (at_most (value 0 (c ∷ d ∷ [])) 59)) (at_most (value 0 (e ∷ g ∷ [])) 59))) s in
      let y = x.0 in
      rw (y.0.0.0.0.0.0, y.0.0.0.0.0.1, y.0.0.0.1, y.0.1)
      (time_text (two_into a b y.0.0.0.0.1) (two_into c d y.0.0.1) (two_into e g y.1) x.1.0.0 x.1.0.1 x.1.1)

time_size : (f : Bytes) → time_ok f ≡ true → length f ≡ 10
unfolding time_ok time_shape
time_size f h =
    let x = fact (both (both (both (both (both (both (is_d (quoted_size 8 f)) (is_d _)) (is_d _)) (is_d _)) (is_d _)) (is_d _)) (is_d _)) h in
    quoted_length 8 f x.0.0.0.0.0.0

time_into : (f : Bytes) → time_ok f ≡ true → TimeText f (time_of f)
unfolding members
time_into f h =
    let m = by_members 0 10 f (time_size f h) in
    rw m (time_into_bytes (get_or f 0 0) (get_or f 1 0) (get_or f 2 0) (get_or f 3 0) (get_or f 4 0)
    (get_or f 5 0) (get_or f 6 0) (get_or f 7 0) (get_or f 8 0) (get_or f 9 0) (rw m at h))

time_back : {f : Bytes} {t : Time} → TimeText f t → (time_ok f ≡ true) × (time_of f ≡ t)
unfolding time_ok time_shape real_time quoted_size digits_in byte_is time_of number_in bytes
time_back (time_text (two {a} {b} h k) (two {a = c} {b = d} l m) (two {a = e} {b = g} n o) x y z) = (
  rw (two_digits h k, two_digits l m, two_digits n o, two_worth a b, two_worth c d, two_worth e g)
      (rw (le-leb (a * 10 + b) 23 x, le-leb (c * 10 + d) 59 y, le-leb (e * 10 + g) 59 z)),
  rw (two_worth a b, two_worth c d, two_worth e g),
)

-- a field is read as this time exactly if it is that time as it is written
pub time_exactly : (f : Bytes) (t : Time) → (time_ok f ≡ true) × (time_of f ≡ t) ↔ TimeText f t
time_exactly f t = (λ h. rw h.1 at (time_into f h.0), time_back)
