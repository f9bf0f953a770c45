-- Dates, times, formats and marks come back as they were written. Assumes nothing.
use mathlib.Core.Path.{◌≡◌, refl}
use mathlib.Core.Bool.{Bool, true, false, not, ◌&&◌}
use mathlib.Core.List.{[], ◌∷◌, ◌++◌}
use Prim.Native.Nat.{ℕ, zero, suc, ◌<◌, ◌≤◌, ◌^◌}
use native.Mathlib.Omega.{arith}
use lib.Dec.{eqb, leb}
use lib.ListN.{length, get_or, get_or-eq_default}
use lib.Seq.{take-append_seam, drop-append_seam, drop-append-add}
use borrow.Author.Tests.{le-leb, leb-true, leb-false, ne_eqb}
use Rattle.page.specs.Bytes.{Bytes, bytes, pick, same, all, until}
use Rattle.page.specs.Fields.{quote, digit}
use Rattle.page.specs.Dates.{days_in, leap, real_date, real_time, number_in, digits_in, byte_is, quoted_size, date_of, date_shape, date_ok, time_of, time_shape, time_ok}
use Rattle.page.specs.Marks.{mark_number, mark_text, remark_of}
use Rattle.page.specs.Section.{no_digit, size_ok, formed, format_ok}
use Rattle.page.specs.Form.{decimal, padded, doubled, quoted, date_text, time_text, format_text}
use Rattle.page.specs.declared.Date.{Date}
use Rattle.page.specs.declared.Time.{Time}
use Rattle.page.specs.declared.Column.{Column}
use Rattle.page.specs.declared.Remark.TheVariants as R
use Rattle.laws.proofs.WrittenScans.{all_append, all_mono, differ}
use Rattle.round.proofs.WrittenNumbers.{decimal_all, decimal_digits, decimal_value, decimal_lead, padded_all, padded_value}
use Rattle.round.proofs.WrittenFields.{quoted_field}
use Rattle.page.proofs.TestLaws.{and_left, and_right, same_refl}
use Rattle.page.proofs.TextLaws.{quoted_text}

-- bytes without a quote are quoted as they are
abbrev pub no_quote : ℕ → Bool
no_quote b = not (quote b)

doubled_plain : (w : Bytes) → all no_quote w ≡ true → doubled w ≡ w
unfolding doubled all
doubled_plain [] h = refl
doubled_plain (b ∷ w) h = rw (differ no_quote b 34 (and_left (no_quote b) (all no_quote w) h) refl, doubled_plain w (and_right (no_quote b) (all no_quote w) h))

digit_plain : (b : ℕ) → digit b ≡ true → no_quote b ≡ true
unfolding digit
digit_plain b h = rw (differ digit b 34 h refl)

padded_plain : (k n : ℕ) → all no_quote (padded k n) ≡ true
padded_plain k n = all_mono digit no_quote digit_plain (padded k n) (padded_all k n)

date_plain : (d : Date) → all no_quote (date_text d) ≡ true
unfolding date_text bytes all
date_plain d =
    all_append no_quote (padded 2 d.day) (46 ∷ padded 2 d.month ++ (46 ∷ padded 4 d.year)) (padded_plain 2 d.day)
    (all_append no_quote (padded 2 d.month) (46 ∷ padded 4 d.year) (padded_plain 2 d.month) (padded_plain 4 d.year))

time_plain : (t : Time) → all no_quote (time_text t) ≡ true
unfolding time_text bytes all
time_plain t =
    all_append no_quote (padded 2 t.hour) (58 ∷ padded 2 t.minute ++ (58 ∷ padded 2 t.second)) (padded_plain 2 t.hour)
    (all_append no_quote (padded 2 t.minute) (58 ∷ padded 2 t.second) (padded_plain 2 t.minute) (padded_plain 2 t.second))

abbrev date_field : Date → Bytes
date_field d = 34 ∷ (date_text d ++ (34 ∷ []))

pub quoted_date : (d : Date) → quoted (date_text d) ≡ date_field d
unfolding quoted
quoted_date d = rw (doubled_plain (date_text d) (date_plain d))

abbrev time_field : Time → Bytes
time_field t = 34 ∷ (time_text t ++ (34 ∷ []))

pub quoted_time : (t : Time) → quoted (time_text t) ≡ time_field t
unfolding quoted
quoted_time t = rw (doubled_plain (time_text t) (time_plain t))

-- each month of a real date is one of twelve, and has at most 31 days
days_most : (y m : ℕ) → days_in y m ≤ 31
unfolding days_in
days_most y m = by (eqb m 2 && leap y) m
  where
    by : (b : Bool) (m : ℕ) → pick b 29 (get_or (0 ∷ 31 ∷ 28 ∷ 31 ∷ 30 ∷ 31 ∷ 30 ∷ 31 ∷ 31 ∷ 30 ∷ 31 ∷ 30 ∷ 31 ∷ []) m 0) ≤ 31
    by true m = omega arith
    by false zero = omega arith
    by false (suc zero) = omega arith
    by false (suc (suc zero)) = omega arith
    by false (suc (suc (suc zero))) = omega arith
    by false (suc (suc (suc (suc zero)))) = omega arith
    by false (suc (suc (suc (suc (suc zero))))) = omega arith
    by false (suc (suc (suc (suc (suc (suc zero)))))) = omega arith
    by false (suc (suc (suc (suc (suc (suc (suc zero))))))) = omega arith
    by false (suc (suc (suc (suc (suc (suc (suc (suc zero)))))))) = omega arith
    by false (suc (suc (suc (suc (suc (suc (suc (suc (suc zero))))))))) = omega arith
    by false (suc (suc (suc (suc (suc (suc (suc (suc (suc (suc zero)))))))))) = omega arith
    by false (suc (suc (suc (suc (suc (suc (suc (suc (suc (suc (suc zero))))))))))) = omega arith
    by false (suc (suc (suc (suc (suc (suc (suc (suc (suc (suc (suc (suc zero)))))))))))) = omega arith
    by false (suc (suc (suc (suc (suc (suc (suc (suc (suc (suc (suc (suc (suc n))))))))))))) = omega arith

-- past the twelfth, no days
days_none : (y m : ℕ) → 12 < m → days_in y m ≡ 0
unfolding days_in
days_none y m h = rw (ne_eqb m 2 (λ (e : m ≡ 2). omega arith)) (get_or-eq_default (0 ∷ 31 ∷ 28 ∷ 31 ∷ 30 ∷ 31 ∷ 30 ∷ 31 ∷ 31 ∷ 30 ∷ 31 ∷ 30 ∷ 31 ∷ []) 0 h)

module _ (d : Date) (y : d.year ≤ 9999) (real : real_date d ≡ true) where
  day_days : (1 ≤ d.day) × (d.day ≤ days_in d.year d.month)
  unfolding real_date
  day_days = (
    leb-true 1 d.day (and_right (leb 1 d.year) (leb 1 d.day) (and_left (leb 1 d.year && leb 1 d.day) (leb d.day (days_in d.year d.month)) real)),
    leb-true d.day (days_in d.year d.month) (and_right (leb 1 d.year && leb 1 d.day) (leb d.day (days_in d.year d.month)) real),
  )

  pub real_day : d.day ≤ 31
  real_day = omega (arith, days_most d.year d.month, day_days)

  pub real_month : d.month ≤ 12
  real_month = by (leb d.month 12) refl
    where
      by : (b : Bool) → leb d.month 12 ≡ b → d.month ≤ 12
      by true e = leb-true d.month 12 e
      by false e = absurd (let z : ⊥ = omega (arith, days_none d.year d.month (leb-false d.month 12 e), day_days) in z)

  year_again : number_in 7 4 (date_field d) ≡ d.year
  unfolding number_in date_text padded bytes
  year_again = padded_value 4 d.year (omega arith)

  month_again : number_in 4 2 (date_field d) ≡ d.month
  unfolding number_in date_text padded bytes
  month_again = padded_value 2 d.month (omega (arith, real_month))

  day_again : number_in 1 2 (date_field d) ≡ d.day
  unfolding number_in date_text padded bytes
  day_again = padded_value 2 d.day (omega (arith, real_day))

  -- "the source date rewritten so"
  pub date_again : date_of 1 (quoted (date_text d)) ≡ d
  unfolding date_of
  date_again = rw (quoted_date d, year_again, month_again, day_again)

  shape_again : date_shape 1 (quoted (date_text d)) ≡ true
  unfolding date_shape quoted_size digits_in byte_is date_text padded bytes
  shape_again = rw (quoted_date d) (rw (padded_all 4 d.year, padded_all 2 d.month, padded_all 2 d.day))

  pub date_ok_again : date_ok 1 (quoted (date_text d)) ≡ true
  unfolding date_ok
  date_ok_again = rw (shape_again, date_again) real

module _ (t : Time) (real : real_time t ≡ true) where
  hour_small : t.hour ≤ 23
  unfolding real_time
  hour_small = leb-true t.hour 23 (and_left (leb t.hour 23) (leb t.minute 59) (and_left (leb t.hour 23 && leb t.minute 59) (leb t.second 59) real))

  minute_small : t.minute ≤ 59
  unfolding real_time
  minute_small = leb-true t.minute 59 (and_right (leb t.hour 23) (leb t.minute 59) (and_left (leb t.hour 23 && leb t.minute 59) (leb t.second 59) real))

  second_small : t.second ≤ 59
  unfolding real_time
  second_small = leb-true t.second 59 (and_right (leb t.hour 23 && leb t.minute 59) (leb t.second 59) real)

  hour_again : number_in 1 2 (time_field t) ≡ t.hour
  unfolding number_in time_text padded bytes
  hour_again = padded_value 2 t.hour (omega (arith, hour_small))

  minute_again : number_in 4 2 (time_field t) ≡ t.minute
  unfolding number_in time_text padded bytes
  minute_again = padded_value 2 t.minute (omega (arith, minute_small))

  second_again : number_in 7 2 (time_field t) ≡ t.second
  unfolding number_in time_text padded bytes
  second_again = padded_value 2 t.second (omega (arith, second_small))

  pub time_again : time_of (quoted (time_text t)) ≡ t
  unfolding time_of
  time_again = rw (quoted_time t, hour_again, minute_again, second_again)

  time_shape_again : time_shape (quoted (time_text t)) ≡ true
  unfolding time_shape quoted_size digits_in byte_is time_text padded bytes
  time_shape_again = rw (quoted_time t) (rw (padded_all 2 t.hour, padded_all 2 t.minute, padded_all 2 t.second))

  pub time_ok_again : time_ok (quoted (time_text t)) ≡ true
  unfolding time_ok
  time_ok_again = rw (time_shape_again, time_again) real

-- digits end where the tail begins
until_digits : (w v : Bytes) → all digit w ≡ true → until no_digit v ≡ 0 → until no_digit (w ++ v) ≡ length w
unfolding until all
until_digits [] v h e = e
until_digits (b ∷ w) v h e = rw (and_left (digit b) (all digit w) h, until_digits w v (and_right (digit b) (all digit w) h) e)

-- a name, digits, a tail that begins with no digit
formed_again : (name tail w : Bytes) → size_ok w ≡ true → all digit w ≡ true → until no_digit tail ≡ 0 → formed name tail (name ++ (w ++ tail)) ≡ true
unfolding formed
formed_again name tail w ok d e =
    rw (
      take-append_seam name (w ++ tail),
      drop-append_seam name (w ++ tail),
      until_digits w tail d e,
      take-append_seam w tail,
      ok,
      drop-append-add name (w ++ tail) (length w),
      drop-append_seam w tail,
      same_refl name,
      same_refl tail,
    )

size_decimal : (n : ℕ) → 1 ≤ n → n ≤ 255 → size_ok (decimal n) ≡ true
unfolding size_ok
size_decimal n l h =
    let s : n < 10 ^ 18 = omega arith in
    rw (decimal_digits n s, decimal_lead n s l, decimal_value n s, le-leb n 255 h)

tail_char : until no_digit (bytes "]") ≡ 0
unfolding until bytes digit
tail_char = refl

tail_num : until no_digit (bytes ".0]") ≡ 0
unfolding until bytes digit
tail_num = refl

-- "formats with the sizes above": "n from 1 to 255 without leading zeros"
pub format_again : (c : Column) → 1 ≤ c.size → c.size ≤ 255 → format_ok c.text (format_text c) ≡ true
unfolding format_text format_ok
format_again c l h = by c.text
  where
    ok : size_ok (decimal c.size) ≡ true
    ok = size_decimal c.size l h

    by : (b : Bool) →
        format_ok b (pick b (bytes "char[" ++ (decimal c.size ++ bytes "]")) (bytes "num[" ++ (decimal c.size ++ bytes ".0]"))) ≡ true
    by true = formed_again (bytes "char[") (bytes "]") (decimal c.size) ok (decimal_all c.size) tail_char
    by false = formed_again (bytes "num[") (bytes ".0]") (decimal c.size) ok (decimal_all c.size) tail_num

-- a suggestion's mark
pub mark_again : (i : ℕ) → 1 ≤ i → i < 10 ^ 18 → remark_of (32 ∷ quoted (bytes "SUGGESTED " ++ decimal i)) ≡ R.Mark i
unfolding remark_of mark_text mark_number bytes same
mark_again i l h =
    rw ((quoted_field (bytes "SUGGESTED " ++ decimal i)).kept, quoted_text (bytes "SUGGESTED " ++ decimal i), decimal_digits i h, decimal_lead i h l, decimal_value i h)
