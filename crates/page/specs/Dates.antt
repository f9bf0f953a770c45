-- Dates and times of `src`: "a quoted real Gregorian date from year 0001 in the stated form and a quoted time 00:00:00 to 23:59:59"; and the days
-- of records, by the same calendar.
use Rattle.std.specs.Prelude.{Bool, not, ◌&&◌, ◌||◌, [], ◌∷◌, ℕ, suc, ◌+◌, ◌/◌, ◌%◌, eqb, leb, length, get_or, take, drop}
use Rattle.page.specs.Bytes.{Bytes, pick, all}
use Rattle.page.specs.Fields.{digit, value}
use Rattle.page.specs.declared.Date.{Date}
use Rattle.page.specs.declared.Time.{Time}

unfoldable pub leap : ℕ → Bool
leap y = eqb (y % 4) 0 && not (eqb (y % 100) 0) || eqb (y % 400) 0

unfoldable pub days_in : ℕ → ℕ → ℕ
days_in y m = pick (eqb m 2 && leap y) 29 (get_or (0 ∷ 31 ∷ 28 ∷ 31 ∷ 30 ∷ 31 ∷ 30 ∷ 31 ∷ 31 ∷ 30 ∷ 31 ∷ 30 ∷ 31 ∷ []) m 0)

unfoldable pub real_date : Date → Bool
real_date d = leb 1 d.year && leb 1 d.day && leb d.day (days_in d.year d.month)

-- "Gregorian dates from 00010101 to 99991231, the number's value read as YYYYMMDD with leading zeros optional": what has passed 13 is at most
-- 99999999, so that the year has four digits at the most
unfoldable pub day_of : ℕ → Date
day_of n = record { year = n / 10000; month = n / 100 % 100; day = n % 100 }

unfoldable pub real_day : ℕ → Bool
real_day n = real_date (day_of n)

unfoldable pub real_time : Time → Bool
real_time t = leb t.hour 23 && leb t.minute 59 && leb t.second 59

-- the number of n digits at a place, and whether they are digits
unfoldable pub number_in : ℕ → ℕ → Bytes → ℕ
number_in at n f = value 0 (take n (drop at f))

unfoldable pub digits_in : ℕ → ℕ → Bytes → Bool
digits_in at n f = all digit (take n (drop at f))

unfoldable pub byte_is : ℕ → ℕ → Bytes → Bool
byte_is at b f = eqb (get_or f at 0) b

-- f is a quoted string of n bytes
unfoldable pub quoted_size : ℕ → Bytes → Bool
quoted_size n f = eqb (length f) (n + 2) && byte_is 0 34 f && byte_is (suc n) 34 f

-- a date's form: DD.MM.YYYY is 1, YYYY/MM/DD is 2
unfoldable pub date_of : ℕ → Bytes → Date
date_of form f =
    pick (eqb form 1)
    (record { year = number_in 7 4 f; month = number_in 4 2 f; day = number_in 1 2 f })
    (record { year = number_in 1 4 f; month = number_in 6 2 f; day = number_in 9 2 f })

unfoldable pub date_shape : ℕ → Bytes → Bool
date_shape form f =
    quoted_size 10 f
    && pick (eqb form 1)
    (digits_in 1 2 f && byte_is 3 46 f && digits_in 4 2 f && byte_is 6 46 f && digits_in 7 4 f)
    (digits_in 1 4 f && byte_is 5 47 f && digits_in 6 2 f && byte_is 8 47 f && digits_in 9 2 f)

unfoldable pub date_ok : ℕ → Bytes → Bool
date_ok form f = date_shape form f && real_date (date_of form f)

-- HH:MM:SS
unfoldable pub time_of : Bytes → Time
time_of f = record { hour = number_in 1 2 f; minute = number_in 4 2 f; second = number_in 7 2 f }

unfoldable pub time_shape : Bytes → Bool
time_shape f = quoted_size 8 f && digits_in 1 2 f && byte_is 3 58 f && digits_in 4 2 f && byte_is 6 58 f && digits_in 7 2 f

unfoldable pub time_ok : Bytes → Bool
time_ok f = time_shape f && real_time (time_of f)
