-- What the lines of a header hold, with no algorithm: the fields of `mod`, `src`, `chs` and of the lines with one text; dates and times.
use Rattle.std.specs.Prelude.{◌≡◌, Bool, true, false, List, [], ◌∷◌, ◌++◌, ℕ, ◌+◌, ◌*◌, ◌≤◌, ◌<◌}
use Rattle.page.specs.Bytes.{Bytes, bytes}
use Rattle.page.specs.Form.{quoted}
use Rattle.page.specs.declared.Date.{Date}
use Rattle.page.specs.declared.Time.{Time}

-- real Gregorian date: every fourth year is a leap year, every hundredth is none, every four hundredth is one
pub data LeapYear (y : ℕ) : Type 0 where
  fourth : (k : ℕ) → y ≡ 4 * k → ((c : ℕ) → ¬ (y ≡ 100 * c)) → LeapYear y
  four_hundredth : (k : ℕ) → y ≡ 400 * k → LeapYear y

-- the months of a year, and how many days each has
pub data DaysIn (y : ℕ) : ℕ → ℕ → Type 0 where
  january : DaysIn y 1 31
  february : ¬ LeapYear y → DaysIn y 2 28
  leap_february : LeapYear y → DaysIn y 2 29
  march : DaysIn y 3 31
  april : DaysIn y 4 30
  may : DaysIn y 5 31
  june : DaysIn y 6 30
  july : DaysIn y 7 31
  august : DaysIn y 8 31
  september : DaysIn y 9 30
  october : DaysIn y 10 31
  november : DaysIn y 11 30
  december : DaysIn y 12 31

-- real Gregorian date from year 0001
pub record RealDate (d : Date) : Type 0 where
  pub days : ℕ
  pub from_year : 1 ≤ d.year
  pub month : DaysIn d.year d.month days
  pub from_day : 1 ≤ d.day
  pub to_day : d.day ≤ days

-- two digits, four digits, and what they are worth
pub data TwoDigits : Bytes → ℕ → Type 0 where
  two : {a b : ℕ} → a < 10 → b < 10 → TwoDigits ((48 + a) ∷ (48 + b) ∷ []) (a * 10 + b)

pub data FourDigits : Bytes → ℕ → Type 0 where
  four : {a b c d : ℕ} → a < 10 → b < 10 → c < 10 → d < 10 → FourDigits ((48 + a) ∷ (48 + b) ∷ (48 + c) ∷ (48 + d) ∷ []) (a * 1000 + b * 100 + c * 10 + d)

-- `DD.MM.YYYY` or `YYYY/MM/DD`: a date's form, by its number and its name
pub data DateForm : ℕ → Bytes → Type 0 where
  day_first : DateForm 1 (bytes "DD.MM.YYYY")
  year_first : DateForm 2 (bytes "YYYY/MM/DD")

-- a quoted real Gregorian date from year 0001 in the stated form: how a date is written; that it is real is `RealDate`
pub data DateText : ℕ → Bytes → Date → Type 0 where
  dotted : {y m d : Bytes} {year month day : ℕ} → TwoDigits d day → TwoDigits m month → FourDigits y year →
      DateText 1 (bytes "\"" ++ (d ++ (bytes "." ++ (m ++ (bytes "." ++ (y ++ bytes "\"")))))) (record { year = year; month = month; day = day })
  slashed : {y m d : Bytes} {year month day : ℕ} → FourDigits y year → TwoDigits m month → TwoDigits d day →
      DateText 2 (bytes "\"" ++ (y ++ (bytes "/" ++ (m ++ (bytes "/" ++ (d ++ bytes "\"")))))) (record { year = year; month = month; day = day })

-- a quoted time 00:00:00 to 23:59:59
pub data TimeText : Bytes → Time → Type 0 where
  time_text : {h m s : Bytes} {hour minute second : ℕ} → TwoDigits h hour → TwoDigits m minute → TwoDigits s second → hour ≤ 23 → minute ≤ 59 → second ≤ 59 →
      TimeText (bytes "\"" ++ (h ++ (bytes ":" ++ (m ++ (bytes ":" ++ (s ++ bytes "\"")))))) (record { hour = hour; minute = minute; second = second })

-- and `free` or `aligned`
pub data Mode : Bytes → Type 0 where
  free : Mode (bytes "free")
  aligned : Mode (bytes "aligned")

-- `mod`, with `DD.MM.YYYY` or `YYYY/MM/DD`, `HH:MM:SS`, and `free` or `aligned`
pub data ModFields (form : ℕ) : List Bytes → Type 0 where
  mod_fields : {date mode : Bytes} → DateForm form date → Mode mode → ModFields form (date ∷ bytes "HH:MM:SS" ∷ mode ∷ [])

-- `src` holds a text, a quoted real Gregorian date from year 0001 in the stated form and a quoted time 00:00:00 to 23:59:59.
pub data SrcFields (form : ℕ) (source : Bytes) (date : Date) (time : Time) : List Bytes → Type 0 where
  src_fields : {d t : Bytes} → DateText form d date → RealDate date → TimeText t time → SrcFields form source date time (quoted source ∷ d ∷ t ∷ [])

-- `chs` is quoted `ASCII`, `ISO8859-1` or `ISO-8859-1`; the last two mean the same.
pub data ChsFields : Bool → List Bytes → Type 0 where
  ascii : ChsFields false (bytes "\"ASCII\"" ∷ [])
  latin : ChsFields true (bytes "\"ISO8859-1\"" ∷ [])
  latin_dashed : ChsFields true (bytes "\"ISO-8859-1\"" ∷ [])

-- The others hold one text.
pub data TextFields (text : Bytes) : List Bytes → Type 0 where
  text_fields : TextFields text (quoted text ∷ [])
