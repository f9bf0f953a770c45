-- "Where an answer is an enum, a definition gives this paper's number and values for each of its cases": number 0 and the values of
-- an accepted call, or a refusal's number and place and no values.
use Rattle.std.specs.Prelude.{Bool, true, false, ℕ, Err, None, Ok, Option, Result, Some}
use Rattle.page.specs.declared.Span.{Span}
use Rattle.page.specs.declared.Copied.{Copied}
use Rattle.page.specs.Handing.{owner_cell}
use Rattle.page.specs.declared.Refusal.{Refusal}
use Rattle.page.specs.declared.Header.{Header}
use Rattle.page.specs.declared.Row.{Row}
use Rattle.page.specs.declared.Value.{Value}
use Rattle.page.specs.declared.Value.TheVariants as Va
use Rattle.told.specs.declared.answers.HeaderAnswer.{HeaderAnswer}
use Rattle.told.specs.declared.answers.RowAnswer.{RowAnswer}
use Rattle.told.specs.declared.answers.ValueAnswer.{ValueAnswer}
use Rattle.told.specs.declared.answers.LengthAnswer.{LengthAnswer}
use Rattle.told.specs.declared.answers.TextAnswer.{TextAnswer}

abbrev pub no_row : Row
no_row = record { table = 0; place = 0; length = 0; records = 0; verdict = 0; line = 0 }

-- a section's row
abbrev pub told_listed : Result Row Refusal → RowAnswer
told_listed (Ok x) = record { number = 0; section = 0; line = 0; row = x }
told_listed (Err r) = record { number = r.number; section = r.section; line = r.line; row = no_row }

-- a header's values: a text that does not stand is told by 0 and 0, and by no flag
abbrev pub stated_flag : Option Span → Bool
stated_flag None = false
stated_flag (Some x) = true

abbrev pub stated_from : Option Span → ℕ
stated_from None = 0
stated_from (Some x) = x.from

abbrev pub stated_to : Option Span → ℕ
stated_to None = 0
stated_to (Some x) = x.to

abbrev pub told_header : Header → HeaderAnswer
told_header h =
    record {
      number = 0;
      section = 0;
      line = 0;
      source_from = h.source.from;
      source_to = h.source.to;
      year = h.date.year;
      month = h.date.month;
      day = h.date.day;
      hour = h.time.hour;
      minute = h.time.minute;
      second = h.time.second;
      latin = h.latin;
      ver_from = h.ver.from;
      ver_to = h.ver.to;
      ifv_from = h.ifv.from;
      ifv_to = h.ifv.to;
      dve = stated_flag h.dve;
      dve_from = stated_from h.dve;
      dve_to = stated_to h.dve;
      fft = stated_flag h.fft;
      fft_from = stated_from h.fft;
      fft_to = stated_to h.fft;
    }

abbrev pub no_header : Refusal → HeaderAnswer
no_header r =
    record {
      number = r.number;
      section = r.section;
      line = r.line;
      source_from = 0;
      source_to = 0;
      year = 0;
      month = 0;
      day = 0;
      hour = 0;
      minute = 0;
      second = 0;
      latin = false;
      ver_from = 0;
      ver_to = 0;
      ifv_from = 0;
      ifv_to = 0;
      dve = false;
      dve_from = 0;
      dve_to = 0;
      fft = false;
      fft_from = 0;
      fft_to = 0;
    }

abbrev pub told_headed : Result Header Refusal → HeaderAnswer
told_headed (Ok h) = told_header h
told_headed (Err r) = no_header r

-- a value: kind 0 is a number, 1 the operator's text, 2 a suggestion, 3 a missing number
abbrev pub told_value : Value → ValueAnswer
told_value (Va.Number n) = record { number = 0; section = 0; line = 0; kind = 0; amount = n; from = 0; to = 0 }
told_value Va.Missing = record { number = 0; section = 0; line = 0; kind = 3; amount = 0; from = 0; to = 0 }
told_value (Va.Words x) =
    record { number = 0; section = 0; line = 0; kind = owner_cell x.owner; amount = 0; from = x.from; to = x.to }

abbrev pub told_got : Result Value Refusal → ValueAnswer
told_got (Ok v) = told_value v
told_got (Err r) =
    record { number = r.number; section = r.section; line = r.line; kind = 0; amount = 0; from = 0; to = 0 }

-- how much was written
abbrev pub told_written : Result ℕ Refusal → LengthAnswer
told_written (Ok n) = record { number = 0; section = 0; line = 0; length = n }
told_written (Err r) = record { number = r.number; section = r.section; line = r.line; length = 0 }

-- a text: how much was written, and whose it is: 1 the operator's, 2 a suggestion
abbrev pub told_handed : Result Copied Refusal → TextAnswer
told_handed (Ok x) = record { number = 0; section = 0; line = 0; length = x.length; owner = owner_cell x.owner }
told_handed (Err r) = record { number = r.number; section = r.section; line = r.line; length = 0; owner = 0 }
