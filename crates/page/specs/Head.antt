-- A sound header's values: "the texts, date, time and character set, not the mode or the date's form".
use Rattle.std.specs.Prelude.{Bool, false, ◌||◌, List, [], ◌∷◌, ℕ, eqb, get_or, None, Option, Some}
use Rattle.page.specs.Bytes.{Bytes, pick, moved}
use Rattle.page.specs.Lines.{content, command, Mod, Src, Chs, Ver, Ifv, Dve, Fft}
use Rattle.page.specs.Fields.{fields, text_of}
use Rattle.page.specs.Cut.{header_lines}
use Rattle.page.specs.Dates.{date_of, time_of}
use Rattle.page.specs.Header.{mod_form, names_latin}
use Rattle.page.specs.Records.{own_bytes}
use Rattle.page.specs.Places.{line_of, field_span, unquoted}
use Rattle.page.specs.declared.Span.{Span}
use Rattle.page.specs.declared.Date.{Date}
use Rattle.page.specs.declared.Time.{Time}
use Rattle.page.specs.declared.Header.{Header}

pub record Head : Type 0 where
  pub source : Bytes
  pub date : Date
  pub time : Time
  pub latin : Bool
  pub ver : Bytes
  pub ifv : Bytes
  pub dve : Option Bytes
  pub fft : Option Bytes

-- field i (from 0) of the line of command k among a header's lines
unfoldable pub field_in : ℕ → ℕ → List Bytes → Bytes
field_in k i ls = get_or (fields (line_of k 0 ls).rest) i []

unfoldable pub text_in : ℕ → List Bytes → Bytes
text_in k ls = own_bytes (text_of (field_in k 0 ls))

unfoldable pub stands_in : ℕ → List Bytes → Bool
stands_in k [] = false
stands_in k (l ∷ ls) = eqb (command (content l)) k || stands_in k ls

unfoldable pub form_in : List Bytes → ℕ
form_in ls = mod_form (fields (line_of Mod 0 ls).rest)

unfoldable pub latin_in : List Bytes → Bool
latin_in ls = names_latin (field_in Chs 0 ls)

-- "Whether `dve` and `fft` stand is kept."
unfoldable pub text_if : ℕ → List Bytes → Option Bytes
text_if k ls = pick (stands_in k ls) (Some (text_in k ls)) None

unfoldable pub head_values : List Bytes → Head
head_values ls =
    record {
      source = text_in Src ls;
      date = date_of (form_in ls) (field_in Src 1 ls);
      time = time_of (field_in Src 2 ls);
      latin = latin_in ls;
      ver = text_in Ver ls;
      ifv = text_in Ifv ls;
      dve = text_if Dve ls;
      fft = text_if Fft ls;
    }

-- the same with the places of the texts' bytes between their quotes
unfoldable pub text_span : ℕ → List Bytes → Span
text_span k ls = moved (line_of k 0 ls).at (unquoted (field_span (line_of k 0 ls).rest 0))

unfoldable pub span_if : ℕ → List Bytes → Option Span
span_if k ls = pick (stands_in k ls) (Some (text_span k ls)) None

unfoldable pub header_values : List Bytes → Header
header_values ls =
    record {
      source = text_span Src ls;
      date = date_of (form_in ls) (field_in Src 1 ls);
      time = time_of (field_in Src 2 ls);
      latin = latin_in ls;
      ver = text_span Ver ls;
      ifv = text_span Ifv ls;
      dve = span_if Dve ls;
      fft = span_if Fft ls;
    }

-- the character set of a file
unfoldable pub latin_of : Bytes → Bool
latin_of s = latin_in (header_lines s)
