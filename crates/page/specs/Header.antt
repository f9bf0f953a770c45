-- The header.
use Rattle.std.specs.Prelude.{Bool, true, false, not, ◌&&◌, ◌||◌, List, [], ◌∷◌, ℕ, suc, eqb, length, get_or, None, Option, Some}
use Rattle.page.specs.Bytes.{Bytes, bytes, pick, same}
use Rattle.page.specs.Lines.{content, blank, command, rest, clean, Mod, Src, Chs, Ver, Ifv, Dve, Fft, Com}
use Rattle.page.specs.Fields.{fields, text_of}
use Rattle.page.specs.Dates.{date_ok, time_ok}
use Rattle.page.specs.declared.Met.{Met}
use Rattle.page.specs.declared.Finding.{Finding}

abbrev pub is_text : Option Bytes → Bool
is_text None = false
is_text (Some t) = true

-- "`mod`, with `DD.MM.YYYY` or `YYYY/MM/DD`, `HH:MM:SS`, and `free` or `aligned`": the date's form, or 0
unfoldable pub form_named : Bytes → ℕ
form_named f = pick (same f (bytes "DD.MM.YYYY")) 1 (pick (same f (bytes "YYYY/MM/DD")) 2 0)

unfoldable pub mod_form : List Bytes → ℕ
mod_form fs =
    pick
    (eqb (length fs) 3 && same (get_or fs 1 []) (bytes "HH:MM:SS")
    && (same (get_or fs 2 []) (bytes "free") || same (get_or fs 2 []) (bytes "aligned")))
    (form_named (get_or fs 0 [])) 0

-- "`src` holds a text, a quoted date and a quoted time"
unfoldable pub src_ok : ℕ → List Bytes → Bool
src_ok form fs = eqb (length fs) 3 && is_text (text_of (get_or fs 0 [])) && date_ok form (get_or fs 1 []) && time_ok (get_or fs 2 [])

-- "`chs` is quoted `ASCII`, `ISO8859-1` or `ISO-8859-1`; the last two mean the same"
unfoldable pub names_ascii : Bytes → Bool
names_ascii f = same f (bytes "\"ASCII\"")

unfoldable pub names_latin : Bytes → Bool
names_latin f = same f (bytes "\"ISO8859-1\"") || same f (bytes "\"ISO-8859-1\"")

unfoldable pub chs_ok : List Bytes → Bool
chs_ok fs = eqb (length fs) 1 && (names_ascii (get_or fs 0 []) || names_latin (get_or fs 0 []))

-- "The others hold one text."
unfoldable pub text_ok : List Bytes → Bool
text_ok fs = eqb (length fs) 1 && is_text (text_of (get_or fs 0 []))

-- what a command's fields must be, under a date's form
unfoldable pub holds : ℕ → ℕ → List Bytes → Bool
holds k form fs = pick (eqb k Src) (src_ok form fs) (pick (eqb k Chs) (chs_ok fs) (text_ok fs))

-- has the line of command k been met?
unfoldable pub met_before : ℕ → Met → Bool
met_before k m =
    pick (eqb k Src) m.src
    (pick (eqb k Chs) m.chs
    (pick (eqb k Ver) m.ver (pick (eqb k Ifv) m.ifv (pick (eqb k Dve) m.dve (pick (eqb k Fft) m.fft true)))))

unfoldable pub meet : ℕ → Met → Met
meet k m =
    record {
      form = m.form;
      src = m.src || eqb k Src;
      chs = m.chs || eqb k Chs;
      ver = m.ver || eqb k Ver;
      ifv = m.ifv || eqb k Ifv;
      dve = m.dve || eqb k Dve;
      fft = m.fft || eqb k Fft;
    }

abbrev pub met_none : ℕ → Met
met_none form = record { form = form; src = false; chs = false; ver = false; ifv = false; dve = false; fft = false }

unfoldable pub head_choose : Bool → Option Met → Option Met → Option Met
head_choose true x y = x
head_choose false x y = y

-- "The first other line is `mod`"
unfoldable pub mod_step : ℕ → List Bytes → Option Met
mod_step k fs = head_choose (eqb k Mod && not (eqb (mod_form fs) 0)) (Some (met_none (mod_form fs))) None

-- "Then `src`, `chs`, `ver`, `ifv` once each and `dve`, `fft` at most once, in any order."
unfoldable pub other_step : Met → ℕ → List Bytes → Option Met
other_step m k fs = head_choose (not (met_before k m) && holds k m.form fs) (Some (meet k m)) None

-- "Blank and `com` lines may stand anywhere in it." c is the line's content
unfoldable pub head_step : Met → Bytes → Option Met
head_step m c =
    head_choose (clean false c)
    (head_choose (blank c || eqb (command c) Com) (Some m)
    (head_choose (eqb m.form 0) (mod_step (command c) (fields (rest c))) (other_step m (command c) (fields (rest c)))))
    None

-- is nothing missing?
unfoldable pub complete : Met → Bool
complete m = not (eqb m.form 0) && m.src && m.chs && m.ver && m.ifv

-- "first such line given, else the header's line count if something is missing": n lines have been read
unfoldable pub head_end : Met → ℕ → Finding
head_end m n = pick (complete m) (record { verdict = 0; line = 0 }) (record { verdict = 2; line = n })

unfoldable pub head_continue : Option Met → ℕ → (Met → Finding) → Finding
head_continue (Some m) n further = further m
head_continue None n further = record { verdict = 2; line = n }

unfoldable pub head_run : Met → ℕ → List Bytes → Finding
head_run m n [] = head_end m n
head_run m n (l ∷ ls) = head_continue (head_step m (content l)) (suc n) (λ q. head_run q (suc n) ls)

-- a header's verdict, of its lines
unfoldable pub head_of : List Bytes → Finding
head_of ls = head_run (met_none 0) 0 ls
