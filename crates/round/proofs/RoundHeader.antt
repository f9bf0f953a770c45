-- A written header is read back: sound, with its values. Assumes nothing.
use Rattle.std.specs.Prelude.{Some, None, Option}
use mathlib.Core.Path.{◌≡◌, refl, ◌∙◌}
use mathlib.Core.Bool.{Bool, true, false}
use mathlib.Core.List.{List, [], ◌∷◌, ◌++◌, append-nil}
use Prim.Native.Nat.{ℕ}
use Prim.Native.String.{String}
use native.Mathlib.Omega.{arith}
use lib.Dec.{eqb}
use Rattle.page.specs.Bytes.{Bytes, bytes, same, all}
use Rattle.page.specs.Lines.{joined, content, allowed, Mod, Src, Chs, Ver, Ifv, Dve, Fft, Com}
use Rattle.page.specs.Fields.{digit}
use Rattle.page.specs.Header.{form_named, mod_form, src_ok, names_ascii, names_latin, chs_ok, text_ok, holds, met_before, meet, met_none, head_choose, mod_step, other_step, head_step, complete, head_end, head_continue, head_run, head_of}
use Rattle.page.specs.Head.{Head}
use Rattle.page.specs.Form.{separated, line, quoted, doubled, padded, date_text, time_text, charset_name, line_if, head_form}
use Rattle.page.specs.declared.LineEnd.{LineEnd}
use Rattle.page.specs.declared.Met.{Met}
use Rattle.page.specs.declared.Date.{Date}
use Rattle.page.specs.declared.Time.{Time}
use Rattle.page.proofs.LineLaws.{joined_append}
use Rattle.round.specs.Round.{Printed, PrintedIf, SoundHead}
use Rattle.laws.proofs.WrittenScans.{all_append, all_mono}
use Rattle.round.proofs.WrittenNumbers.{padded_all}
use Rattle.round.proofs.WrittenTexts.{quoted_all}
use Rattle.round.proofs.WrittenFields.{solid, no_field, a_field, solid_field, quoted_field}
use Rattle.round.proofs.WrittenLines.{Named, commands, Seen, seen, separated_more, separated_none, quote_allowed}
use Rattle.round.proofs.WrittenDates.{date_ok_again, time_ok_again}
use Rattle.round.proofs.RoundRecords.{digit_allowed}
use Rattle.page.proofs.TextLaws.{quoted_text}

-- the written lines

unfoldable pub mod_line : LineEnd → Bytes
mod_line ends = line ends "mod" (bytes "DD.MM.YYYY" ∷ bytes "HH:MM:SS" ∷ bytes "free" ∷ [])

unfoldable pub src_line : LineEnd → Head → Bytes
src_line ends h = line ends "src" (quoted h.source ∷ quoted (date_text h.date) ∷ quoted (time_text h.time) ∷ [])

unfoldable pub chs_line : LineEnd → Head → Bytes
chs_line ends h = line ends "chs" (quoted (charset_name h.latin) ∷ [])

abbrev pub text_line : LineEnd → String → Bytes → Bytes
text_line ends s t = line ends s (quoted t ∷ [])

unfoldable pub lines_if : LineEnd → String → Option Bytes → List Bytes
lines_if ends s None = []
lines_if ends s (Some t) = text_line ends s t ∷ []

unfoldable pub head_lines : LineEnd → Head → List Bytes
head_lines ends h =
    mod_line ends ∷ src_line ends h ∷ chs_line ends h ∷ text_line ends "ver" h.ver ∷ text_line ends "ifv" h.ifv ∷ (lines_if ends "dve" h.dve ++ lines_if ends "fft" h.fft)

joined_if : (ends : LineEnd) (s : String) (t : Option Bytes) → joined (lines_if ends s t) ≡ line_if ends s t
unfolding lines_if line_if joined
joined_if ends s None = refl
joined_if ends s (Some t) = append-nil (line ends s (quoted t ∷ []))

pub joined_head : (ends : LineEnd) (h : Head) → joined (head_lines ends h) ≡ head_form ends h
unfolding head_lines mod_line src_line chs_line head_form joined
joined_head ends h = rw (joined_append (lines_if ends "dve" h.dve) (lines_if ends "fft" h.fft), joined_if ends "dve" h.dve, joined_if ends "fft" h.fft)

-- as the definitions see them

pub mod_seen : (ends : LineEnd) → Seen false (mod_line ends) Mod (bytes "DD.MM.YYYY") (bytes "HH:MM:SS" ∷ bytes "free" ∷ [])
unfolding mod_line bytes all solid allowed separated
mod_seen ends =
    seen ends commands.0 (bytes "DD.MM.YYYY") (bytes "HH:MM:SS" ∷ bytes "free" ∷ []) false
    (a_field (solid_field (bytes "DD.MM.YYYY") (omega arith) refl)
    (a_field (solid_field (bytes "HH:MM:SS") (omega arith) refl) (a_field (solid_field (bytes "free") (omega arith) refl) no_field))) refl

pub text_seen : (ends : LineEnd) {s : String} {k : ℕ} → Named s k → (t : Bytes) → Printed t → Seen false (text_line ends s t) k (quoted t) []
text_seen ends n t p =
    seen ends n (quoted t) [] false (a_field (quoted_field t) no_field) (separated_more false (quoted t) [] (quoted_all (allowed false) t quote_allowed p) (separated_none false))

charset_printed : (latin : Bool) → Printed (charset_name latin)
unfolding charset_name bytes all allowed
charset_printed true = refl
charset_printed false = refl

pub chs_seen : (ends : LineEnd) (h : Head) → Seen false (chs_line ends h) Chs (quoted (charset_name h.latin)) []
unfolding chs_line
chs_seen ends h = text_seen ends commands.2 (charset_name h.latin) (charset_printed h.latin)

padded_printed : (k n : ℕ) → Printed (padded k n)
padded_printed k n = all_mono digit (allowed false) (digit_allowed false) (padded k n) (padded_all k n)

date_printed : (d : Date) → Printed (date_text d)
unfolding date_text bytes all allowed
date_printed d =
    all_append (allowed false) (padded 2 d.day) (46 ∷ padded 2 d.month ++ (46 ∷ padded 4 d.year)) (padded_printed 2 d.day)
    (all_append (allowed false) (padded 2 d.month) (46 ∷ padded 4 d.year) (padded_printed 2 d.month) (padded_printed 4 d.year))

time_printed : (t : Time) → Printed (time_text t)
unfolding time_text bytes all allowed
time_printed t =
    all_append (allowed false) (padded 2 t.hour) (58 ∷ padded 2 t.minute ++ (58 ∷ padded 2 t.second)) (padded_printed 2 t.hour)
    (all_append (allowed false) (padded 2 t.minute) (58 ∷ padded 2 t.second) (padded_printed 2 t.minute) (padded_printed 2 t.second))

abbrev dated : Head → List Bytes
dated h = quoted (date_text h.date) ∷ quoted (time_text h.time) ∷ []

pub src_seen : (ends : LineEnd) (h : Head) → SoundHead h → Seen false (src_line ends h) Src (quoted h.source) (dated h)
unfolding src_line
src_seen ends h s =
    seen ends commands.1 (quoted h.source) (dated h) false
    (a_field (quoted_field h.source) (a_field (quoted_field (date_text h.date)) (a_field (quoted_field (time_text h.time)) no_field)))
    (separated_more false (quoted h.source) (dated h) (quoted_all (allowed false) h.source quote_allowed s.source)
    (separated_more false (quoted (date_text h.date)) (quoted (time_text h.time) ∷ [])
    (quoted_all (allowed false) (date_text h.date) quote_allowed (date_printed h.date))
    (separated_more false (quoted (time_text h.time)) []
    (quoted_all (allowed false) (time_text h.time) quote_allowed (time_printed h.time)) (separated_none false))))

-- the header's machine takes them

first_step : (ends : LineEnd) → head_step (met_none 0) (content (mod_line ends)) ≡ Some (met_none 1)
unfolding head_step mod_step head_choose mod_form form_named same bytes
first_step ends = rw ((mod_seen ends).clean, (mod_seen ends).shown, (mod_seen ends).named, (mod_seen ends).split)

next_step : {l : Bytes} {k : ℕ} {f : Bytes} {fs : List Bytes} → Seen false l k f fs → (m : Met) → eqb m.form 0 ≡ false → eqb k Com ≡ false →
    met_before k m ≡ false → holds k m.form (f ∷ fs) ≡ true → head_step m (content l) ≡ Some (meet k m)
unfolding head_step other_step head_choose
next_step s m a b c d = rw (s.clean, s.shown, s.named, s.split, b, a, c, d)

text_held : (k form : ℕ) (t : Bytes) → eqb k Src ≡ false → eqb k Chs ≡ false → holds k form (quoted t ∷ []) ≡ true
unfolding holds text_ok
text_held k form t a b = rw (a, b, quoted_text t)

charset_held : (latin : Bool) → chs_ok (quoted (charset_name latin) ∷ []) ≡ true
unfolding chs_ok names_ascii names_latin charset_name quoted doubled bytes same
charset_held true = refl
charset_held false = refl

-- the character set's name is read as it
pub charset_back : (latin : Bool) → names_latin (quoted (charset_name latin)) ≡ latin
unfolding names_latin charset_name quoted doubled bytes same
charset_back true = refl
charset_back false = refl

module _ (ends : LineEnd) (h : Head) (s : SoundHead h) where
  source_held : holds Src 1 (quoted h.source ∷ dated h) ≡ true
  unfolding holds src_ok
  source_held = rw (quoted_text h.source, date_ok_again h.date s.year s.date, time_ok_again h.time s.time)

  -- after the first five lines
  abbrev opened : Met
  opened = record { form = 1; src = true; chs = true; ver = true; ifv = true; dve = false; fft = false }

  five : (ls : List Bytes) →
      head_run (met_none 0) 0 (mod_line ends ∷ src_line ends h ∷ chs_line ends h ∷ text_line ends "ver" h.ver ∷ text_line ends "ifv" h.ifv ∷ ls) ≡ head_run opened 5 ls
  unfolding head_run head_continue meet met_before holds
  five ls =
      rw (
        first_step ends,
        next_step (src_seen ends h s) (met_none 1) refl refl refl source_held,
        next_step (chs_seen ends h) (meet Src (met_none 1)) refl refl refl (charset_held h.latin),
        next_step (text_seen ends commands.3 h.ver s.ver) (meet Chs (meet Src (met_none 1))) refl refl refl (text_held Ver 1 h.ver refl refl),
        next_step (text_seen ends commands.4 h.ifv s.ifv) (meet Ver (meet Chs (meet Src (met_none 1)))) refl refl refl (text_held Ifv 1 h.ifv refl refl),
      )

  others : (d f : Option Bytes) → PrintedIf d → PrintedIf f → head_run opened 5 (lines_if ends "dve" d ++ lines_if ends "fft" f) ≡ record { verdict = 0; line = 0 }
  unfolding head_run head_continue lines_if meet met_before head_end complete
  others None None p q = refl
  others (Some d) None p q = rw (next_step (text_seen ends commands.5 d p) opened refl refl refl (text_held Dve 1 d refl refl))
  others None (Some f) p q = rw (next_step (text_seen ends commands.6 f q) opened refl refl refl (text_held Fft 1 f refl refl))
  others (Some d) (Some f) p q =
      rw (
        next_step (text_seen ends commands.5 d p) opened refl refl refl (text_held Dve 1 d refl refl),
        next_step (text_seen ends commands.6 f q) (meet Dve opened) refl refl refl (text_held Fft 1 f refl refl),
      )

  pub header_back : head_of (head_lines ends h) ≡ record { verdict = 0; line = 0 }
  unfolding head_of head_lines
  header_back = five (lines_if ends "dve" h.dve ++ lines_if ends "fft" h.fft) ∙ others h.dve h.fft s.dve s.fft
