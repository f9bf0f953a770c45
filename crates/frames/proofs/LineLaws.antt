-- Laws of the written lines: what they are made of. Assumes nothing.
use Rattle.std.specs.Prelude.{None, Option, Some}
use mathlib.Core.Path.{◌≡◌, refl, ap, ◌∙◌}
use mathlib.Core.Bool.{Bool, true, false}
use mathlib.Core.List.{List, [], ◌∷◌, ◌++◌, append-nil, append_assoc}
use Prim.Native.Nat.{ℕ}
use Prim.Native.String.{String}
use native.Mathlib.Omega.{arith}
use Rattle.page.specs.Bytes.{Bytes, bytes, part}
use Rattle.page.specs.Head.{Head}
use Rattle.page.specs.Form.{line_end, separated, line, decimal, doubled, quoted, date_text, time_text, charset_name, line_if, head_form, mark_line}
use Rattle.page.specs.declared.LineEnd.{LineEnd}
use Rattle.page.specs.declared.Span.{Span}
use Rattle.page.specs.declared.Date.{Date}
use Rattle.page.specs.declared.Time.{Time}
use Rattle.page.specs.declared.Header.{Header}
use Rattle.doubling.specs.Raw.{raw_text}
use Rattle.frames.specs.Lines.{line_with, text_line}
use Rattle.frames.specs.Heads.{mod_line, src_line, chs_line, stated_line, head_raw}
use Rattle.frames.proofs.PlainLaws.{Plain, plain_append, plain_byte, plain_decimal, plain_padded, plain_quoted}

-- a line by its command's letters
pub line_is : (ends : LineEnd) (word : Bytes) (f : Bytes) → word ++ (bytes "; " ++ (f ++ line_end ends)) ≡ line_with ends word (f ∷ [])
unfolding line_with separated
line_is ends word f = simp (append-nil, append_assoc)

-- the bytes of a mark, a date and a time hold no quote

plain_suggested : doubled (bytes "SUGGESTED ") ≡ bytes "SUGGESTED "
unfolding bytes doubled
plain_suggested = refl

plain_mark : (i : ℕ) → Plain (bytes "SUGGESTED " ++ decimal i)
unfolding decimal
plain_mark i = plain_append (bytes "SUGGESTED ") (decimal i) (record { is = plain_suggested }) (plain_decimal 19 i)

pub mark_is : (ends : LineEnd) (i : ℕ) → bytes "com; \"SUGGESTED " ++ (decimal i ++ ((34 ∷ []) ++ line_end ends)) ≡ mark_line ends i
unfolding bytes mark_line line separated
mark_is ends i = simp (plain_quoted (bytes "SUGGESTED " ++ decimal i) (plain_mark i), append_assoc)

plain_date : (d : Date) → Plain (date_text d)
unfolding bytes date_text
plain_date d =
    plain_append _ _ (plain_padded 2 d.day)
    (plain_append _ _ (plain_byte 46 (λ e. omega arith))
    (plain_append _ _ (plain_padded 2 d.month) (plain_append _ _ (plain_byte 46 (λ e. omega arith)) (plain_padded 4 d.year))))

plain_time : (t : Time) → Plain (time_text t)
unfolding bytes time_text
plain_time t =
    plain_append _ _ (plain_padded 2 t.hour)
    (plain_append _ _ (plain_byte 58 (λ e. omega arith))
    (plain_append _ _ (plain_padded 2 t.minute) (plain_append _ _ (plain_byte 58 (λ e. omega arith)) (plain_padded 2 t.second))))

-- the header's lines

pub mod_is : (ends : LineEnd) → bytes "mod; DD.MM.YYYY; HH:MM:SS; free" ++ line_end ends ≡ mod_line ends
unfolding bytes mod_line line_with separated
mod_is ends = refl

pub src_is : (ends : LineEnd) (s : Bytes) (place : Span) (d : Date) (t : Time)
    → bytes "src; " ++
    (raw_text (part place s) ++
    (bytes "; \"" ++ (date_text d ++ (bytes "\"; \"" ++ (time_text t ++ ((34 ∷ []) ++ line_end ends))))))
    ≡ src_line ends s place d t
unfolding bytes src_line line_with separated
src_is ends s place d t =
    simp (plain_quoted (date_text d) (plain_date d), plain_quoted (time_text t) (plain_time t), append-nil, append_assoc)

pub chs_latin : (ends : LineEnd) (latin : Bool) → latin ≡ true → bytes "chs; \"ISO8859-1\"" ++ line_end ends ≡ chs_line ends latin
unfolding bytes chs_line charset_name quoted doubled line_with separated
chs_latin ends latin e = rw e

pub chs_ascii : (ends : LineEnd) (latin : Bool) → latin ≡ false → bytes "chs; \"ASCII\"" ++ line_end ends ≡ chs_line ends latin
unfolding bytes chs_line charset_name quoted doubled line_with separated
chs_ascii ends latin e = rw e

pub text_line_is : (ends : LineEnd) (word s : Bytes) (place : Span)
    → word ++ (bytes "; " ++ (raw_text (part place s) ++ line_end ends)) ≡ text_line ends word s place
unfolding text_line
text_line_is ends word s place = line_is ends word (raw_text (part place s))

pub stated_none : (ends : LineEnd) (word s : Bytes) (x : Option Span) → x ≡ None → [] ≡ stated_line ends word s x
unfolding stated_line
stated_none ends word s x e = rw e

pub stated_at : (ends : LineEnd) (word s : Bytes) (x : Option Span) (place : Span) → x ≡ Some place → text_line ends word s place ≡ stated_line ends word s x
unfolding stated_line
stated_at ends word s x place e = rw e

-- copying a text as it stands is writing it

pub raw_quoted : (t : Bytes) → raw_text (doubled t) ≡ quoted t
unfolding raw_text quoted
raw_quoted t = refl

-- A header by places says what a header by values says, where each text's bytes in the file are the text with its quotes doubled.
pub data Same_stated (s : Bytes) : Option Span → Option Bytes → Type 0 where
  absent : Same_stated s None None
  at : (place : Span) (t : Bytes) → part place s ≡ doubled t → Same_stated s (Some place) (Some t)

pub record Same_head (s : Bytes) (x : Header) (h : Head) : Type 0 where
  pub source : part x.source s ≡ doubled h.source
  pub date : x.date ≡ h.date
  pub time : x.time ≡ h.time
  pub latin : x.latin ≡ h.latin
  pub ver : part x.ver s ≡ doubled h.ver
  pub ifv : part x.ifv s ≡ doubled h.ifv
  pub dve : Same_stated s x.dve h.dve
  pub fft : Same_stated s x.fft h.fft

pub line_with_is : (ends : LineEnd) (word : String) (fs : List Bytes) → line_with ends (bytes word) fs ≡ line ends word fs
unfolding line_with line
line_with_is ends word fs = refl

raw_part : (s : Bytes) (place : Span) (t : Bytes) → part place s ≡ doubled t → raw_text (part place s) ≡ quoted t
raw_part s place t e = ap raw_text e ∙ raw_quoted t

text_line_same : (ends : LineEnd) (word : String) (s : Bytes) (place : Span) (t : Bytes) → part place s ≡ doubled t
    → text_line ends (bytes word) s place ≡ line ends word (quoted t ∷ [])
unfolding text_line
text_line_same ends word s place t e = rw (raw_part s place t e) (line_with_is ends word (quoted t ∷ []))

stated_same : (ends : LineEnd) (word : String) (s : Bytes) (x : Option Span) (o : Option Bytes) → Same_stated s x o → stated_line ends (bytes word) s x ≡ line_if ends word o
unfolding stated_line line_if
stated_same ends word s x o absent = refl
stated_same ends word s x o (at place t e) = text_line_same ends word s place t e

pub head_same : (ends : LineEnd) (s : Bytes) (x : Header) (h : Head) → Same_head s x h → head_raw ends s x ≡ head_form ends h
unfolding head_raw head_form mod_line src_line chs_line
head_same ends s x h e =
    rw
    (raw_part s x.source h.source e.source, e.date, e.time, e.latin, text_line_same ends "ver" s x.ver h.ver e.ver, text_line_same ends "ifv" s x.ifv h.ifv e.ifv, stated_same ends "dve" s x.dve h.dve e.dve, stated_same ends "fft" s x.fft h.fft e.fft, line_with_is ends "mod", line_with_is ends "src", line_with_is ends "chs")
