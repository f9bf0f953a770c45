-- Inputs and what the definitions say of them, for the computed lists.
use Rattle.std.specs.Prelude.{Bool, ◌++◌, ℕ, Option, Result}
use Rattle.page.specs.declared.Value.{Value}
use Prim.Native.String.{String}
use Rattle.page.specs.Bytes.{Bytes, bytes}
use Rattle.page.specs.Lines.{lines, command}
use Rattle.page.specs.Fields.{text_of}
use Rattle.page.specs.Header.{head_of}
use Rattle.page.specs.Section.{outcome}
use Rattle.page.specs.File.{limit, file_refusal}
use Rattle.page.specs.Reading.{value_of}
use Rattle.page.specs.Writing.{write_form, fill_of}
use Rattle.page.specs.declared.Outcome.{Outcome}
use Rattle.page.specs.declared.Finding.{Finding}
use Rattle.page.specs.declared.Refusal.{Refusal}

-- a line's content, a field, a header, a section under ASCII (false) or ISO8859-1 (true), a file, its written form, a value of it, a fill
pub data Case : Type 0 where
  content_case field_case header_case file_case form_case : Bytes → Case
  section_case : Bool → Bytes → Case
  value_case : Bytes → (i r f : ℕ) → Case
  fill_case : Bytes → (i r f : ℕ) → Bytes → Case

pub data Answer : Type 0 where
  a_command : ℕ → Answer
  a_text : Option Bytes → Answer
  a_finding : Finding → Answer
  a_section : Outcome → Answer
  a_file : Refusal → Answer
  a_form : Bytes → Answer
  a_value : Result Value Refusal → Answer
  a_fill : Result ℕ Refusal → Answer

unfoldable pub answer : Case → Answer
answer (content_case c) = a_command (command c)
answer (field_case f) = a_text (text_of f)
answer (header_case s) = a_finding (head_of (lines s))
answer (section_case latin s) = a_section (outcome latin (lines s))
answer (file_case s) = a_file (file_refusal s)
answer (form_case s) = a_form (write_form s)
answer (value_case s i r f) = a_value (value_of s i r f)
answer (fill_case s i r f t) = a_fill (fill_of s i r f t limit)

-- table, records, verdict, line
abbrev pub says : ℕ → ℕ → ℕ → ℕ → Answer
says t k v n = a_section (record { table = t; records = k; verdict = v; line = n })

abbrev pub heads : ℕ → ℕ → Answer
heads v n = a_finding (record { verdict = v; line = n })

-- number, section, line
abbrev pub files : ℕ → ℕ → ℕ → Answer
files v i n = a_file (record { number = v; section = i; line = n })

-- a section's lines: its head, and what follows
unfoldable pub versions : String → Bytes
versions more = bytes "tbl; MENGE_BASIS_VERSIONEN\natr; BASIS_VERSION; BASIS_VERSION_TEXT\nfrm; num[9.0]; char[40]\n" ++ bytes more

unfoldable pub day_types : String → Bytes
day_types more =
    bytes "tbl; MENGE_TAGESART\natr; BASIS_VERSION; TAGESART_NR; TAGESART_TEXT\nfrm; num[9.0]; num[3.0]; char[40]\n" ++ bytes more

unfoldable pub valid_days : String → Bytes
valid_days more = bytes "tbl; BASIS_VER_GUELTIGKEIT\natr; VER_GUELTIGKEIT; BASIS_VERSION\nfrm; num[8.0]; num[9.0]\n" ++ bytes more

unfoldable pub calendar : String → Bytes
calendar more =
    bytes "tbl; FIRMENKALENDER\natr; BASIS_VERSION; BETRIEBSTAG; BETRIEBSTAG_TEXT; TAGESART_NR\nfrm; num[9.0]; num[8.0]; char[40]; num[3.0]\n" ++ bytes more

unfoldable pub point_types : String → Bytes
point_types more =
    bytes "tbl; MENGE_ONR_TYP\natr; BASIS_VERSION; ONR_TYP_NR; STR_ONR_TYP; ONR_TYP_TEXT\nfrm; num[9.0]; num[2.0]; char[6]; char[40]\n" ++ bytes more

unfoldable pub links : String → Bytes
links more =
    bytes "tbl; REC_UEB\natr; BASIS_VERSION; BEREICH_NR; ONR_TYP_NR; ORT_NR; UEB_ZIEL_TYP; UEB_ZIEL; UEB_LAENGE\n" ++
    (bytes "frm; num[9.0]; num[3.0]; num[2.0]; num[6.0]; num[2.0]; num[6.0]; num[6.0]\n" ++ bytes more)

unfoldable pub connections : String → Bytes
connections more =
    bytes "tbl; EINZELANSCHLUSS\natr; BASIS_VERSION; EINAN_NR; ANSCHLUSS_NAME; ANSCHLUSS_GRUPPE; LEITSTELLENKENNUNG; ZUB_LI_NR; ZUB_LI_RI_NR; " ++
    (bytes "ZUB_ORT_REF_ORT; ZUB_ONR_TYP_NR; ZUB_ORT_NR; VON_ORT_REF_ORT; LinienID; RichtungsID; ASBID; ABB_LI_NR; ABB_LI_RI_NR; " ++
    (bytes "ABB_ORT_REF_ORT; ABB_ONR_TYP_NR; ABB_ORT_NR; NACH_ORT_REF_ORT\nfrm; num[9.0]; num[5.0]; char[40]; char[6]; num[3.0]; num[6.0]; " ++
    (bytes "num[3.0]; num[6.0]; num[2.0]; num[6.0]; num[6.0]; char[6]; char[6]; char[10]; num[6.0]; num[3.0]; num[6.0]; num[2.0]; num[6.0]; num[6.0]\n" ++
    bytes more)))

unfoldable pub transfers : String → Bytes
transfers more =
    bytes "tbl; REC_UMS\natr; BASIS_VERSION; EINAN_NR; TAGESART_NR; UMS_BEGINN; UMS_ENDE; UMS_MIN; UMS_MAX; MAX_VERZ_MAN; MAX_VERZ_AUTO\n" ++
    (bytes "frm; num[9.0]; num[5.0]; num[3.0]; num[6.0]; num[6.0]; num[5.0]; num[5.0]; num[5.0]; num[5.0]\n" ++ bytes more)

unfoldable pub head : Bytes
head =
    bytes "mod; DD.MM.YYYY; HH:MM:SS; free\nsrc; \"Desk\"; \"01.02.2024\"; \"06:00:00\"\nchs; \"ISO8859-1\"\nver; \"1\"\nifv; \"1.0\"\n"
