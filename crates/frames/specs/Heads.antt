-- A header's lines, its texts given by their places in the file.
use Rattle.std.specs.Prelude.{Bool, [], ◌∷◌, ◌++◌, None, Option, Some}
use Rattle.page.specs.Bytes.{Bytes, bytes, part}
use Rattle.page.specs.Form.{quoted, date_text, time_text, charset_name}
use Rattle.page.specs.declared.LineEnd.{LineEnd}
use Rattle.page.specs.declared.Span.{Span}
use Rattle.page.specs.declared.Date.{Date}
use Rattle.page.specs.declared.Time.{Time}
use Rattle.page.specs.declared.Header.{Header}
use Rattle.doubling.specs.Raw.{raw_text}
use Rattle.frames.specs.Lines.{line_with, text_line}

unfoldable pub mod_line : LineEnd → Bytes
mod_line e = line_with e (bytes "mod") (bytes "DD.MM.YYYY" ∷ bytes "HH:MM:SS" ∷ bytes "free" ∷ [])

unfoldable pub src_line : LineEnd → Bytes → Span → Date → Time → Bytes
src_line e s place d t = line_with e (bytes "src") (raw_text (part place s) ∷ quoted (date_text d) ∷ quoted (time_text t) ∷ [])

unfoldable pub chs_line : LineEnd → Bool → Bytes
chs_line e latin = line_with e (bytes "chs") (quoted (charset_name latin) ∷ [])

unfoldable pub stated_line : LineEnd → Bytes → Bytes → Option Span → Bytes
stated_line e word s None = []
stated_line e word s (Some place) = text_line e word s place

unfoldable pub head_raw : LineEnd → Bytes → Header → Bytes
head_raw e s h =
    mod_line e ++
    (src_line e s h.source h.date h.time ++
    (chs_line e h.latin ++
    (text_line e (bytes "ver") s h.ver ++
    (text_line e (bytes "ifv") s h.ifv ++ (stated_line e (bytes "dve") s h.dve ++ stated_line e (bytes "fft") s h.fft)))))

-- what the lines say of its versions
unfoldable pub versions : LineEnd → Bytes → Header → Bytes
versions e s h =
    text_line e (bytes "ver") s h.ver ++
    (text_line e (bytes "ifv") s h.ifv ++ (stated_line e (bytes "dve") s h.dve ++ stated_line e (bytes "fft") s h.fft))
