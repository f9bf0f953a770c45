-- What a header that is handed out stands for.
use Rattle.std.specs.Prelude.{◌≡◌, None, Option, Some}
use Rattle.page.specs.Bytes.{Bytes, part}
use Rattle.page.specs.Head.{Head}
use Rattle.page.specs.Form.{doubled}
use Rattle.page.specs.declared.Header.{Header}
use Rattle.page.specs.declared.Span.{Span}

-- a header's text that need not stand: absent in both, or the bytes of its span are the text's, each quote doubled
pub data StatedFor (s : Bytes) : Option Span → Option Bytes → Type 0 where
  absent : StatedFor s None None
  stated : {x : Span} {u : Bytes} → part x s ≡ doubled u → StatedFor s (Some x) (Some u)

-- a header handed out of the bytes s, and the file's: Header values are the texts, date, time and character set, each text by its span
pub record HeaderStandsFor (s : Bytes) (x : Header) (h : Head) : Type 0 where
  pub source : part x.source s ≡ doubled h.source
  pub date : x.date ≡ h.date
  pub time : x.time ≡ h.time
  pub latin : x.latin ≡ h.latin
  pub ver : part x.ver s ≡ doubled h.ver
  pub ifv : part x.ifv s ≡ doubled h.ifv
  pub dve : StatedFor s x.dve h.dve
  pub fft : StatedFor s x.fft h.fft
