-- What each C function promises that answers by a flat struct, as one word each: the equations of its contract.
use Rattle.std.specs.Prelude.{◌≡◌, List, ℕ, length}
use Rattle.page.specs.Bytes.{Bytes}
use Rattle.page.specs.Reading.{header_of, section_of, value_of}
use Rattle.page.specs.Handing.{text_out, text_after, table_of, cells_after}
use Rattle.page.specs.Writing.{write_of, write_after, strip_of, strip_after, fill_of, fill_after}
use Rattle.told.specs.Told.{told_headed, told_listed, told_got, told_written, told_handed}
use Rattle.told.specs.declared.answers.HeaderAnswer.{HeaderAnswer}
use Rattle.told.specs.declared.answers.RowAnswer.{RowAnswer}
use Rattle.told.specs.declared.answers.ValueAnswer.{ValueAnswer}
use Rattle.told.specs.declared.answers.LengthAnswer.{LengthAnswer}
use Rattle.told.specs.declared.answers.TextAnswer.{TextAnswer}

abbrev pub TellsHeader : Bytes → HeaderAnswer → Type 0
TellsHeader s r = r ≡ told_headed (header_of s)

abbrev pub TellsSection : Bytes → ℕ → RowAnswer → Type 0
TellsSection s i r = r ≡ told_listed (section_of s i)

abbrev pub TellsValue : Bytes → ℕ → ℕ → ℕ → ValueAnswer → Type 0
TellsValue s i j f r = r ≡ told_got (value_of s i j f)

abbrev pub TellsText : Bytes → ℕ → ℕ → ℕ → Bytes → TextAnswer → Bytes → Type 0
TellsText s i j f out r after = (r ≡ told_handed (text_out s i j f (length out))) × (after ≡ text_after s i j f out)

abbrev pub TellsTable : Bytes → ℕ → List ℕ → LengthAnswer → List ℕ → Type 0
TellsTable s i cells r after = (r ≡ told_written (table_of s i (length cells))) × (after ≡ cells_after s i cells)

abbrev pub TellsWrite : Bytes → Bytes → LengthAnswer → Bytes → Type 0
TellsWrite s out r after = (r ≡ told_written (write_of s (length out))) × (after ≡ write_after s out)

abbrev pub TellsStrip : Bytes → Bytes → LengthAnswer → Bytes → Type 0
TellsStrip s out r after = (r ≡ told_written (strip_of s (length out))) × (after ≡ strip_after s out)

abbrev pub TellsFill : Bytes → ℕ → ℕ → ℕ → Bytes → Bytes → LengthAnswer → Bytes → Type 0
TellsFill s i j f t out r after = (r ≡ told_written (fill_of s i j f t (length out))) × (after ≡ fill_after s i j f t out)
