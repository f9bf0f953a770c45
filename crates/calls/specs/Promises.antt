-- What each public call promises: an equation for its answer, and one for the later content of what was lent to it.
use Rattle.std.specs.Prelude.{◌≡◌, List, ℕ, length, Result}
use Rattle.page.specs.declared.Value.{Value}
use Rattle.page.specs.declared.Refusal.{Refusal}
use Rattle.page.specs.declared.Header.{Header}
use Rattle.page.specs.declared.Copied.{Copied}
use Rattle.page.specs.Bytes.{Bytes}
use Rattle.page.specs.File.{check_of}
use Rattle.page.specs.Reading.{header_of, section_of, list_of, rows_after, value_of}
use Rattle.page.specs.Handing.{text_out, text_after, table_of, cells_after}
use Rattle.page.specs.Writing.{write_of, write_after, strip_of, strip_after, fill_of, fill_after}
use Rattle.page.specs.declared.Row.{Row}

-- r is the answer, and `after` what was lent holds later
pub record Kept {A B : Type 0} (answer : A) (later : B) (r : A) (after : B) : Type 0 where
  pub answers : r ≡ answer
  pub leaves : after ≡ later

abbrev pub Checks : Bytes → Result (Unit {0}) Refusal → Type 0
Checks s r = r ≡ check_of s

abbrev pub ReadsHeader : Bytes → Result Header Refusal → Type 0
ReadsHeader s r = r ≡ header_of s

abbrev pub ReadsSection : Bytes → ℕ → Result Row Refusal → Type 0
ReadsSection s i r = r ≡ section_of s i

abbrev pub ReadsValue : Bytes → ℕ → ℕ → ℕ → Result Value Refusal → Type 0
ReadsValue s i j f r = r ≡ value_of s i j f

abbrev pub Lists : Bytes → List Row → Result (Unit {0}) Refusal → List Row → Type 0
Lists s rows r after = Kept (list_of s (length rows)) (rows_after s rows) r after

abbrev pub Writes : Bytes → Bytes → Result ℕ Refusal → Bytes → Type 0
Writes s out r after = Kept (write_of s (length out)) (write_after s out) r after

abbrev pub Strips : Bytes → Bytes → Result ℕ Refusal → Bytes → Type 0
Strips s out r after = Kept (strip_of s (length out)) (strip_after s out) r after

abbrev pub Fills : Bytes → ℕ → ℕ → ℕ → Bytes → Bytes → Result ℕ Refusal → Bytes → Type 0
Fills s i j f t out r after = Kept (fill_of s i j f t (length out)) (fill_after s i j f t out) r after

-- a text's own bytes, and whose it is
abbrev pub HandsText : Bytes → ℕ → ℕ → ℕ → Bytes → Result Copied Refusal → Bytes → Type 0
HandsText s i j f out r after = Kept (text_out s i j f (length out)) (text_after s i j f out) r after

-- all values of one table
abbrev pub HandsTable : Bytes → ℕ → List ℕ → Result ℕ Refusal → List ℕ → Type 0
HandsTable s i cells r after = Kept (table_of s i (length cells)) (cells_after s i cells) r after
