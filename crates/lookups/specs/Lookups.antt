-- The answer for one value.
use Rattle.std.specs.Prelude.{◌||◌, ℕ, Result}
use Rattle.page.specs.declared.Value.{Value}
use Rattle.page.specs.Bytes.{Bytes}
use Rattle.page.specs.Tables.{width}
use Rattle.page.specs.Head.{latin_of}
use Rattle.page.specs.Records.{table_index}
use Rattle.page.specs.Answers.{earlier, refuse_if, answered}
use Rattle.page.specs.File.{row_of}
use Rattle.page.specs.Reading.{outside, verdict_of, value_at}
use Rattle.page.specs.declared.Row.{Row}
use Rattle.page.specs.declared.Refusal.{Refusal}
use Rattle.cut.specs.Walk.{section_from}

-- "the section's verdict, 24 for the record or field", of the section at a place
unfoldable pub row_from : Bytes → ℕ → Row
row_from s at = row_of (latin_of s) (section_from s at)

unfoldable pub refusal_from : Bytes → ℕ → ℕ → ℕ → ℕ → Refusal
refusal_from s i at r f =
    earlier (verdict_of i (row_from s at))
    (refuse_if (outside r (row_from s at).records || outside f (width (table_index (section_from s at).lines))) 24)

unfoldable pub value_from : Bytes → ℕ → ℕ → ℕ → ℕ → Result Value Refusal
value_from s i at r f = answered (refusal_from s i at r f) (value_at (section_from s at) r f)
