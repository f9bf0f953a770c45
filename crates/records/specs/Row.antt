-- What a record's line says, with no question whether it is sound.
use Rattle.std.specs.Prelude.{ℕ}
use Rattle.page.specs.Bytes.{Bytes}
use Rattle.page.specs.Fields.{fields}
use Rattle.page.specs.Tables.{columns}
use Rattle.page.specs.Order.{Order, by_column, column_in}
use Rattle.page.specs.Records.{Record, values_of}

-- w is what stands after the line's first `;`
abbrev pub row : ℕ → Order → ℕ → Bytes → Record
row t o m w = values_of (column_in o m) 1 (columns t) (by_column o (fields w))
