-- That a field is a text, by its size, and that a line has a first field. Assumes nothing.
use Rattle.std.proofs.Common.{◌≡◌, ◌∙◌, ◌+◌, ◌<◌, Option, None, Some, false, length, refl, sym, ap, arith}
use Rattle.std.specs.Option.{is_some}
use Rattle.page.specs.Bytes.{Bytes}
use Rattle.page.specs.Header.{is_text}
use Rattle.page.specs.Fields.{field_size, fields}
use Rattle.page.proofs.FieldLaws.{from_all, from_more}
use Rattle.quoted.specs.Sizes.{size_of}

pub sized : (o : Option Bytes) → is_some (size_of o) ≡ is_text o
unfolding size_of
sized None = refl
sized (Some t) = refl

-- what follows a `;` has a field, be it an empty one
pub fields_some : (w : Bytes) → 0 < length (fields w)
fields_some w = omega (arith, ap length (sym (from_all w) ∙ from_more w 0 (0 + field_size false w) (omega arith) refl))
