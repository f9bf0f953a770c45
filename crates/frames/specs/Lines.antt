-- Single lines, their texts given by their places in the file.
use Rattle.std.specs.Prelude.{List, [], ◌∷◌, ◌++◌}
use Rattle.page.specs.Bytes.{Bytes, part}
use Rattle.page.specs.Form.{separated, line_end}
use Rattle.page.specs.declared.LineEnd.{LineEnd}
use Rattle.page.specs.declared.Span.{Span}
use Rattle.doubling.specs.Raw.{raw_text}

-- a line, its command given by its bytes
unfoldable pub line_with : LineEnd → Bytes → List Bytes → Bytes
line_with e word fs = word ++ (separated fs ++ line_end e)

unfoldable pub text_line : LineEnd → Bytes → Bytes → Span → Bytes
text_line e word s place = line_with e word (raw_text (part place s) ∷ [])
