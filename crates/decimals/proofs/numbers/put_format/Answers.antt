use mathlib.Core.Path.{refl}
use Rattle.page.specs.Bytes.{bytes}
use Rattle.decimals.proofs.DecimalLaws.{format_char, format_num}
use Rattle.output.proofs.OutputLaws.{put_as}
use Rattle.decimals.proofs.numbers.put_format.Goals as goal

pub returns-then-column : goal.returns-then-column
unfolding bytes
returns-then-column c = put_as (format_char c.args.column _ _ refl refl c.if-column.true) c.put_sized.ensures

pub returns-else-column : goal.returns-else-column
unfolding bytes
returns-else-column c = put_as (format_num c.args.column _ _ refl refl c.if-column.false) c.put_sized-else-column.ensures
