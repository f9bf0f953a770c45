use mathlib.Core.Path.{ap}
use Rattle.doubling.specs.Raw.{raw_text}
use Rattle.doubling.proofs.TextLaws.{part_same}
use Rattle.output.proofs.OutputLaws.{put_as}
use Rattle.doubling.proofs.texts.put_raw_part.Goals as goal

pub returns : goal.returns
returns c =
    let a = c.args in
    put_as
    (ap raw_text (part_same a.file.now a.place c.min-to.result c.min-from.result c.min-to.ensures c.min-from.ensures))
    c.put_raw.ensures
