use Rattle.std.proofs.Common.{[], ◌∷◌}
use Rattle.page.specs.Bytes.{part}
use Rattle.doubling.specs.Raw.{raw_text}
use Rattle.output.proofs.OutputLaws.{put_as}
use Rattle.entries.proofs.EntryLaws.{picked, unpicked}
use Rattle.entries.proofs.put_words.Goals as goal

pub returns-then-stripped : goal.returns-then-stripped
returns-then-stripped c =
    let a = c.args in
    put_as (picked a.stripped (34 ∷ 34 ∷ []) (raw_text (part a.place a.w.now)) c.if-stripped.true) c.put_bytes.ensures

pub returns-else-stripped : goal.returns-else-stripped
returns-else-stripped c =
    let a = c.args in
    put_as (unpicked a.stripped (34 ∷ 34 ∷ []) (raw_text (part a.place a.w.now)) c.if-stripped.false) c.put_raw.ensures
