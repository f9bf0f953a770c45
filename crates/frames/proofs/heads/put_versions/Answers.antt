use Rattle.page.specs.Bytes.{bytes}
use Rattle.frames.specs.Heads.{versions}
use Rattle.output.proofs.OutputLaws.{puts}
use Rattle.frames.proofs.heads.put_versions.Goals as goal

pub returns : goal.returns
unfolding bytes versions
returns c =
    puts c.put_text_line.ensures
    (puts c.put_text_line-2.ensures (puts c.put_stated_line.ensures c.put_stated_line-2.ensures))
