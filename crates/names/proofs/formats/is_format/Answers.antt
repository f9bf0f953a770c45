use Rattle.page.specs.Bytes.{bytes}
use Rattle.page.specs.Section.{format_ok}
use Rattle.names.proofs.formats.is_format.Goals as goal

pub returns-then-text : goal.returns-then-text
unfolding format_ok bytes
returns-then-text c = rw c.if-text.true c.is_formed.ensures

pub returns : goal.returns
unfolding format_ok bytes
returns c = rw c.if-text.false c.is_formed-2.ensures
