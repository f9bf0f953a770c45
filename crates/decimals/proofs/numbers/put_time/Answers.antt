use Rattle.page.specs.Bytes.{bytes}
use Rattle.page.specs.Form.{time_text}
use Rattle.decimals.proofs.numbers.put_time.Goals as goal

pub returns : goal.returns
unfolding bytes time_text
returns c = c.put_three.ensures
