use Rattle.page.specs.Bytes.{bytes}
use Rattle.page.specs.Form.{date_text}
use Rattle.decimals.proofs.numbers.put_date.Goals as goal

pub returns : goal.returns
unfolding bytes date_text
returns c = c.put_three.ensures
