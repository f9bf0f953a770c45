use Rattle.page.specs.Form.{decimal}
use Rattle.decimals.proofs.numbers.put_decimal.Goals as goal

pub returns : goal.returns
unfolding decimal
returns c = c.put_digits.ensures
