use Rattle.decimals.proofs.DecimalLaws.{decimal_few, decimal_last, decimal_more}
use Rattle.output.proofs.OutputLaws.{puts, put_as}
use Rattle.decimals.proofs.numbers.+put_digits.Goals as goal
use Rattle.decimals.proofs.numbers.+put_digits.Goals.{then-k-gt0, else-k-gt0}

pub returns-then-n-lt10 : goal.returns-then-n-lt10
returns-then-n-lt10 t c = put_as (decimal_few _ _ c.if-n-lt10.true) c.put_byte.ensures

pub returns : goal.returns
returns t c =
    elim c.if-k-gt0.branch [
      | then-k-gt0 w ↦
          put_as (decimal_more _ _ _ w.if-k-gt0.true c.if-n-lt10.false c.digit_of.ensures)
          (puts w.put_digits.ensures (rw w.out-is at c.put_byte-2.ensures))
      | else-k-gt0 w ↦ put_as (decimal_last _ _ _ w.if-k-gt0.false c.digit_of.ensures) (rw w.out-is at c.put_byte-2.ensures)
    ]
