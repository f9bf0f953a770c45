use Rattle.decimals.proofs.numbers.+put_padded.Given as goal

abbrev pub decreases-put_padded : goal.decreases-put_padded
decreases-put_padded l = l.k
