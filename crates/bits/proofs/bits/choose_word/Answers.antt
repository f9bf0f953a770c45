use Rattle.std.proofs.Common.{refl}
use Rattle.bits.proofs.BitLaws.{word_lt}
use Rattle.bits.specs.Bits.{word_of}
use Rattle.bits.proofs.bits.choose_word.Goals as goal

pub returns : goal.returns
unfolding word_of
returns c = (refl, word_lt c.args.h c.args.n c.requires)
