use Rattle.bits.proofs.BitLaws.{probed_first, probed}
use Rattle.bits.proofs.bits.has_hash.Goals as goal

pub returns-then-t-choose_word : goal.returns-then-t-choose_word
returns-then-t-choose_word c = probed _ _ _ _ c.choose_word.ensures.0 _ c.choose_word-then-t-choose_word.ensures.0 _ c.if-t-choose_word.true

pub returns-else-t-choose_word : goal.returns-else-t-choose_word
returns-else-t-choose_word c = probed_first _ _ _ _ c.choose_word.ensures.0 _ c.if-t-choose_word.false
