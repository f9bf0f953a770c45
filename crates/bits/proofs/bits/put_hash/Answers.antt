use Rattle.bits.proofs.BitLaws.{added}
use mathlib.Core.Logic.{inl, inr}
use Rattle.bits.proofs.bits.put_hash.Goals as goal

pub returns-then-a : goal.returns-then-a
returns-then-a c = added _ _ _ _ c.choose_word.ensures.0 _ c.choose_word-2.ensures.0 _ _ _ _ _ _ c.set_bits-a.ensures c.set_bits-b.ensures (λ f. inr f)

pub returns-else-a : goal.returns-else-a
returns-else-a c = added _ _ _ _ c.choose_word.ensures.0 _ c.choose_word-2.ensures.0 _ _ _ _ _ _ c.set_bits-a.ensures c.set_bits-b.ensures (λ f. inl f)
