use Rattle.bits.proofs.BitLaws.{touched}
use Rattle.bits.proofs.bits.set_bits.Goals as goal

pub returns : goal.returns
returns c = touched c.args.t.now c.args.i c.args.m c.requires
