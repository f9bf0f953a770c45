use Rattle.aims.specs.Aims.{aim_at}
use Rattle.aims.proofs.AimLaws.{aiming_three}
use Rattle.aims.proofs.take_aims.Goals as goal

pub returns : goal.returns
unfolding aim_at
returns c = aiming_three _ _ _ _ _ c.take_aim.ensures c.take_aim-2.ensures c.take_aim-3.ensures
