use Rattle.references.proofs.references.+lost_before.Given as goal

abbrev pub decreases-lost_before : goal.decreases-lost_before
decreases-lost_before l = l.n
