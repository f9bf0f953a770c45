use Rattle.fills.proofs.filling.is_empty.Goals as goal

pub returns-in-Words : goal.returns-in-Words
returns-in-Words c = rw c.in-Words.is
