use Rattle.scans.specs.Scan.{line_key}
use Rattle.rounds.specs.Rounds.{hash_of}
use Rattle.rounds.proofs.hash_line.Goals as goal

pub returns : goal.returns
unfolding hash_of line_key
returns c = rw (c.hash_key.ensures, c.read_chosen.ensures, c.rest_of.ensures, c.content_of-c.ensures)
