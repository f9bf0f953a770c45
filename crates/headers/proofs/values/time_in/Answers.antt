use mathlib.Core.Path.{sym}
use Rattle.headers.proofs.values.time_in.Goals as goal

pub returns : goal.returns
returns c =
    rw (sym c.field_in.ensures) c.read_time.ensures
