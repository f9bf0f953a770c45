use Rattle.std.proofs.Common.{rules}
use Rattle.tables.proofs.ReferenceLaws.{key_is}
use Rattle.tables.proofs.references.find_key.Goals as goal

pub returns : goal.returns
returns c = key_is c.args.second c.args.t c.from_fn.result c.from_fn.ensures.items.long (search rules)
