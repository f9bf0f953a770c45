use Rattle.std.proofs.Common.{rules}
use Rattle.tables.proofs.ReferenceLaws.{refer_is}
use Rattle.tables.proofs.references.find_reference.Goals as goal

pub returns : goal.returns
returns c = refer_is c.args.t c.args.r c.from_fn.result c.from_fn.ensures.items.long (search rules)
