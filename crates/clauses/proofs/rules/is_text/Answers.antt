use Rattle.std.proofs.Common.{◌∙◌, ap}
use Rattle.std.specs.Option.{is_some}
use Rattle.page.specs.Fields.{text_of}
use Rattle.clauses.proofs.TextLaws.{sized}
use Rattle.clauses.proofs.rules.is_text.Goals as goal

pub returns : goal.returns
returns c = c.is_some.ensures ∙ ap is_some c.text_size.ensures ∙ sized (text_of c.args.f.now)
