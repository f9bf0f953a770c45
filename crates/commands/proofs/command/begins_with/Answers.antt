use Rattle.std.proofs.Common.{◌∙◌, ap}
use Rattle.page.specs.Lines.{command}
use Rattle.commands.proofs.CodeLaws.{is_command}
use Rattle.commands.proofs.command.begins_with.Goals as goal

pub returns : goal.returns
returns c = is_command _ c.args.k _ _ c.eq.ensures (c.of.ensures ∙ ap command c.content_of.ensures)
