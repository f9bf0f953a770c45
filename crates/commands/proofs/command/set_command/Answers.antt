use mathlib.Core.Path.{ap, sym, ◌∙◌}
use native.Mathlib.Omega.{arith}
use Rattle.page.specs.Lines.{known, Mod}
use Rattle.commands.specs.Commands.{find_key}
use Rattle.commands.proofs.CommandLaws.{set_known}
use Rattle.commands.proofs.command.set_command.Goals as goal

pub returns : goal.returns
returns c =
    let s = c.args.c.now in
    c.by_key.ensures
    ∙ ap (find_key Mod known) c.pack.ensures
    ∙ sym (set_known s c.requires (omega (arith, c.shared_slice_known-4-1.given 1)) (omega (arith, c.shared_slice_known-4-1.given 2)))
