use Rattle.std.proofs.Common.{◌≡◌, ◌∙◌, sym, ap, length, arith}
use Rattle.page.specs.Lines.{known, Mod}
use Rattle.commands.specs.Commands.{key, find_key}
use Rattle.commands.proofs.CommandLaws.{command_three, command_other}
use Rattle.commands.proofs.command.find_name.Goals as goal

pub returns-in-len3 : goal.returns-in-len3
unfolding key
returns-in-len3 c =
    let w = c.args.w.now in
    let h : length w ≡ 3 = omega arith in
    c.by_key.ensures ∙ ap (find_key Mod known) c.pack.ensures
    ∙ sym (command_three w h (omega (arith, c.type_inv.w 1)) (omega (arith, c.type_inv.w 2)))

pub returns-in_default : goal.returns-in_default
returns-in_default c = sym (command_other c.args.w.now (λ e. omega arith))

pub returns-in_default-2 : goal.returns-in_default-2
returns-in_default-2 c = sym (command_other c.args.w.now (λ e. omega arith))
