use Rattle.std.proofs.Common.{◌≡◌, ◌∙◌, ◌&&◌, eqb, ap}
use Rattle.page.specs.Bytes.{all}
use Rattle.page.specs.Lines.{clean, allowed, command}
use Rattle.commands.specs.declared.command.Command.TheVariants.{Rec}
use Rattle.commands.proofs.CodeLaws.{is_command}
use Rattle.commands.proofs.command.is_clean.Goals.{then-latin, else-latin}
use Rattle.commands.proofs.command.is_clean.Goals as goal

pub returns : goal.returns
unfolding clean
returns c =
    let s = c.args.c.now in
    let e : c.if-latin.all_allowed ≡ (c.args.latin && eqb (command s) 11) =
    elim c.if-latin.branch [
      | then-latin w ↦ w.all_allowed-is ∙ rw w.if-latin.true (is_command _ Rec _ _ w.eq.ensures w.of.ensures)
      | else-latin w ↦ w.all_allowed-is ∙ rw w.if-latin.false
    ] in
    c.all_allowed.ensures ∙ ap (λ b. all (allowed b) s) e
