use Prim.Native.Nat.{◌≤◌}
use mathlib.Core.Path.{ap, sym, ◌∙◌}
use lib.ListN.{length}
use borrow.Author.Rules.{rules}
use lib.Seq.{length-take-le}
use Rattle.page.specs.Lines.{find, known, Mod}
use Rattle.page.proofs.ContentLaws.{command_some, command_none}
use Rattle.commands.proofs.command.seek_command.Goals as goal

pub slice_bounds-trimmed-end : goal.slice_bounds-trimmed-end
slice_bounds-trimmed-end c =
    let h : c.find_semicolon-i.result ≤ length c.args.c.now = search rules in
    sym (length-take-le _ _ h)

pub returns-then-i-c : goal.returns-then-i-c
returns-then-i-c c =
    let s = c.args.c.now in
    c.find_name.ensures
    ∙ ap (find Mod known) c.trimmed.ensures
    ∙ sym (command_some s _ c.find_semicolon-i.ensures (search rules))

pub returns : goal.returns
returns c = sym (command_none c.args.c.now _ c.find_semicolon-i.ensures c.if-i-c.false)
