use Prim.Native.Nat.{◌+◌}
use mathlib.Core.Path.{sym, ◌∙◌}
use lib.ListN.{length-drop}
use native.Mathlib.Nat.{le_of_eq}
use lib.Seq.{take_all}
use Rattle.page.proofs.ContentLaws.{rest_at, rest_none}
use Rattle.lines.proofs.content.rest_of.Goals as goal

pub returns-then-i-c : goal.returns-then-i-c
returns-then-i-c c =
    let s = c.args.c.now in
    let k = c.find_semicolon-i.result + 1 in
    take_all _ _ (le_of_eq (length-drop k s)) ∙ rest_at s _ c.find_semicolon-i.ensures

pub returns-else-i-c : goal.returns-else-i-c
returns-else-i-c c = sym (rest_none c.args.c.now _ c.find_semicolon-i.ensures c.if-i-c.false)
