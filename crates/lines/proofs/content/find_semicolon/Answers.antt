use Rattle.std.proofs.Common.{◌≡◌, ◌∙◌, true, false, rules, tests}
use Rattle.std.proofs.lemmas.Iterator.{IsFirst-from_position, YieldsList-from_slice}
use Rattle.page.specs.Lines.{semicolon}
use Rattle.page.proofs.ChainLaws.{until_first}
use Rattle.lines.proofs.content.find_semicolon.Goals as goal

pub returns : goal.returns
returns c =
    let s = c.args.c.now in
    let h =
    IsFirst-from_position _ _ _ (λ b. semicolon b ≡ true) (λ b. semicolon b ≡ false) c.position.ensures.ran (YieldsList-from_slice s cc)
    (λ x q k. search (rules, tests)) (λ x q k. search (rules, tests)) in
    c.unwrap_or.ensures ∙ until_first semicolon s c.position.result h
