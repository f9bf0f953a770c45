use Rattle.std.proofs.Common.{◌≡◌, ◌∙◌, true, false, rules, tests}
use Rattle.std.proofs.lemmas.Iterator.{IsFirst-from_position, YieldsList-from_slice}
use Rattle.page.specs.Bytes.{no_space}
use Rattle.page.proofs.ChainLaws.{until_first}
use Rattle.lines.proofs.scan.spaces.Goals as goal

pub returns : goal.returns
returns c =
    let s = c.args.s.now in
    let h =
    IsFirst-from_position _ _ _ (λ b. no_space b ≡ true) (λ b. no_space b ≡ false) c.position.ensures.ran (YieldsList-from_slice s cc)
    (λ x q k. search (rules, tests)) (λ x q k. search (rules, tests)) in
    c.unwrap_or.ensures ∙ until_first no_space s c.position.result h
