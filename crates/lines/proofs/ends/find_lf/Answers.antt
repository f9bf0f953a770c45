use Rattle.std.proofs.Common.{◌≡◌, ◌∙◌, true, false, rules, tests}
use Rattle.std.proofs.lemmas.Iterator.{IsFirst-from_position, YieldsList-from_slice}
use Rattle.page.proofs.ChainLaws.{until_first}
use Rattle.lines.specs.Lines.{lf}
use Rattle.lines.proofs.ends.find_lf.Goals as goal

pub returns : goal.returns
returns c =
    let s = c.args.s.now in
    let h =
    IsFirst-from_position _ _ _ (λ b. lf b ≡ true) (λ b. lf b ≡ false) c.position.ensures.ran (YieldsList-from_slice s cc)
    (λ x q k. search (rules, tests)) (λ x q k. search (rules, tests)) in
    c.unwrap_or.ensures ∙ until_first lf s c.position.result h
