use Rattle.std.proofs.Common.{◌≡◌, true, false, rules, tests}
use Rattle.std.proofs.lemmas.Iterator.{cases_from_all, YieldsList-from_slice}
use Rattle.page.specs.Lines.{allowed}
use Rattle.page.proofs.ChainLaws.{all_first}
use Rattle.lines.proofs.content.few_allowed.Goals as goal

pub returns : goal.returns
returns c =
    let p = allowed c.args.wide in
    let s = c.args.c.now in
    all_first p s c.all.result
    (cases_from_all _ _ _ (λ b. p b ≡ true) (λ b. p b ≡ false) c.all.ensures.ran (YieldsList-from_slice s cc) (λ x q k. search (rules, tests)) (λ x q k. search (rules, tests)))
