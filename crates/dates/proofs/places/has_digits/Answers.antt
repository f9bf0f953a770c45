use Rattle.std.proofs.Common.{◌≡◌, ◌∙◌, true, false, ap, rules, tests}
use Rattle.std.proofs.lemmas.Iterator.{cases_from_all, YieldsList-from_slice}
use Rattle.page.specs.Bytes.{all}
use Rattle.page.specs.Fields.{digit}
use Rattle.page.specs.Dates.{digits_in}
use Rattle.page.proofs.ChainLaws.{all_first}
use Rattle.dates.proofs.places.has_digits.Goals as goal

pub returns : goal.returns
unfolding digits_in
returns c =
    let s = c.cut_out.result.now in
    all_first digit s c.all.result
    (cases_from_all _ _ _ (λ b. digit b ≡ true) (λ b. digit b ≡ false) c.all.ensures.ran (YieldsList-from_slice s cc) (λ x q k. search (rules, tests)) (λ x q k. search (rules, tests)))
    ∙ ap (all digit) c.cut_out.ensures
