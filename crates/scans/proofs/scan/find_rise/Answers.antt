use mathlib.Core.Path.{sym, ◌∙◌}
use borrow.Author.Rules.{rules}
use Rattle.keys.proofs.DeriveLaws.{less_compared}
use Rattle.scans.proofs.TopLaws.{rises_other, rises_keyed}
use Rattle.scans.proofs.scan.find_rise.Goals as goal

pub returns-in-None : goal.returns-in-None
returns-in-None c = rises_other _ _ _ c.in-None.ensures

pub returns-in-Some : goal.returns-in-Some
returns-in-Some c =
    let k = c.in-Some.ensures in
    let r = rises_keyed _ _ c.args.top.k k.0 _ k.1 in
    let e = c.lt.ensures ∙ less_compared c.args.top.k c.in-Some.key.k (search rules) in
    (r.0 ∙ sym e ∙ c.if-lt.true, r.1)

pub returns-in-Some-2 : goal.returns-in-Some-2
returns-in-Some-2 c =
    let k = c.in-Some.ensures in
    let r = rises_keyed _ _ c.args.top.k k.0 _ k.1 in
    let e = c.lt.ensures ∙ less_compared c.args.top.k c.in-Some.key.k (search rules) in
    (r.0 ∙ sym e ∙ c.if-lt.false, r.1)
