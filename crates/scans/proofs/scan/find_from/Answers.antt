use borrow.Author.Rules.{rules}
use Rattle.scans.proofs.ScanLaws.{ahead_hit, ahead_none}
use Rattle.scans.proofs.scan.find_from.Goals as goal

pub returns-in-Some : goal.returns-in-Some
returns-in-Some c =
    ahead_hit c.args.w.now c.find_start-from.result c.find_start-from.ensures _ _ c.in-Some.ensures.met (search rules)

pub returns : goal.returns
returns c =
    ahead_none c.args.w.now c.find_start-from.result c.find_start-from.ensures _ _ c.in_default.ensures.met (search rules) _ c.find_key-2.ensures.met
