use Rattle.std.proofs.Common.{◌∙◌, ◌-◌, ◌≤◌, ◌+◌, length, take, drop, length-take, rules, arith}
use Rattle.page.proofs.ScanLaws.{until_le}
use Rattle.lines.specs.Lines.{lf}
use Rattle.lines.proofs.RunLaws.{until_size}
use Rattle.lines.proofs.ends.line_end.Goals as goal

within : (c : goal.After-find_lf) → c.skip_blocks-from.result + c.find_lf.result ≤ length c.args.s.now
within c =
    let s = c.args.s.now in
    let from = c.skip_blocks-from.result in
    let w = take (length s - from) (drop from s) in
    omega (arith, c.find_lf.ensures, until_le lf w, length-take (length s - from) (drop from s), c.skip_blocks-from.ensures.within)

pub overflow_add-lf : goal.overflow_add-lf
overflow_add-lf c = omega (arith, within c)

pub overflow_add-lf-2 : goal.overflow_add-lf-2
overflow_add-lf-2 c = let h = within c in search (rules, h)

pub returns : goal.returns
returns c =
    let a = c.args in
    c.min.ensures ∙ until_size a.s.now a.at c.skip_blocks-from.result c.find_lf.result c.skip_blocks-from.ensures c.find_lf.ensures
