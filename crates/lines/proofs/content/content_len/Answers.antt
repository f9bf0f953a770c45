use Rattle.std.proofs.Common.{◌≡◌, ◌∙◌, ◌-◌, length, sym, arith, rules}
use Rattle.page.proofs.ContentLaws.{content_none, content_whole, content_cr, content_lf, content_one}
use Rattle.lines.proofs.content.content_len.Goals as goal

pub returns-in-13 : goal.returns-in-13
returns-in-13 c = sym (content_cr c.args.l.now (search rules) (search rules))

pub returns-in-10 : goal.returns-in-10
returns-in-10 c = sym (content_lf c.args.l.now (search rules) (search rules))

pub returns-in-10-2 : goal.returns-in-10-2
returns-in-10-2 c =
    let z : length c.args.l.now - 1 ≡ 0 = omega arith in
    sym (content_one c.args.l.now (omega arith) (rw z (search rules)))

pub returns-in_default : goal.returns-in_default
returns-in_default c =
    let n : length c.args.l.now ≡ 0 = omega arith in
    n ∙ sym (content_none c.args.l.now n)

pub returns-in_default-2 : goal.returns-in_default-2
returns-in_default-2 c =
    let z : length c.args.l.now - 1 ≡ 0 = omega arith in
    sym (content_whole c.args.l.now (rw z (search rules)))

pub returns-in_default-3 : goal.returns-in_default-3
returns-in_default-3 c = sym (content_whole c.args.l.now (search rules))
