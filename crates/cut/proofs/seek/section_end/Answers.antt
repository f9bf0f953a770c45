use Rattle.std.proofs.Common.{◌≡◌, ◌+◌, drop, arith}
use Rattle.page.proofs.LineLaws.{line_size}
use Rattle.cut.proofs.WalkLaws.{end_from}
use Rattle.cut.proofs.seek.section_end.Goals as goal

pub returns : goal.returns
returns c =
    let a = c.args in
    let t = rw (c.lines_from.ensures.bytes, c.lines_from.ensures.at) at c.in-Some.ensures.steps.1 in
    let q : c.end-e.result ≡ a.from + line_size (drop a.from a.s.now) = omega arith in
    end_from a.s.now a.from c.end-e.result c.header_size.result c.requires q c.header_size.ensures.0
