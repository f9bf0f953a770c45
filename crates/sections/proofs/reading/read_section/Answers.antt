use Rattle.sections.proofs.RunLaws.{row_from}
use Rattle.sections.proofs.reading.read_section.Goals as goal

pub returns : goal.returns
returns c =
    let a = c.args in
    let e = c.section_end-e in
    row_from a.latin a.s.now a.from e.result c.read_lines-o.result e.ensures.0 e.ensures.2 c.read_lines-o.ensures
