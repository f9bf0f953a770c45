use mathlib.Core.Path.{sym}
use Rattle.names.proofs.TitleLaws.{table_from}
use Rattle.names.proofs.titles.table_at.Goals as goal

pub returns : goal.returns
returns c =
    let a = c.args in
    let t = rw (c.lines_from.ensures.bytes, c.lines_from.ensures.at) at c.in-Some.ensures.steps.1 in
    rw (table_from a.s.now a.at c.requires _ t.size, sym t.bytes, sym c.content_of.ensures, sym c.rest_of-w.ensures, sym c.field_at.ensures) c.find_table.ensures
