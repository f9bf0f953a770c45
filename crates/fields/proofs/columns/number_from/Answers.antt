use mathlib.Core.Path.{ap, sym, ◌∙◌}
use Rattle.page.specs.Fields.{number_of}
use Rattle.page.specs.Section.{field_of}
use Rattle.page.proofs.FieldLaws.{end_in}
use Rattle.fields.proofs.ColumnLaws.{number_part}
use Rattle.fields.proofs.columns.number_from.Goals as goal

pub judge_number-requires : goal.judge_number-requires
judge_number-requires c =
    let a = c.args in
    let n = c.number_at-read in
    let i = end_in a.w.now a.at n.result.end c.requires.0 n.ensures.0 in
    (i.0, i.1, c.requires.1, n.ensures.1 ∙ ap number_of (sym (number_part a.w.now a.at n.result.end n.ensures.0)))

pub returns : goal.returns
returns c =
    let a = c.args in
    let n = c.number_at-read in
    (n.ensures.0, c.judge_number.ensures ∙ ap (field_of a.column) (number_part a.w.now a.at n.result.end n.ensures.0), n.ensures.2)
