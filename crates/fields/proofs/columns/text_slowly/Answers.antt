use mathlib.Core.Path.{refl, ◌∙◌}
use Rattle.page.proofs.FieldLaws.{end_in, span_in}
use Rattle.fields.proofs.ColumnLaws.{text_there}
use Rattle.fields.proofs.columns.text_slowly.Goals as goal

pub trim_in-part-requires : goal.trim_in-part-requires
trim_in-part-requires c = let a = c.args in end_in a.w.now a.at c.field_end-end.result c.requires c.field_end-end.ensures

pub read_text_field-requires : goal.read_text_field-requires
read_text_field-requires c =
    let a = c.args in
    let e = c.field_end-end in
    span_in a.w.now a.at e.result e.ensures (end_in a.w.now a.at e.result c.requires e.ensures) c.trim_in-part.result c.trim_in-part.ensures

pub returns : goal.returns
returns c =
    let a = c.args in
    let e = c.field_end-end in
    let h = end_in a.w.now a.at e.result c.requires e.ensures in
    (e.ensures, c.read_text_field.ensures ∙ text_there a.w.now a.at e.result e.ensures h c.trim_in-part.result c.trim_in-part.ensures a.size, refl)
