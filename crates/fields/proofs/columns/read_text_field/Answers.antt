use mathlib.Core.Path.{ap, sym, ◌∙◌}
use Prim.Native.Nat.{◌-◌}
use lib.ListN.{take, drop}
use Rattle.page.specs.Reading.{later_field}
use Rattle.fields.proofs.ColumnLaws.{text_not}
use Rattle.fields.proofs.columns.read_text_field.Goals as goal

pub judge_text-requires : goal.judge_text-requires
judge_text-requires c =
    let p = c.requires in
    (p.0, p.1, sym c.text_size.ensures ∙ c.in-Some.is)

pub returns-in-None : goal.returns-in-None
returns-in-None c =
    let a = c.args in
    let f = take (a.to - a.from) (drop a.from a.w.now) in
    ap (later_field a.from) (sym (text_not a.size f (sym c.text_size.ensures ∙ c.in-None.is)))
