use Rattle.copies.specs.declared.plan.Fill.{Fill}
use Rattle.writing.proofs.FillLaws.{fill_ready, fill_done}
use Rattle.writing.proofs.checked.fill_checked.Goals as goal

pub hand_form-requires : goal.hand_form-requires
hand_form-requires c =
    let a = c.args in
    let x : Fill = record { section = a.section; rec = a.entry; field = a.field; text = a.text } in
    fill_ready a.s.now x _ c.requires

pub returns : goal.returns
returns c =
    let a = c.args in
    let x : Fill = record { section = a.section; rec = a.entry; field = a.field; text = a.text } in
    fill_done a.s.now x _ c.requires _ _ _ c.hand_form.ensures
