use mathlib.Core.Path.{ap, sym, ◌∙◌}
use Rattle.page.specs.Section.{field_number}
use Rattle.page.specs.Places.{span_from}
use Rattle.digits.specs.Runs.{field_from}
use Rattle.judging.specs.Judging.{judged_number}
use Rattle.judging.proofs.RecordLaws.{refusal_read, value_read, span_read, refused_some}
use Rattle.judging.proofs.records.judge_field.Goals as goal

pub overflow_sub-value : goal.overflow_sub-value
overflow_sub-value c =
    let a = c.args in
    let r = c.read_field-r in
    span_read a.column (field_from a.w.now a.at) (span_from a.w.now a.at).from _ (sym c.in-Text.is ∙ r.ensures.1)

pub returns-in-Refused : goal.returns-in-Refused
unfolding field_number
returns-in-Refused c = let r = c.read_field-r in
    let a = c.args in
    let f = field_from a.w.now a.at in
    let k = (span_from a.w.now a.at).from in
    let e = c.in-Refused.is in
    (ap field_number (sym e) ∙ refusal_read a.column f k r.result.field r.ensures.1, refused_some a.column f k _ (sym e ∙ r.ensures.1))

pub returns-in-Text : goal.returns-in-Text
unfolding field_number judged_number
returns-in-Text c = let r = c.read_field-r in
    let a = c.args in
    let f = field_from a.w.now a.at in
    let k = (span_from a.w.now a.at).from in
    let e = c.in-Text.is in
    (r.ensures.0, sym (ap field_number (sym e) ∙ refusal_read a.column f k r.result.field r.ensures.1), ap judged_number (sym e) ∙ value_read a.column f k r.result.field r.ensures.1, r.ensures.2)

pub returns-in-Number : goal.returns-in-Number
unfolding field_number judged_number
returns-in-Number c = let r = c.read_field-r in
    let a = c.args in
    let f = field_from a.w.now a.at in
    let k = (span_from a.w.now a.at).from in
    let e = c.in-Number.is in
    (r.ensures.0, sym (ap field_number (sym e) ∙ refusal_read a.column f k r.result.field r.ensures.1), ap judged_number (sym e) ∙ value_read a.column f k r.result.field r.ensures.1, r.ensures.2)

pub returns-in-Missing : goal.returns-in-Missing
unfolding field_number judged_number
returns-in-Missing c = let r = c.read_field-r in
    let a = c.args in
    let f = field_from a.w.now a.at in
    let k = (span_from a.w.now a.at).from in
    let e = c.in-Missing.is in
    (r.ensures.0, sym (ap field_number (sym e) ∙ refusal_read a.column f k r.result.field r.ensures.1), ap judged_number (sym e) ∙ value_read a.column f k r.result.field r.ensures.1, r.ensures.2)
