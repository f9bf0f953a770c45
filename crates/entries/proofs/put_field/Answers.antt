use Rattle.output.proofs.OutputLaws.{put_as, put_none}
use Rattle.copies.proofs.FieldLaws.{field_filled, field_text, field_amount, field_missing}
use Rattle.entries.proofs.EntryLaws.{words_asked, number_asked, missing_asked, refusal_asked}
use Rattle.entries.proofs.put_field.Goals as goal

pub returns-in-Some : goal.returns-in-Some
returns-in-Some c =
    let x = c.in-Some.ensures in
    put_as (field_filled _ _ _ _ _ _ _ x.0) (rw x.1 at c.put_quoted.ensures)

pub put_words-requires : goal.put_words-requires
put_words-requires c =
    let a = c.args in
    let q = c.requires in
    let r = c.read_field in
    let x = words_asked a.t a.k a.w.now a.from q.1 q.2 c.find_column.result c.find_column.ensures r.result.field r.ensures.1 c.in-Text.place c.in-Text.is in
    (x.begins, x.within)

pub returns-in-Text : goal.returns-in-Text
returns-in-Text c =
    let a = c.args in
    let q = c.requires in
    let r = c.read_field in
    let x = words_asked a.t a.k a.w.now a.from q.1 q.2 c.find_column.result c.find_column.ensures r.result.field r.ensures.1 c.in-Text.place c.in-Text.is in
    put_as (field_text _ _ _ _ _ _ _ c.in_default.ensures x.kind _ x.raw _ c.is_stripped.ensures) c.put_words.ensures

pub returns-in-Number : goal.returns-in-Number
returns-in-Number c =
    let a = c.args in
    let q = c.requires in
    let r = c.read_field in
    let x = number_asked a.t a.k a.w.now a.from q.1 q.2 c.find_column.result c.find_column.ensures r.result.field r.ensures.1 c.in-Number.n c.in-Number.is in
    put_as (field_amount _ _ _ _ _ _ _ c.in_default.ensures x.0 x.1 _ x.2) c.put_decimal.ensures

pub returns-in-Missing : goal.returns-in-Missing
returns-in-Missing c =
    let a = c.args in
    let q = c.requires in
    let r = c.read_field in
    let x = missing_asked a.t a.k a.w.now a.from q.1 q.2 c.find_column.result c.find_column.ensures r.result.field r.ensures.1 c.in-Missing.is in
    put_as (field_missing _ _ _ _ _ _ _ c.in_default.ensures x.0 x.1) put_none

pub returns-in-Refused : goal.returns-in-Refused
returns-in-Refused c =
    let a = c.args in
    let q = c.requires in
    let r = c.read_field in
    absurd (refusal_asked a.t a.k a.w.now a.from q.1 q.2 c.find_column.result c.find_column.ensures r.result.field r.ensures.1 c.in-Refused.field-0 c.in-Refused.is)
