use Rattle.arrangement.specs.Orders.{held}
use Rattle.output.proofs.OutputLaws.{put_as, put_none}
use Rattle.records.specs.Row.{row}
use Rattle.recording.proofs.SectionLaws.{record_stays, record_goes, stays_count, goes_count}
use Rattle.recording.proofs.section.put_staying.Goals as goal

pub returns-then-does_stay-clause-form : goal.returns-then-does_stay-clause-form
returns-then-does_stay-clause-form c =
    let a = c.args in
    let v = row a.t (held a.t a.o.now) a.m a.w.now in
    put_as (record_stays a.plan a.n v _ (c.does_stay.ensures v) c.if-does_stay.true _ c.plan_record.ensures) c.put_record.ensures

pub returns-then-does_stay-clause-count : goal.returns-then-does_stay-clause-count
returns-then-does_stay-clause-count c =
    let a = c.args in
    let v = row a.t (held a.t a.o.now) a.m a.w.now in
    stays_count a.plan.stays a.n v _ (c.does_stay.ensures v) c.if-does_stay.true

pub returns-clause-form : goal.returns-clause-form
returns-clause-form c =
    let a = c.args in
    let v = row a.t (held a.t a.o.now) a.m a.w.now in
    put_as (record_goes a.plan a.n v _ (c.does_stay.ensures v) c.if-does_stay.false) put_none

pub returns-clause-count : goal.returns-clause-count
returns-clause-count c =
    let a = c.args in
    let v = row a.t (held a.t a.o.now) a.m a.w.now in
    goes_count a.plan.stays a.n v _ (c.does_stay.ensures v) c.if-does_stay.false
