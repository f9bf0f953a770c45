use Rattle.std.proofs.Common.{rules, ◌≡◌, ◌<◌, ap, sym, ◌∙◌, arith, List, length}
use borrow.Author.Tests.{eqb-true, eqb-false}
use Rattle.page.specs.Lines.{content, command, Rec}
use Rattle.page.specs.Records.{Record}
use Rattle.arrangement.specs.Orders.{held}
use Rattle.output.proofs.OutputLaws.{left_is, next_by, at_end}
use Rattle.copies.specs.Changed.{kept_records}
use Rattle.copies.specs.Planned.{records_by}
use Rattle.recording.proofs.SectionLaws.{rows_more, rows_other, rows_end, passes_here, passes_more, passes_other, records_more, records_end, count_most, rows_count, rows_none}
use Rattle.recording.proofs.section.put_records.Goals as goal

pub is_listed-listed-requires : goal.is_listed-listed-requires
is_listed-listed-requires c = c.requires.0.orderly

pub put_staying-n-requires : goal.put_staying-n-requires
put_staying-n-requires c =
    let a = c.args in
    let l = c.loop-line in
    let t = rw l.invariant.bytes at c.in-Some.ensures.steps.1 in
    let x = rw t.bytes at c.content_of-x.ensures in
    let k : l.n < 18446744073709551615 = search rules in (
      c.requires.0,
      c.is_listed-listed.ensures,
      passes_here a.s.now _ _ t.before t.size a.t (held a.t a.o.now) l.m _ x (ap command c.content_of-x.ensures ∙ eqb-true (command (content c.in-Some.line.bytes.now)) 11 (sym c.is_record.ensures ∙ c.if-is_record.true)) l.invariant.sound _ c.rest_of.ensures,
      k,
    )

pub loop-line-preserved-then-is_record : goal.loop-line-preserved-then-is_record
loop-line-preserved-then-is_record c =
    let a = c.args in
    let o = held a.t a.o.now in
    let l = c.loop-line in
    let t = rw l.invariant.bytes at c.in-Some.ensures.steps.1 in
    let x = rw t.bytes at c.content_of-x.ensures in
    let q = ap command c.content_of-x.ensures ∙ eqb-true (command (content c.in-Some.line.bytes.now)) 11 (sym c.is_record.ensures ∙ c.if-is_record.true) in
    let y = rows_more a.s.now _ _ t.before t.size a.t o l.m _ x q _ c.rest_of.ensures in
    let r = c.put_staying-n.ensures in
    record {
      bytes = search rules;
      within = t.within;
      few = omega (arith, count_most a.plan.stays l.n _ _ r.count, t.some);
      sound = passes_more a.s.now _ _ t.before t.size a.t o l.m _ x q l.invariant.sound;
      count = omega (arith, rows_count a.plan.stays _ _ _ y, r.count, l.invariant.count);
      form = next_by (records_more a.plan l.n _ _ _ _ y r.count) l.invariant.form r.form;
    }

pub loop-line-preserved : goal.loop-line-preserved
loop-line-preserved c =
    let a = c.args in
    let o = held a.t a.o.now in
    let l = c.loop-line in
    let t = rw l.invariant.bytes at c.in-Some.ensures.steps.1 in
    let x = rw t.bytes at c.content_of-x.ensures in
    let q : command c.content_of-x.result.now ≡ Rec → ⊥ = λ e. eqb-false (command (content c.in-Some.line.bytes.now)) 11 (sym c.is_record.ensures ∙ c.if-is_record.false) (sym (ap command c.content_of-x.ensures) ∙ e) in
    let y = rows_other a.s.now _ _ t.before t.size a.t o l.m _ x q in
    record {
      bytes = search rules;
      within = t.within;
      few = omega (arith, t.some);
      sound = rw c.wait_on-m.ensures (passes_other a.s.now _ _ t.before t.size a.t o l.m _ x q l.invariant.sound);
      count = rw c.wait_on-m.ensures (omega (arith, ap (λ (vs : List Record). length (kept_records a.plan.stays vs)) y, l.invariant.count));
      form = rw c.wait_on-m.ensures (left_is (ap (λ (vs : List Record). records_by a.plan l.n vs) y) l.invariant.form);
    }

pub returns-clause-form : goal.returns-clause-form
returns-clause-form c =
    let a = c.args in
    let l = c.loop-line in
    let y = rows_end a.s.now l.line-iterator.at a.t (held a.t a.o.now) l.m (rw l.invariant.bytes at c.in-None.ensures.steps.2) in
    at_end (records_end a.plan l.n _ y) l.invariant.form

pub returns-clause-count : goal.returns-clause-count
returns-clause-count c =
    let a = c.args in
    let l = c.loop-line in
    let y = rows_end a.s.now l.line-iterator.at a.t (held a.t a.o.now) l.m (rw l.invariant.bytes at c.in-None.ensures.steps.2) in
    omega (arith, rows_none a.plan.stays _ y, l.invariant.count)
