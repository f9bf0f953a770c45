use Rattle.std.proofs.Common.{◌≡◌, ap, ◌∙◌, arith, length, rules}
use Rattle.page.specs.Cut.{sections}
use Rattle.page.proofs.CutLaws.{sections_all, sections_end}
use Rattle.output.proofs.OutputLaws.{begin, left_is, next_by, at_end}
use Rattle.recording.proofs.SectionLaws.{tables_begin, tables_more, tables_end, passing_here, passing_rest, passes_section}
use Rattle.writing.proofs.file.put_sections.Goals as goal

pub loop-section-init : goal.loop-section-init
loop-section-init c =
    let a = c.args in
    let s = a.s.now in
    let k = c.sections_of-section-items in
    let e : c.into_iter-section-iterator.result ≡ k.result = search rules in
    let f = k.ensures.at in
    let y = f.same ∙ sections_all s in
    rw e (record {
      bytes = k.ensures.bytes;
      few = omega arith;
      settled = f.settled;
      passing = rw y c.requires;
      count = omega (arith, ap length y);
      form = left_is (tables_begin a.plan (sections s) _ y) begin;
    })

pub put_section-requires : goal.put_section-requires
put_section-requires c =
    let i = c.loop-section.invariant in
    let t = rw i.bytes at c.in-Some.ensures.steps.1 in
    (t.some, passes_section _ _ t.lines (passing_here (rw (t.cut i.settled) at i.passing)))

pub loop-section-preserved : goal.loop-section-preserved
loop-section-preserved c =
    let a = c.args in
    let l = c.loop-section in
    let i = l.invariant in
    let t = rw i.bytes at c.in-Some.ensures.steps.1 in
    let f = t.next in
    let g = t.cut i.settled in
    let z = tables_more a.plan l.n _ _ _ _ _ g c.plan_section.ensures t.lines in
    record {
      bytes = search rules;
      few = omega (arith, f.after, i.few, t.some, t.size);
      settled = f.settled;
      passing = passing_rest (rw g at i.passing);
      count = omega (arith, ap length g, i.count);
      form = next_by z i.form c.put_section.ensures;
    }

pub returns-clause-form : goal.returns-clause-form
returns-clause-form c =
    let l = c.loop-section in
    let o = rw l.invariant.bytes at c.in-None.ensures.steps.2 in
    at_end (tables_end c.args.plan l.n _ (sections_end c.args.s.now _ o)) l.invariant.form

pub returns-clause-count : goal.returns-clause-count
returns-clause-count c =
    let l = c.loop-section in
    let o = rw l.invariant.bytes at c.in-None.ensures.steps.2 in
    omega (arith, ap length (sections_end c.args.s.now _ o), l.invariant.count)
