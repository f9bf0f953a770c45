use mathlib.Core.Path.{◌≡◌, refl, sym, ap, ◌∙◌}
use Prim.Native.Nat.{◌≤◌}
use native.Mathlib.Omega.{arith}
use lib.ListN.{length}
use Rattle.page.specs.Section.{outcome}
use Rattle.machine.specs.Carries.{records_in, order_at, Carries}
use Rattle.machine.specs.Moves.{phase_of}
use Rattle.sections.proofs.RunLaws.{turn_go, turn_stop, run_end, step_small}
use Rattle.sections.proofs.reading.read_lines.Goals as goal

pub loop-line-init : goal.loop-line-init
unfolding records_in outcome order_at Carries
loop-line-init c = record { within = omega arith; read = omega arith; counted = omega arith; carries = tt; ran = refl }

pub returns-in_default : goal.returns-in_default
returns-in_default c =
    let l = c.loop-line in
    let r = c.skip_records-r in
    let y = rw c.in_default.is at c.next.ensures.steps in
    let h : length c.args.s.now ≤ r.result.at = rw (c.lines_from.ensures.bytes, c.lines_from.ensures.at) at y.2 in
    c.finish.ensures ∙ sym (run_end c.args.s.now r.result.at _ r.result.phase _ _ h) ∙ sym (r.ensures.4 l.n) ∙ l.invariant.ran

pub returns-in-Err : goal.returns-in-Err
returns-in-Err c =
    let s = c.args.s.now in
    let l = c.loop-line in
    let r = c.skip_records-r in
    let t = rw (c.lines_from.ensures.bytes, c.lines_from.ensures.at) at c.in-Some.ensures.steps.1 in
    let x = rw t.bytes at c.step.ensures.0 in
    rw (c.refuse.ensures, c.table_in.ensures)
    (sym (turn_stop s r.result.at _ t.before t.size _ _ _ _ _ x _ (ap phase_of c.in-Err.is)) ∙ sym (r.ensures.4 l.n) ∙ l.invariant.ran)

pub loop-line-preserved : goal.loop-line-preserved
loop-line-preserved c =
    let s = c.args.s.now in
    let l = c.loop-line in
    let r = c.skip_records-r in
    let t = rw (c.lines_from.ensures.bytes, c.lines_from.ensures.at) at c.in-Some.ensures.steps.1 in
    let x = rw t.bytes at c.step.ensures.0 in
    let k = rw t.bytes at (c.step.ensures.1 c.in-Ok.m c.in-Ok.is) in
    let g = ap phase_of c.in-Ok.is in
    let z : c.end-at.result ≡ c.next.new.self.at = omega arith in
    record {
      within = omega arith;
      read = omega arith;
      counted = omega (arith, step_small _ _ _ _ _ (sym x ∙ g));
      carries = k.carries;
      ran = rw z (sym (turn_go s r.result.at _ t.before t.size _ _ _ _ _ x _ g _ k) ∙ sym (r.ensures.4 l.n) ∙ l.invariant.ran);
    }
