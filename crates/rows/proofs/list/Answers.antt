use Rattle.std.proofs.Common.{◌≡◌, ◌<◌, length, sym, ap, ◌∙◌, arith}
use Rattle.std.proofs.Common.{ℕ, Bool, List}
use Rattle.page.specs.Bytes.{Bytes}
use Rattle.page.specs.declared.Row.{Row}
use Rattle.page.specs.Answers.{earlier}
use Rattle.page.specs.File.{file_refusal}
use Rattle.page.specs.declared.Refusal.{Refusal}
use Rattle.steps.specs.Steps.{at_of, start_of}
use Rattle.steps.specs.declared.Start.{Start}
use Rattle.steps.specs.declared.Step.{Step}
use Rattle.rows.specs.Walk.{step_of, step_at, sound_at, filled}
use Rattle.rows.proofs.WalkLaws.{start_room, start_rows, start_at, start_refusal, begins_at, step_here, known_at, sound_none, filled_none, filled_step, filled_all}
use Rattle.rows.proofs.list.Goals as goal

pub loop-i-init : goal.loop-i-init
loop-i-init c =
    let s = c.args.file.now in
    let ys = c.args.rows.now in
    record {
      rows = filled_none s ys;
      place = ap (λ (b : Start). b.at) c.begin_list-b.ensures ∙ start_at s (length ys);
      known = sound_none s;
    }

-- what is handed out at section i
handed : (s : Bytes) (ys : List Row) (b : Start) → b ≡ start_of s (length ys) → (i at : ℕ) (known : Bool) → i < b.count
    → at ≡ at_of s (length ys) i → known ≡ sound_at s i → step_of s at b.latin known ≡ step_at s (length ys) i
handed s ys b e i at known h p k = rw (e, p, k) (step_here s (length ys) i (rw e at h))

pub read_step-t-requires : goal.read_step-t-requires
read_step-t-requires c =
    let s = c.args.file.now in
    let l = c.loop-i in
    rw l.invariant.place (begins_at s (length c.args.rows.now) l.i (rw c.begin_list-b.ensures at c.loop-i-test.true))

pub bounds-rows-i : goal.bounds-rows-i
bounds-rows-i c =
    let m = start_room c.args.file.now (length c.args.rows.now) in
    let h = rw c.begin_list-b.ensures at c.loop-i-test.true in
    omega (arith, h, m, c.loop-i.auto.rows)

pub offset_bounds-rows-i : goal.offset_bounds-rows-i
offset_bounds-rows-i c =
    let m = start_room c.args.file.now (length c.args.rows.now) in
    let h = rw c.begin_list-b.ensures at c.loop-i-test.true in
    omega (arith, h, m, c.well_formed.1.0.1)

pub loop-i-preserved : goal.loop-i-preserved
loop-i-preserved c =
    let s = c.args.file.now in
    let ys = c.args.rows.now in
    let l = c.loop-i in
    let b = c.begin_list-b in
    let less = rw b.ensures at c.loop-i-test.true in
    let m = start_room s (length ys) in
    let k = start_rows s (length ys) in
    let e = c.read_step-t.ensures ∙ handed s ys b.result b.ensures l.i l.at l.sound c.loop-i-test.true l.invariant.place l.invariant.known in
    record {
      rows = rw (l.invariant.rows, ap (λ (x : Step). x.row) e) (filled_step s ys l.i (omega (arith, less, k)) (omega (arith, less, m)));
      place = ap (λ (x : Step). x.next) e;
      known = ap (λ (x : Step). x.sound) e;
    }

pub answer_list-requires : goal.answer_list-requires
answer_list-requires c =
    let s = c.args.file.now in
    let ys = c.args.rows.now in
    let l = c.loop-i in
    let b = c.begin_list-b in
    let over : l.i ≡ b.result.count = omega arith in
    λ r k. known_at s (length ys) (rw b.ensures at r) (rw (sym (ap (λ (x : Start). x.count) b.ensures)) (rw (sym over) (sym l.invariant.known ∙ k)))

pub returns : goal.returns
returns c =
    let s = c.args.file.now in
    let ys = c.args.rows.now in
    let l = c.loop-i in
    let b = c.begin_list-b in
    let over : l.i ≡ b.result.count = omega arith in (
      c.answer_list.ensures ∙ ap (λ (x : Refusal). earlier x (file_refusal s)) (ap (λ (x : Start). x.refusal) b.ensures ∙ start_refusal s (length ys)),
      l.invariant.rows ∙ ap (filled s ys) (over ∙ ap (λ (x : Start). x.count) b.ensures) ∙ filled_all s ys,
    )
