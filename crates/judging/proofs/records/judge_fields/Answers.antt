use mathlib.Core.Path.{◌≡◌, refl, ap, sym, ◌∙◌}
use Prim.Native.Nat.{ℕ, ◌<◌, ◌≤◌}
use native.Mathlib.Omega.{arith}
use Rattle.std.specs.Prelude.{Err}
use borrow.Author.Rules.{rules}
use borrow.Author.Tests.{ltb-true}
use lib.ListN.{length, get_or, length-drop, length-set}
use Rattle.page.specs.Bytes.{all}
use Rattle.page.specs.Lines.{allowed}
use Rattle.page.specs.Fields.{fields}
use Rattle.page.specs.Tables.{width}
use Rattle.page.specs.Order.{standing}
use Rattle.page.specs.Section.{first_wrong}
use Rattle.page.proofs.TestLaws.{false_true, and_left, and_right}
use Rattle.page.proofs.FieldLaws.{from, from_all, end_in, next_left, head_left}
use Rattle.page.proofs.TableLaws.{width_le}
use Rattle.lines.proofs.RunLaws.{all_whole}
use Rattle.digits.specs.Runs.{field_from}
use Rattle.digits.proofs.RunLaws.{from_next}
use Rattle.arrangement.specs.Orders.{held}
use Rattle.judging.proofs.RecordLaws.{wrong_hit, wrong_more, numbers_more, judged_few, judged_all, clean_more}
use Rattle.judging.proofs.records.judge_fields.Goals as goal

pub loop-k-init : goal.loop-k-init
unfolding all
loop-k-init c =
    let a = c.args in
    let w = a.w.now in
    record {
      within = omega arith;
      first = ap (first_wrong (standing a.t (held a.t a.o.now))) (from_all w);
      left = sym (from_all w);
      some = omega arith;
      wide = refl;
      numbers = λ (p : ℕ) (l : p < 0). absurd (omega arith);
      clean = λ e. refl;
    }

pub returns-then-w-at : goal.returns-then-w-at
returns-then-w-at c =
    let l = c.loop-k in
    let i = l.invariant in
    let a = c.args in
    (judged_few a.t a.o.now c.requires a.w.now l.k l.at i.first i.left i.some l.numbers (omega (arith, c.find_width-k-end.ensures)) c.if-w-at.true, λ e. false_true e)

pub bounds-o-k : goal.bounds-o-k
bounds-o-k c = omega (arith, width_le c.args.t, c.find_width-k-end.ensures)

pub overflow_cast-c : goal.overflow_cast-c
overflow_cast-c c = let s = c.requires.orderly.small c.loop-k.k in search rules

pub returns-in_err-told : goal.returns-in_err-told
returns-in_err-told c =
    let a = c.args in
    let l = c.loop-k in
    let w = a.w.now in
    let h : l.at ≤ length w = search rules in
    let k : l.k < width a.t = omega (arith, c.find_width-k-end.ensures) in
    let v = c.in_err-told.field-0.0 in
    let y : c.from_residual.result ≡ Err v = search rules in
    let x = rw (c.in_err-told.was, c.find_column.ensures) at c.judge_field.ensures in
    let m = from_next w l.at _ h refl in
    rw y (sym (sym l.invariant.first ∙ wrong_hit a.t a.o.now c.requires l.k k _ _ (from w _) m _ x.0 x.1), x.1)

pub overflow_add-at : goal.overflow_add-at
overflow_add-at c =
    let l = c.loop-k in
    let x = rw c.in_ok-told.was at c.judge_field.ensures in
    let h = end_in c.args.w.now l.at c.in_ok-told.told.end (search rules) x.0 in
    omega (arith, h, c.well_formed.0.1)

pub loop-k-preserved : goal.loop-k-preserved
unfolding allowed
loop-k-preserved c =
    let a = c.args in
    let x = c.requires in
    let l = c.loop-k in
    let i = l.invariant in
    let w = a.w.now in
    let r = c.in_ok-told.told in
    let e = rw (c.in_ok-told.was, c.find_column.ensures) at c.judge_field.ensures in
    let h : l.at ≤ length w = search rules in
    let k : l.k < width a.t = omega (arith, c.find_width-k-end.ensures) in
    let m = from_next w l.at r.end h e.0 in
    let u = end_in w l.at r.end h e.0 in
    let d = i.left ∙ m in
    record {
      within = omega arith;
      first = sym (wrong_more a.t a.o.now x l.k k _ _ (from w l.at) m _ (sym e.1) refl) ∙ i.first;
      left = next_left (fields w) l.k _ _ d;
      some = omega (arith, ap length d, length-drop l.k (fields w));
      wide = length-set l.numbers (get_or a.o.now l.k 0) r.value ∙ i.wide;
      numbers = numbers_more a.t a.o.now x (fields w) l.k l.numbers (field_from w l.at) _ k i.wide i.numbers (head_left (fields w) l.k _ _ d) e.1 e.2;
      clean = clean_more (allowed a.wide) refl w l.at r.end h e.0 l.clean r.clean i.clean e.3;
    }

pub returns : goal.returns
returns c =
    let l = c.loop-k in
    let i = l.invariant in
    let a = c.args in
    let k : width a.t ≡ l.k = omega (arith, c.find_width-k-end.ensures) in (
      judged_all a.t a.o.now c.requires a.w.now l.k l.at i.first i.left i.some l.numbers k i.numbers,
      λ e. all_whole (allowed a.wide) a.w.now l.at (omega (arith, ltb-true (length a.w.now) l.at (and_right l.clean _ e))) (i.clean (and_left l.clean _ e)),
    )
