use mathlib.Core.Path.{◌≡◌, refl, ap, sym, ◌∙◌}
use mathlib.Core.List.{List}
use Prim.Native.Nat.{◌+◌, ◌/◌, ◌%◌}
use native.Mathlib.Omega.{arith}
use borrow.Author.Rules.{rules}
use lib.ListN.{set, replicate, length-set}
use lib.Seq.{set_out}
use Rattle.page.specs.Bytes.{Bytes}
use Rattle.page.proofs.FieldLaws.{from, from_all, end_in}
use Rattle.keys.specs.Numbers.{gather, gathered}
use Rattle.keys.proofs.StoreLaws.{gather_skip, gather_take, gather_past, gather_none}
use Rattle.keys.proofs.read.read_chosen.Goals as goal
use Rattle.keys.proofs.read.read_chosen.Goals.{then-kind-ne0+then-n-lt-PLACES, else-kind-ne0, else-kind-ne0-via-then-kind-ne0+else-n-lt-PLACES, else-kind-ne0-via-else-kind-ne0}

pub loop-rest-init : goal.loop-rest-init
loop-rest-init c =
    let a = c.args in
    (omega arith, refl, ap (λ (fs : List Bytes). gather a.choice.kinds a.choice.slots fs (replicate 7 0)) (from_all a.w.now))

pub overflow_add-at : goal.overflow_add-at
overflow_add-at c =
    let f = c.take_field-f in
    let h = end_in c.args.w.now c.loop-rest.at f.result.end c.if-at-w.true f.ensures.0 in
    search rules

pub loop-rest-preserved : goal.loop-rest-preserved
loop-rest-preserved c =
    let w = c.args.w.now in
    let l = c.loop-rest in
    let f = c.take_field-f in
    let a = c.if-at-w.true in
    let h = end_in w l.at f.result.end a f.ensures.0 in
    elim c.if-kind-ne0.branch [
      | then-kind-ne0+then-n-lt-PLACES x ↦
          let t = gather_take w l.at f.result.end l.rest l.slots l.k a f.ensures.0 x.if-kind-ne0.true f.result.value f.ensures.1 in
          rw x.k-is (omega arith, length-set l.k (l.slots % 8) f.result.value ∙ l.invariant.1, sym t ∙ l.invariant.2)
      | else-kind-ne0 x ↦ elim x.else-kind-ne0.branch [
        | else-kind-ne0-via-then-kind-ne0+else-n-lt-PLACES y ↦
            let t = gather_take w l.at f.result.end l.rest l.slots l.k a f.ensures.0 y.if-kind-ne0.true f.result.value f.ensures.1 in
            let o : set l.k (l.slots % 8) f.result.value ≡ l.k = set_out l.k (l.slots % 8) f.result.value (omega arith) in
            rw x.k-is (omega arith, l.invariant.1, sym (t ∙ ap (gather (l.rest / 4) (l.slots / 8) (from w (f.result.end + 1))) o) ∙ l.invariant.2)
        | else-kind-ne0-via-else-kind-ne0 y ↦
            let t = gather_skip w l.at f.result.end l.rest l.slots l.k a f.ensures.0 y.if-kind-ne0.false in
            rw x.k-is (omega arith, l.invariant.1, sym t ∙ l.invariant.2)
      ]
    ]

pub returns-else-at-w : goal.returns-else-at-w
unfolding gathered
returns-else-at-w c =
    let l = c.loop-rest in
    sym (gather_past c.args.w.now l.at l.rest l.slots l.k (omega arith)) ∙ l.invariant.2

pub returns-after-loop-rest : goal.returns-after-loop-rest
unfolding gathered
returns-after-loop-rest c =
    let l = c.loop-rest in
    let z : l.rest ≡ 0 = omega arith in
    sym (gather_none l.slots (from c.args.w.now l.at) l.k) ∙ rw z at l.invariant.2
